use Rattle.std.proofs.Common.{arith}
use Rattle.chain_model.proofs.Tape.{next_digit}
use Rattle.chain_model.proofs.demo.pattern.Goals as goal

pub loop-preserved : goal.loop-preserved
loop-preserved c =
    next_digit c.loop.digits.items _ _ c.args.count c.loop.counter c.loop.rest c.digit.result (omega (arith, c.loop-test.true)) c.in_ok-push.ensures.items c.digit.ensures c.loop.invariant
