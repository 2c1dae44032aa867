use Rattle.std.proofs.Common.{◌∙◌, ap, arith, false, length}
use Rattle.std.proofs.lemmas.List.{length-replicate}
use Rattle.chain_tests.proofs.virtual_taps.fill.Goals as goal

pub push-requires : goal.push-requires
push-requires c =
    let long = ap length c.loop.invariant.bits ∙ length-replicate c.loop.counter false in
    omega (arith, long, c.loop.invariant.room, c.requires, c.loop-test.true)
