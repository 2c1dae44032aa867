use Rattle.std.proofs.Common.{arith}
use Rattle.chain_model.proofs.Latches.{next_latch}
use Rattle.chain_model.proofs.registers.zero_latches.Goals as goal

pub loop-register-preserved : goal.loop-register-preserved
loop-register-preserved c = record {
  latches = next_latch c.args.part.now c.loop-register.latches.items _ _ c.loop-register.register _ _ c.loop-register.invariant.named (omega (arith, c.loop-register-test.true, c.regs-register-end.ensures)) c.len_of.ensures
      c.in_ok-zeros.ensures c.in_ok-push.ensures.items c.loop-register.invariant.latches;
  named = omega (arith, c.loop-register.invariant.named);
}
