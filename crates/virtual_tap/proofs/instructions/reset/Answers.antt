use Rattle.std.proofs.Common.{◌≡◌, ◌∙◌, ◌+◌, ◌<◌, ◌^◌, arith, subst}
use Rattle.std.proofs.lemmas.List.{length-set}
use Rattle.scan_bits.specs.Words.{bits_of}
use Rattle.virtual_tap.specs.Instructions.{InstructionState}
use Rattle.virtual_tap.proofs.Shifting.{next_coded}
use Rattle.virtual_tap.proofs.instructions.reset.Goals as goal

pub loop-at-preserved : goal.loop-at-preserved
loop-at-preserved c = record {
  coded =
      next_coded (λ (register : InstructionState). register.part.reset_code) c.args.registers.now c.loop-at.codes c.loop-at.at (c.loop-at.at + 1) c.reset_code.result c.index-registers-at.result (omega (arith, c.loop-at-test.true, c.loop-at.invariant.long)) c.loop-at.invariant.long (omega arith)
      c.loop-at.invariant.coded
      (subst (λ (register : InstructionState). bits_of register.part.ir_length c.reset_code.result ≡ (λ (register : InstructionState). register.part.reset_code) register) c.index-registers-at.is c.reset_code.ensures.is)
      (subst (λ (register : InstructionState). c.reset_code.result < 2 ^ register.part.ir_length) c.index-registers-at.is c.reset_code.ensures.bound);
  long = length-set c.loop-at.codes c.loop-at.at c.reset_code.result ∙ c.loop-at.invariant.long;
}
