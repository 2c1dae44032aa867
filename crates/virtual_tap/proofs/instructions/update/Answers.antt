use Rattle.std.proofs.Common.{◌≡◌, ◌∙◌, ◌+◌, ◌<◌, ◌^◌, arith, subst}
use Rattle.std.proofs.lemmas.List.{length-set}
use Rattle.scan_bits.specs.Words.{bits_of}
use Rattle.virtual_tap.specs.Instructions.{InstructionState}
use Rattle.virtual_tap.proofs.Shifting.{next_coded}
use Rattle.virtual_tap.proofs.instructions.update.Goals as goal

pub loop-at-preserved : goal.loop-at-preserved
loop-at-preserved c = record {
  coded =
      next_coded (λ (register : InstructionState). register.stage) c.args.registers.now c.loop-at.codes c.loop-at.at (c.loop-at.at + 1) c.staged_code.result c.index-registers-at.result (omega (arith, c.loop-at-test.true, c.loop-at.invariant.long)) c.loop-at.invariant.long (omega arith)
      c.loop-at.invariant.coded
      (subst (λ (register : InstructionState). bits_of register.part.ir_length c.staged_code.result ≡ (λ (register : InstructionState). register.stage) register) c.index-registers-at.is c.staged_code.ensures.is)
      (subst (λ (register : InstructionState). c.staged_code.result < 2 ^ register.part.ir_length) c.index-registers-at.is c.staged_code.ensures.bound);
  long = length-set c.loop-at.codes c.loop-at.at c.staged_code.result ∙ c.loop-at.invariant.long;
}
