use Rattle.std.proofs.Common.{◌≡◌, drop}
use Rattle.part_model.specs.Plans.{any_of_another_length}
use Rattle.part_model.proofs.refusals.has_wrong_length.Given as goal

abbrev pub invariant-loop-opcode : goal.invariant-loop-opcode
invariant-loop-opcode l = any_of_another_length l.count (drop l.opcode-index l.opcodes) ≡ any_of_another_length l.count l.opcodes
