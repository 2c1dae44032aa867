use Rattle.std.proofs.Common.{◌≡◌, true, false, drop}
use Rattle.part_model.specs.Plans.{idcode_pattern, any_of_another_length, all_have_patterns}
use Rattle.part_model.proofs.reset.idcode_code.Given as goal

abbrev pub invariant-loop-opcode : goal.invariant-loop-opcode
invariant-loop-opcode l = (idcode_pattern l.count (drop l.opcode-index l.opcodes) ≡ idcode_pattern l.count l.opcodes)
    × (any_of_another_length l.count (drop l.opcode-index l.opcodes) ≡ false)
    × (all_have_patterns (drop l.opcode-index l.opcodes) ≡ true)
