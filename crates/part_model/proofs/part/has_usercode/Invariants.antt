use Rattle.std.proofs.Common.{◌≡◌, drop}
use Rattle.part_model.specs.Parts.{has_usercode, instructions_of}
use Rattle.part_model.proofs.part.has_usercode.Given as goal

abbrev pub invariant-loop-opcode : goal.invariant-loop-opcode
invariant-loop-opcode l = has_usercode (instructions_of (drop l.opcode-index l.opcodes)) ≡ has_usercode (instructions_of l.opcodes)
