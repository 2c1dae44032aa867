use Rattle.std.proofs.Common.{◌≡◌, drop}
use Rattle.part_model.specs.Plans.{has_opcode}
use Rattle.part_model.proofs.refusals.has_opcode.Given as goal

abbrev pub invariant-loop-opcode : goal.invariant-loop-opcode
invariant-loop-opcode l = has_opcode (drop l.opcode-index l.opcodes) l.name ≡ has_opcode l.opcodes l.name
