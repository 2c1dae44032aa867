use Rattle.std.proofs.Common.{◌≡◌, ◌+◌, ◌++◌, true, nat_lt, drop, map, length}
use Rattle.std.specs.List.{list_all}
use Rattle.part_model.specs.Parts.{numbered}
use Rattle.part_model.specs.Plans.{register_for}
use Rattle.part_model.proofs.selections.selected_registers.Given as goal

abbrev pub invariant-loop-opcode : goal.invariant-loop-opcode
invariant-loop-opcode l = (map numbered l.found.items ++ map (λ opcode. register_for l.plan.access opcode.name) (drop l.opcode-index l.plan.opcodes) ≡ map (λ opcode. register_for l.plan.access opcode.name) l.plan.opcodes)
    × (list_all (λ register. nat_lt register (4 + length l.index.known.registers.items)) l.found.items ≡ true)
