use Rattle.std.proofs.Common.{◌≡◌, ◌+◌, ◌++◌, true, false, nat_lt, drop, length}
use Rattle.std.specs.List.{list_all}
use Rattle.std.specs.Vec.Iter.{into_iter_items, into_iter_len}
use Rattle.part_model.specs.Parts.{instructions_of, all_below}
use Rattle.part_model.specs.Plans.{with_registers, any_of_another_length, all_have_patterns}
use Rattle.part_model.proofs.selections.selections.Given as goal

abbrev pub invariant-loop-opcode : goal.invariant-loop-opcode
invariant-loop-opcode l = (instructions_of l.found.items ++ with_registers (into_iter_items l.opcode-iterator) (drop (length l.found.items) l.registers.selected.items) ≡ with_registers l.fn.opcodes.items l.registers.selected.items)
    × (all_below (4 + length l.registers.named.items) l.found.items ≡ true)
    × (into_iter_len l.opcode-iterator ≡ length (into_iter_items l.opcode-iterator))
    × (any_of_another_length l.count (into_iter_items l.opcode-iterator) ≡ false)
    × (all_have_patterns (into_iter_items l.opcode-iterator) ≡ true)
    × (length l.found.items + length (into_iter_items l.opcode-iterator) ≡ length l.registers.selected.items)
    × (list_all (λ register. nat_lt register (4 + length l.registers.named.items)) l.registers.selected.items ≡ true)
