use Rattle.std.proofs.Common.{◌≡◌, ◌||◌, ℕ, List, drop, map}
use Rattle.std.specs.Option.{is_some}
use Rattle.std.specs.declared.option.Option.TheVariants.{None}
use Rattle.part_model.specs.NameIndexes.{told, value_of}
use Rattle.part_model.specs.Plans.{is_listed}
use Rattle.part_model.proofs.register_index.instructions.Given as goal

abbrev pub invariant-loop-opcode : goal.invariant-loop-opcode
invariant-loop-opcode l = ((name : List ℕ) → (is_some (value_of l.index name) || is_listed name (map (λ opcode. opcode.name) (drop l.opcode-index l.opcodes))) ≡ is_listed name (map (λ opcode. opcode.name) l.opcodes))
    × ((name : List ℕ) → told (value_of l.index name) ≡ None)
