use Rattle.std.proofs.Common.{◌≡◌, ℕ, List, [], ◌∷◌, drop, not, true, if◌then◌else◌}
use Rattle.std.specs.List.{list_any}
use Rattle.std.specs.Option.{is_some, option_or}
use Rattle.std.specs.declared.option.Option.TheVariants.{None, Some}
use Rattle.part_model.specs.NameIndexes.{told, value_of}
use Rattle.part_model.specs.Plans.{is_listed, mentioned}
use Rattle.part_model.proofs.register_index.mention_register.Given as goal

abbrev pub invariant-loop-instruction : goal.invariant-loop-instruction
invariant-loop-instruction l = ((name : List ℕ) → is_some (value_of l.index name) ≡ is_some (value_of l.initial.index name))
    × ((name : List ℕ) → is_some (value_of l.initial.index name) ≡ true → option_or (told (value_of l.index name)) (if is_listed name (drop l.instruction-index l.access.instructions) then Some l.access.register else None) ≡ option_or (told (value_of l.initial.index name)) (mentioned (l.access ∷ []) name))
    × (list_any (λ instruction. not (is_some (value_of l.initial.index instruction))) (drop l.instruction-index l.access.instructions) ≡ list_any (λ instruction. not (is_some (value_of l.initial.index instruction))) l.access.instructions)
