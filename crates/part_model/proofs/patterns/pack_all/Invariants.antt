use Rattle.std.proofs.Common.{◌≡◌, ◌++◌, false, drop}
use Rattle.std.specs.List.{list_any}
use Rattle.part_model.specs.Plans.{wrong_length}
use Rattle.part_model.proofs.patterns.pack_all.Given as goal

abbrev pub invariant-loop-pattern : goal.invariant-loop-pattern
invariant-loop-pattern l = (l.packed.items ++ drop l.pattern-index l.patterns ≡ l.patterns) × (list_any (wrong_length l.count) (drop l.pattern-index l.patterns) ≡ false)
