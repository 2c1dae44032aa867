use Rattle.std.proofs.Common.{◌≡◌, drop}
use Rattle.std.specs.List.{list_any}
use Rattle.part_model.specs.Plans.{wrong_length}
use Rattle.part_model.proofs.patterns.any_wrong_length.Given as goal

abbrev pub invariant-loop-pattern : goal.invariant-loop-pattern
invariant-loop-pattern l = list_any (wrong_length l.count) (drop l.pattern-index l.patterns) ≡ list_any (wrong_length l.count) l.patterns
