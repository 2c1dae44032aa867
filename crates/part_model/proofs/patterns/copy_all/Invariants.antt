use Rattle.std.proofs.Common.{◌≡◌, ◌++◌, drop}
use Rattle.part_model.proofs.patterns.copy_all.Given as goal

abbrev pub invariant-loop-pattern : goal.invariant-loop-pattern
invariant-loop-pattern l = l.copied.items ++ drop l.pattern-index l.patterns ≡ l.patterns
