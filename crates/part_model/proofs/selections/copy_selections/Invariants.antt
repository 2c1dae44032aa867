use Rattle.std.proofs.Common.{◌≡◌, ◌++◌, drop}
use Rattle.part_model.proofs.selections.copy_selections.Given as goal

abbrev pub invariant-loop-selection : goal.invariant-loop-selection
invariant-loop-selection l = l.copied.items ++ drop l.selection-index l.selections ≡ l.selections
