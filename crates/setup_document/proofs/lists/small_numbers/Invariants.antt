use Rattle.std.proofs.Common.{◌≡◌, drop, Ok, ◌++◌}
use Rattle.toml.specs.View.{items_view}
use Rattle.setup_document.specs.Keys.{small_numbers, and_then}
use Rattle.setup_document.proofs.lists.small_numbers.Given as goal

abbrev pub invariant-loop-value : goal.invariant-loop-value
invariant-loop-value l = small_numbers l.place (items_view l.values) ≡ and_then (small_numbers l.place (items_view (drop l.value-index l.values))) (λ numbers. Ok (l.numbers ++ numbers))
