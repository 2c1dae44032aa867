use Rattle.std.proofs.Common.{◌≡◌, suc, length, drop, Ok, ◌++◌}
use Rattle.toml.specs.View.{items_view}
use Rattle.setup_document.specs.declared.plan.Place.TheVariants as place
use Rattle.setup_document.specs.Keys.{each, and_then}
use Rattle.setup_document.specs.Documents.{net}
use Rattle.setup_document.proofs.document.nets.Given as goal

abbrev pub invariant-loop-value : goal.invariant-loop-value
invariant-loop-value l =
    (length l.entries ≡ l.value-index)
    × (each place.Net net 1 (items_view l.values) ≡ and_then (each place.Net net (suc (length l.entries)) (items_view (drop l.value-index l.values))) (λ entries. Ok (l.entries ++ entries)))
