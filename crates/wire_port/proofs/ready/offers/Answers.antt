use Rattle.std.proofs.Common.{map, subst, sym, List, ℕ, arith, ◌∙◌}
use Rattle.wire_port.specs.Scripts.{line_of}
use Rattle.wire_port.specs.Playing.{Offers}
use Rattle.wire_port.proofs.Readying.{none_offered, front_is}
use Rattle.wire_port.proofs.ready.offers.Goals as goal

pub returns : goal.returns
returns c =
    let zeros = c.in_ok-table.ensures.items_if_clones_equal (λ y is. is) in
    subst (λ (table : List ℕ). Offers table (map line_of c.args.lines.now)) (sym (front_is _ c.add_offers.new.table _ (omega (arith, c.deref_mut.ensures.len, c.add_offers.auto.table))))
    (none_offered c.deref_mut.result.now (map line_of c.args.lines.now) c.add_offers.new.table (c.deref_mut.ensures.value ∙ zeros) c.add_offers.auto.table c.in_ok-add_offers.ensures)
