use Rattle.wire_port.proofs.Readying.{none_prepared}
use Rattle.wire_port.proofs.ready.waiting_links.Goals as goal

pub loop-at-init : goal.loop-at-init
loop-at-init c = none_prepared _ _ _ c.requires c.new-waiting.ensures.items (c.in_ok-table.ensures.items_if_clones_equal (λ y is. is))
