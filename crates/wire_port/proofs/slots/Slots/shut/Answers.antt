use Rattle.std.proofs.Common.{ap, refl, List}
use Rattle.wire_port.specs.Links.{LinkView, link_shut}
use Rattle.wire_port.proofs.Places.{slot_changed, table_stays}
use Rattle.wire_port.proofs.slots.Slots.shut.Goals as goal

pub invariant_of-self : goal.invariant_of-self
invariant_of-self c = (
  table_stays c.self.inside.table.items c.args.conn (link_shut) c.self.inside.links.items c.self.inside.waiting.items _ (λ _. refl)
      (slot_changed c.args.conn (link_shut) c.self.inside.links.items c.in-Some.place c.index_mut.result.now c.shut.new.self (rw (← c.self.view_is) at c.in-Some.ensures) c.index_mut.ensures.value c.shut.ensures) c.self.invariant.0,
  c.self.invariant.1,
)

pub returns : goal.returns
returns c =
    rw (← c.self.view_is)
    (ap (λ (links : List LinkView). record { links = links; waiting = c.self.inside.waiting.items })
    (slot_changed c.args.conn (link_shut) c.self.inside.links.items c.in-Some.place c.index_mut.result.now c.shut.new.self (rw (← c.self.view_is) at c.in-Some.ensures) c.index_mut.ensures.value c.shut.ensures))
