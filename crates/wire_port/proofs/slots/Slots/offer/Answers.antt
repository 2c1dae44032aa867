use Rattle.std.proofs.Common.{ap, refl, ◌≤◌, length, List, subst, sym}
use Rattle.wire_port.specs.Links.{LinkView, link_offered}
use Rattle.wire_port.proofs.Places.{slot_changed, slot_is, table_stays, there_at, none_changed}
use Rattle.wire_port.proofs.slots.Slots.offer.Goals as goal

pub invariant_of-self : goal.invariant_of-self
invariant_of-self c = (
  table_stays c.self.inside.table.items c.args.conn (link_offered c.args.bytes.now) c.self.inside.links.items c.self.inside.waiting.items _ (λ _. refl)
      (slot_changed c.args.conn (link_offered c.args.bytes.now) c.self.inside.links.items c.in-Some.place c.index_mut.result.now c.offer.new.self (rw (← c.self.view_is) at c.in-Some.ensures) c.index_mut.ensures.value c.offer.ensures) c.self.invariant.0,
  c.self.invariant.1,
)

pub returns : goal.returns
returns c =
    rw (← c.self.view_is)
    (ap (λ (links : List LinkView). record { links = links; waiting = c.self.inside.waiting.items })
    (slot_changed c.args.conn (link_offered c.args.bytes.now) c.self.inside.links.items c.in-Some.place c.index_mut.result.now c.offer.new.self (rw (← c.self.view_is) at c.in-Some.ensures) c.index_mut.ensures.value c.offer.ensures))

pub offer-requires : goal.offer-requires
offer-requires c =
    subst (λ (link : LinkView). length c.args.bytes.now ≤ link.offers_left)
    (sym (slot_is c.args.conn c.self.inside.links.items c.in-Some.place c.index_mut.result.now (rw (← c.self.view_is) at c.in-Some.ensures) c.index_mut.ensures.value)) ((rw (← c.self.view_is) at c.requires) (there_at c.args.conn c.self.inside.links.items c.in-Some.place (rw (← c.self.view_is) at c.in-Some.ensures)))

pub returns-in_default : goal.returns-in_default
returns-in_default c = ap (λ (links : List LinkView). record { links = links; waiting = c.args.self.now.waiting }) (sym (none_changed c.args.conn (link_offered c.args.bytes.now) c.args.self.now.links c.in_default.ensures))
