use Rattle.std.proofs.Common.{ap, ◌∙◌, length, List}
use Rattle.wire_port.specs.Offers.{take_answer}
use Rattle.wire_port.specs.Calls.{take_answered}
use Rattle.wire_port.specs.Links.{LinkView, link_after_take}
use Rattle.wire_port.proofs.Places.{slot_changed, slot_is, table_stays}
use Rattle.wire_port.proofs.Keeping as keeps
use Rattle.wire_port.proofs.slots.Slots.take.Goals as goal

pub invariant_of-self : goal.invariant_of-self
invariant_of-self c = (
  table_stays c.self.inside.table.items c.args.conn (link_after_take (take_answered c.take.result c.take.new.buf)) c.self.inside.links.items c.self.inside.waiting.items _ (keeps.take_keeps (take_answered c.take.result c.take.new.buf))
      (slot_changed c.args.conn (link_after_take (take_answered c.take.result c.take.new.buf)) c.self.inside.links.items c.in-Some.place c.index_mut.result.now c.take.new.self (rw (← c.self.view_is) at c.in-Some.ensures) c.index_mut.ensures.value c.take.ensures.after) c.self.invariant.0,
  c.self.invariant.1,
)

pub returns-clause-after : goal.returns-clause-after
returns-clause-after c =
    rw (← c.self.view_is)
    (ap (λ (links : List LinkView). record { links = links; waiting = c.self.inside.waiting.items })
    (slot_changed c.args.conn (link_after_take (take_answered c.take.result c.take.new.buf)) c.self.inside.links.items c.in-Some.place c.index_mut.result.now c.take.new.self (rw (← c.self.view_is) at c.in-Some.ensures) c.index_mut.ensures.value c.take.ensures.after))

pub returns-clause-answer : goal.returns-clause-answer
returns-clause-answer c =
    rw (← c.self.view_is)
    (c.take.ensures.answer ∙ ap (λ (link : LinkView). take_answer (length c.args.buf.now) link.peer) (slot_is c.args.conn c.self.inside.links.items c.in-Some.place c.index_mut.result.now (rw (← c.self.view_is) at c.in-Some.ensures) c.index_mut.ensures.value))
