use Rattle.wire_port.proofs.Places.{slot_is, there_at}
use Rattle.wire_port.proofs.slots.Slots.link.Goals as goal

pub returns-in-Some : goal.returns-in-Some
returns-in-Some c =
    rw (← c.self.view_is) (
      there_at c.args.conn c.self.inside.links.items c.in-Some.place (rw (← c.self.view_is) at c.in-Some.ensures),
      slot_is c.args.conn c.self.inside.links.items c.in-Some.place c.index.result.now (rw (← c.self.view_is) at c.in-Some.ensures) c.index.ensures,
    )
