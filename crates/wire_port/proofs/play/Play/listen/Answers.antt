use Rattle.wire_port.proofs.Telling.{is_wire}
use Rattle.wire_port.proofs.play.Play.listen.Goals as goal

pub returns-then-count-clause-sound : goal.returns-then-count-clause-sound
returns-then-count-clause-sound c = is_wire _ c.self.inside.log c.self.inside.slots.links c.self.inside.slots.waiting c.self.inside.opened.items c.self.invariant.play

pub returns-clause-sound : goal.returns-clause-sound
returns-clause-sound c = is_wire _ c.self.inside.log c.self.inside.slots.links c.self.inside.slots.waiting c.self.inside.opened.items c.self.invariant.play
