use Rattle.std.proofs.Common.{refl}
use Rattle.wire_port.specs.declared.log.Mark.TheVariants as mark
use Rattle.wire_port.specs.Steps.Step.{Shut}
use Rattle.wire_port.proofs.Logging.{fits_marked, mark_logged}
use Rattle.wire_port.proofs.log.StepLog.shut.Goals as goal

pub invariant_of-self : goal.invariant_of-self
invariant_of-self c = fits_marked _ _ _ _ _ (mark.Shut c.args.conn) c.self.invariant (rw (← c.self.view_is) at c.requires) c.push.ensures.items c.push.ensures.len c.push.ensures.capacity refl

pub returns : goal.returns
returns c = rw (← c.self.view_is) (mark_logged c.self.inside.marks c.push.new.marks c.self.inside.bytes c.self.inside.room c.self.inside.byte_room (mark.Shut c.args.conn) (Shut c.args.conn) c.self.invariant c.push.ensures.items c.push.ensures.len refl)
