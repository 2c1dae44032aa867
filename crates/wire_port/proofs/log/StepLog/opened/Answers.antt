use Rattle.std.proofs.Common.{refl}
use Rattle.wire_port.specs.declared.log.Mark.TheVariants as mark
use Rattle.wire_port.specs.Steps.Step.{Opened}
use Rattle.wire_port.proofs.Logging.{fits_marked, mark_logged}
use Rattle.wire_port.proofs.log.StepLog.opened.Goals as goal

pub invariant_of-self : goal.invariant_of-self
invariant_of-self c = fits_marked _ _ _ _ _ (mark.Opened c.args.conn c.args.port) c.self.invariant (rw (← c.self.view_is) at c.requires) c.push.ensures.items c.push.ensures.len c.push.ensures.capacity refl

pub returns : goal.returns
returns c = rw (← c.self.view_is) (mark_logged c.self.inside.marks c.push.new.marks c.self.inside.bytes c.self.inside.room c.self.inside.byte_room (mark.Opened c.args.conn c.args.port) (Opened c.args.conn c.args.port) c.self.invariant c.push.ensures.items c.push.ensures.len refl)
