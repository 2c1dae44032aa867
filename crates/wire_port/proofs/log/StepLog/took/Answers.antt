use Rattle.std.proofs.Common.{arith, length}
use Rattle.wire_port.specs.declared.log.Mark.TheVariants as mark
use Rattle.wire_port.proofs.Logging.{fits_more, took_logged}
use Rattle.wire_port.proofs.log.StepLog.took.Goals as goal

pub invariant_of-self : goal.invariant_of-self
invariant_of-self c =
    fits_more c.self.inside.marks c.push.new.marks c.self.inside.bytes c.extend_from_slice.new.self c.self.inside.room c.self.inside.byte_room (mark.Took c.args.conn (length c.args.bytes.now)) c.args.bytes.now
    c.self.invariant (rw (← c.self.view_is) at c.requires.step) c.push.ensures.items c.push.ensures.len c.push.ensures.capacity c.in-Ok.ensures.items c.in-Ok.ensures.len c.in-Ok.ensures.capacity
    (rw (← c.self.view_is) at c.requires.bytes) (omega arith)

pub returns : goal.returns
returns c =
    rw (← c.self.view_is)
    (took_logged c.self.inside.marks c.push.new.marks c.self.inside.bytes c.extend_from_slice.new.self c.self.inside.room c.self.inside.byte_room c.args.conn c.args.bytes.now
    c.self.invariant c.push.ensures.items c.push.ensures.len c.in-Ok.ensures.items c.in-Ok.ensures.len)
