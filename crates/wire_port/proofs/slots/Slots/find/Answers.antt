use Rattle.std.proofs.Common.{arith}
use Rattle.wire_port.proofs.Places.{beyond, not_there, another_there, is_place}
use Rattle.wire_port.proofs.slots.Slots.find.Goals as goal

pub returns-in_default : goal.returns-in_default
returns-in_default c = rw (← c.self.view_is) (beyond c.self.inside.table.items c.self.inside.links.items c.self.inside.waiting.items c.args.conn c.self.invariant.0 (rw c.deref.ensures.value at c.in_default.ensures.lookup.3))

pub returns-in_default-get : goal.returns-in_default-get
returns-in_default-get c =
    rw (← c.self.view_is)
    (not_there c.self.inside.table.items c.self.inside.links.items c.self.inside.waiting.items c.args.conn c.in-Some.field-0.now c.self.invariant.0
    (rw c.deref.ensures.value at c.in-Some.ensures.lookup.1) (rw c.deref-2.ensures.value at c.in_default-get.ensures.lookup.3))

pub returns-then-conn : goal.returns-then-conn
returns-then-conn c =
    rw (← c.self.view_is)
    (another_there c.self.inside.table.items c.self.inside.links.items c.self.inside.waiting.items c.args.conn c.in-Some.field-0.now c.in-Some-get.link.now c.self.invariant.0
    (rw c.deref.ensures.value at c.in-Some.ensures.lookup.1) (rw c.deref-2.ensures.value at c.in-Some-get.ensures.lookup.1) (rw c.deref-2.ensures.value at c.in-Some-get.ensures.lookup.3.0) (λ here. absurd (omega (arith, here, c.conn.ensures, c.if-conn.true))))

pub returns : goal.returns
returns c =
    rw (← c.self.view_is)
    (is_place c.self.inside.table.items c.self.inside.links.items c.self.inside.waiting.items c.args.conn c.in-Some.field-0.now c.in-Some-get.link.now c.self.invariant.0
    (rw c.deref.ensures.value at c.in-Some.ensures.lookup.1) (rw c.deref-2.ensures.value at c.in-Some-get.ensures.lookup.1) (rw c.deref-2.ensures.value at c.in-Some-get.ensures.lookup.3.0) (omega (arith, c.conn.ensures, c.if-conn.false)))
