use Rattle.std.proofs.Common.{arith, drop, length-take, subst, take}
use Rattle.std.specs.Io.KnownBytes.{Consumes}
use Rattle.client_session.specs.Desks.{cable_of}
use Rattle.client_session.proofs.Calling.{always_err}
use Rattle.lone_session.proofs.Runs.{on_end, on_unread, piece_of}
use Rattle.lone_session.proofs.Seats.{may_end}
use Rattle.lone_session.proofs.turn.Goals as goal

pub returns-in_default-clause-went : goal.returns-in_default-clause-went
returns-in_default-clause-went g c = λ left sent old_desk start went.
    on_unread c.args.layout.now c.args.session.now.grant c.args.session.now.view left (g.I.Source.left c.args.input.now) (g.I.Source.left c.read.new.self) sent (g.O.Sink.sent c.args.out.now) old_desk c.args.desk (g.C.Cable.chain (cable_of c.args.desk.side)) start went c.in_ok-_end.desk (g.C.Cable.chain (cable_of c.in_ok-_end.desk.side)) c.in_ok-_end._end c.in_default.ensures.bytes
    (c.in_ok-_end.ensures.dropped old_desk start went.taken went.given went.reached)

pub returns-then-count-eq0-clause-went : goal.returns-then-count-eq0-clause-went
returns-then-count-eq0-clause-went g c = λ left sent old_desk start went.
    on_end c.args.layout.now c.args.session.now.grant c.args.session.now.view left (g.I.Source.left c.args.input.now) (g.I.Source.left c.read.new.self) sent (g.O.Sink.sent c.args.out.now) old_desk c.args.desk (g.C.Cable.chain (cable_of c.args.desk.side)) start went c.in_ok-end.desk (g.C.Cable.chain (cable_of c.in_ok-end.desk.side)) c.in_ok-end.end
    (subst (λ n. Consumes (g.I.Source.left c.args.input.now) (g.I.Source.left c.read.new.self) (take n c.read.new.buf)) c.if-count-eq0.true c.in-Ok.ensures.bytes.0)
    (c.in-Ok.ensures.bytes.1 c.if-count-eq0.true (omega (arith, c.read.auto.buf, length-take c.min-most.result c.args.buffer.now, c.min-most.ensures, c.want.ensures.some, c.requires.buffer)))
    (c.in_ok-end.ensures.dropped old_desk start went.taken went.given went.reached)

pub returns-clause-went : goal.returns-clause-went
returns-clause-went g c = λ left sent old_desk start went.
    c.in_ok-served.ensures.went left (g.I.Source.left c.args.input.now) (g.I.Source.left c.read.new.self) sent old_desk start (piece_of (g.I.Source.left c.args.input.now) (g.I.Source.left c.read.new.self) c.in-Ok.count c.read.new.buf (drop c.min-most.result c.args.buffer.now) c.in-Ok.ensures.bound.0 c.in-Ok.ensures.bytes.0) went

pub returns-in_err-served-clause-failed : goal.returns-in_err-served-clause-failed
returns-in_err-served-clause-failed g c = always_err c.from_residual-in_err-served.result (λ left sent old_desk start went.
    c.in_err-served.ensures.failed left (g.I.Source.left c.args.input.now) (g.I.Source.left c.read.new.self) sent old_desk start (piece_of (g.I.Source.left c.args.input.now) (g.I.Source.left c.read.new.self) c.in-Ok.count c.read.new.buf (drop c.min-most.result c.args.buffer.now) c.in-Ok.ensures.bound.0 c.in-Ok.ensures.bytes.0) went)

pub returns-then-count-eq0-clause-ends : goal.returns-then-count-eq0-clause-ends
returns-then-count-eq0-clause-ends g c =
    may_end c.in_ok-end.end (g.I.Source.left c.read.new.self)
    (c.in-Ok.ensures.bytes.1 c.if-count-eq0.true (omega (arith, c.read.auto.buf, length-take c.min-most.result c.args.buffer.now, c.min-most.ensures, c.want.ensures.some, c.requires.buffer)))
