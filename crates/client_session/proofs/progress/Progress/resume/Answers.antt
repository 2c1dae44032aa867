use Rattle.std.proofs.Common.{◌+◌, ◌∙◌, arith, false, length}
use Rattle.client_session.specs.Desks.{cable_of}
use Rattle.client_session.specs.Sessions.{stand_after}
use Rattle.client_session.specs.Stores.{protocol_of, unused_of, view_of}
use Rattle.client_session.specs.Ends.{bytes_end}
use Rattle.client_session.specs.Calls.{HaltsAt}
use Rattle.client_session.proofs.Calling.{always_err, comes_replied}
use Rattle.client_session.proofs.Stopping.{comes_then}
use Rattle.client_session.proofs.ByBytes.{stops_by}
use Rattle.client_session.proofs.progress.Progress.resume.Goals as goal

pub returns-clause-went : goal.returns-clause-went
returns-clause-went g c = λ given base_desk base turn whole here attends.
    comes_then c.args.layout.now c.args.grant base_desk base given (HaltsAt c.in_ok-halt.halt c.args.layout.now c.go_on.new.self c.args.grant given) (view_of c.settle.new.self (stand_after c.in_ok-stop.stop c.args.gone) false) c.in_ok-stop.stop
    c.in_ok-halt.desk c.in_ok-stop.desk (g.C.Cable.chain (cable_of c.in_ok-halt.desk.side)) (g.C.Cable.chain (cable_of c.in_ok-stop.desk.side)) turn (c.in_ok-halt.ensures.went given base_desk base turn whole attends)
    (λ at gone there. c.in_ok-stop.ensures.went given base_desk base at whole (gone ∙ here) there)

pub returns-in_err-stop-clause-failed : goal.returns-in_err-stop-clause-failed
returns-in_err-stop-clause-failed g c = always_err c.from_residual-in_err-stop.result (λ given base_desk base turn whole attends.
    comes_replied c.args.layout.now c.args.grant base_desk base c.in_ok-halt.halt c.go_on.new.self c.settle.new.self given c.in_ok-halt.desk (g.C.Cable.chain (cable_of c.in_ok-halt.desk.side)) turn c.settle.ensures.reply
    (c.in_ok-halt.ensures.went given base_desk base turn whole attends))

pub returns-clause-stops : goal.returns-clause-stops
returns-clause-stops g c =
    let old = c.args.self.now in
    let mid = c.go_on.new.self in
    stops_by (bytes_end (protocol_of old.input) old.vector old.used (unused_of old.input)) c.args.gone (old.used + length (unused_of old.input)) mid.used (unused_of mid.input) c.in_ok-halt.halt c.in_ok-stop.stop
    c.in_ok-halt.ensures.ends (λ rests gone. c.in_ok-halt.ensures.unused rests) (omega (arith, c.go_on.ensures.taken, c.go_on.ensures.keeps.taken, c.requires.keeps.taken)) c.in_ok-stop.ensures.stops
