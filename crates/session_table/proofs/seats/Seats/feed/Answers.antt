use Rattle.std.proofs.Common.{ap, false, refl}
use Rattle.client_session.specs.Sessions.{is_in_line, is_taken}
use Rattle.client_session.specs.Private.{received}
use Rattle.client_session.specs.Desks.{cable_of}
use Rattle.session_table.proofs.Entries.{kept_noted, kept_seats, may_new, one_went, room_still}
use Rattle.session_table.proofs.Playing.{call_failed, feed_played, on_err}
use Rattle.session_table.proofs.seats.Seats.feed.Goals as goal

pub returns-in_err-stop-clause-kept : goal.returns-in_err-stop-clause-kept
returns-in_err-stop-clause-kept g c = kept_seats c.args.grant c.args.self.now c.feed_session.new.self c.in_err-stop.ensures.only

pub note-requires-clause-few : goal.note-requires-clause-few
note-requires-clause-few g c = room_still c.args.grant c.args.self.now c.feed_session.new.self c.in_ok-stop.ensures.went.only c.requires.may.fits c.requires.grant (ap is_taken c.requires.going)

pub returns-clause-kept : goal.returns-clause-kept
returns-clause-kept g c = kept_noted c.args.grant false c.in_ok-stop.stop c.args.self.now c.feed_session.new.self c.note.new.self c.in_ok-stop.ensures.went.only c.note.ensures

pub returns-clause-went : goal.returns-clause-went
returns-clause-went g c = one_went c.args.grant false c.in_ok-stop.stop c.args.self.now c.feed_session.new.self c.note.new.self c.in_ok-stop.ensures.went.only c.note.ensures false c.in_ok-stop.ensures.stands c.requires.grant (ap is_taken c.requires.going) (λ h. refl)

pub returns-clause-may : goal.returns-clause-may
returns-clause-may g c =
    may_new c.args.grant false c.in_ok-stop.stop c.args.self.now c.feed_session.new.self c.note.new.self c.in_ok-stop.ensures.went.only c.note.ensures c.args.desk c.in_ok-stop.desk c.requires.grant
    c.in_ok-stop.ensures.went.here c.in_ok-stop.ensures.went.others c.requires.may.at_desk (g.C.Cable.chain (cable_of c.args.desk.side)) (g.C.Cable.trst (cable_of c.args.desk.side)) (g.C.Cable.trst (cable_of c.in_ok-stop.desk.side)) c.requires.may
    false c.in_ok-stop.ensures.stands (ap is_taken c.requires.going) (g.C.Cable.chain (cable_of c.in_ok-stop.desk.side)) c.in_ok-stop.ensures.whole c.in_ok-stop.ensures.trst

pub returns-clause-played : goal.returns-clause-played
returns-clause-played g c = λ setting given play.
    feed_played setting c.args.grant c.args.self.now c.feed_session.new.self c.note.new.self c.args.desk c.in_ok-stop.desk given play c.in_ok-stop.stop (g.C.Cable.trst (cable_of c.args.desk.side)) c.args.piece.now
    (g.C.Cable.chain (cable_of c.args.desk.side)) (g.C.Cable.chain (cable_of c.in_ok-stop.desk.side)) c.requires.may c.requires.grant c.requires.going c.in_ok-stop.ensures.went c.note.ensures c.in_ok-stop.ensures.stands c.in_ok-stop.ensures.came

pub returns-in_err-stop-clause-failed : goal.returns-in_err-stop-clause-failed
returns-in_err-stop-clause-failed g c = on_err c.from_residual.result (λ setting given play.
    call_failed setting c.args.grant c.args.self.now c.feed_session.new.self c.args.desk given play (g.C.Cable.trst (cable_of c.args.desk.side)) false (received c.args.piece.now)
    (g.C.Cable.chain (cable_of c.args.desk.side)) c.requires.may c.requires.grant (ap is_in_line c.requires.going) c.in_err-stop.ensures.only c.in_err-stop.ensures.failed)
