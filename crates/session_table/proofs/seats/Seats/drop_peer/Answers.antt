use Rattle.std.proofs.Common.{true, refl}
use Rattle.client_session.specs.Sessions.{is_in_line}
use Rattle.client_session.specs.Desks.{cable_of}
use Rattle.session_table.specs.AtDesk.{stands_at}
use Rattle.session_table.proofs.Entries.{here_taken, kept_noted, kept_seats, one_went, may_new, room_still}
use Rattle.session_table.proofs.Playing.{call_failed, drop_played, marked, on_err}
use Rattle.session_table.proofs.seats.Seats.drop_peer.Goals as goal

pub returns-in_err-stop-clause-kept : goal.returns-in_err-stop-clause-kept
returns-in_err-stop-clause-kept g c = kept_seats c.args.grant c.args.self.now c.drop_session.new.self c.in_err-stop.ensures.only

pub note-requires-clause-few : goal.note-requires-clause-few
note-requires-clause-few g c = room_still c.args.grant c.args.self.now c.drop_session.new.self c.in_ok-stop.ensures.went.only c.requires.may.fits c.requires.grant (here_taken (stands_at c.args.self.now c.args.grant) c.requires.here)

pub returns-clause-kept : goal.returns-clause-kept
returns-clause-kept g c = kept_noted c.args.grant c.is_in_line-waited.result c.in_ok-stop.stop c.args.self.now c.drop_session.new.self c.note.new.self c.in_ok-stop.ensures.went.only c.note.ensures

pub returns-clause-went : goal.returns-clause-went
returns-clause-went g c =
    one_went c.args.grant c.is_in_line-waited.result c.in_ok-stop.stop c.args.self.now c.drop_session.new.self c.note.new.self c.in_ok-stop.ensures.went.only c.note.ensures true c.in_ok-stop.ensures.stands c.requires.grant
    (here_taken (stands_at c.args.self.now c.args.grant) c.requires.here) (λ going. absurd (c.in_ok-stop.ensures.left going))

pub returns-clause-may : goal.returns-clause-may
returns-clause-may g c =
    may_new c.args.grant c.is_in_line-waited.result c.in_ok-stop.stop c.args.self.now c.drop_session.new.self c.note.new.self c.in_ok-stop.ensures.went.only c.note.ensures c.args.desk c.in_ok-stop.desk c.requires.grant
    c.in_ok-stop.ensures.went.here c.in_ok-stop.ensures.went.others c.requires.may.at_desk (g.C.Cable.chain (cable_of c.args.desk.side)) (g.C.Cable.trst (cable_of c.args.desk.side)) (g.C.Cable.trst (cable_of c.in_ok-stop.desk.side)) c.requires.may
    true c.in_ok-stop.ensures.stands (here_taken (stands_at c.args.self.now c.args.grant) c.requires.here) (g.C.Cable.chain (cable_of c.in_ok-stop.desk.side)) c.in_ok-stop.ensures.whole c.in_ok-stop.ensures.trst

pub returns-clause-played : goal.returns-clause-played
returns-clause-played g c = λ setting given play.
    drop_played setting c.args.grant c.args.self.now c.drop_session.new.self c.note.new.self c.args.desk c.in_ok-stop.desk given play c.in_ok-stop.stop (g.C.Cable.trst (cable_of c.args.desk.side))
    (g.C.Cable.chain (cable_of c.args.desk.side)) (g.C.Cable.chain (cable_of c.in_ok-stop.desk.side)) c.is_in_line-waited.result c.requires.may c.requires.grant c.requires.here c.requires.rests c.is_in_line-waited.ensures
    c.in_ok-stop.ensures.went c.note.ensures c.in_ok-stop.ensures.stands c.in_ok-stop.ensures.came

pub returns-in_err-stop-clause-failed : goal.returns-in_err-stop-clause-failed
returns-in_err-stop-clause-failed g c = on_err c.from_residual.result (λ setting given play.
    call_failed setting c.args.grant c.args.self.now c.drop_session.new.self c.args.desk given play (g.C.Cable.trst (cable_of c.args.desk.side)) (is_in_line (stands_at c.args.self.now c.args.grant)) marked
    (g.C.Cable.chain (cable_of c.args.desk.side)) c.requires.may c.requires.grant refl c.in_err-stop.ensures.only c.in_err-stop.ensures.failed)
