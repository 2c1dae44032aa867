use Rattle.std.proofs.Common.{false}
use Rattle.client_session.specs.Sessions.{is_leaving}
use Rattle.client_session.specs.Desks.{cable_of}
use Rattle.session_table.specs.AtDesk.{stands_at}
use Rattle.session_table.proofs.Entries.{in_line_taken, kept_noted, kept_seats, line_went, may_new, others_stay, room_still}
use Rattle.session_table.proofs.Playing.{on_err, resume_failed, resume_played}
use Rattle.session_table.proofs.seats.Seats.resume.Goals as goal

pub returns-in_err-stop-clause-kept : goal.returns-in_err-stop-clause-kept
returns-in_err-stop-clause-kept g c = kept_seats c.args.grant c.args.self.now c.resume_session.new.self c.in_err-stop.ensures.only

pub note-requires-clause-few : goal.note-requires-clause-few
note-requires-clause-few g c = room_still c.args.grant c.args.self.now c.resume_session.new.self c.in_ok-stop.ensures.went.only c.requires.may.fits c.requires.grant (in_line_taken (stands_at c.args.self.now c.args.grant) c.requires.waits)

pub returns-clause-kept : goal.returns-clause-kept
returns-clause-kept g c = kept_noted c.args.grant false c.in_ok-stop.stop c.args.self.now c.resume_session.new.self c.note.new.self c.in_ok-stop.ensures.went.only c.note.ensures

pub returns-clause-went : goal.returns-clause-went
returns-clause-went g c = line_went c.args.grant false c.in_ok-stop.stop c.args.self.now c.resume_session.new.self c.note.new.self c.in_ok-stop.ensures.went.only c.note.ensures c.in_ok-stop.ensures.stands c.requires.grant c.requires.waits c.in_ok-stop.ensures.here

pub returns-clause-others : goal.returns-clause-others
returns-clause-others g c = others_stay c.args.grant false c.in_ok-stop.stop c.args.self.now c.resume_session.new.self c.note.new.self c.in_ok-stop.ensures.went.only c.note.ensures

pub returns-clause-may : goal.returns-clause-may
returns-clause-may g c =
    may_new c.args.grant false c.in_ok-stop.stop c.args.self.now c.resume_session.new.self c.note.new.self c.in_ok-stop.ensures.went.only c.note.ensures c.args.desk c.in_ok-stop.desk c.requires.grant
    c.in_ok-stop.ensures.went.here c.in_ok-stop.ensures.went.others c.requires.may.at_desk (g.C.Cable.chain (cable_of c.args.desk.side)) (g.C.Cable.trst (cable_of c.args.desk.side)) (g.C.Cable.trst (cable_of c.in_ok-stop.desk.side)) c.requires.may
    (is_leaving (stands_at c.args.self.now c.args.grant)) c.in_ok-stop.ensures.stands (in_line_taken (stands_at c.args.self.now c.args.grant) c.requires.waits) (g.C.Cable.chain (cable_of c.in_ok-stop.desk.side)) c.in_ok-stop.ensures.whole c.in_ok-stop.ensures.trst

pub returns-clause-played : goal.returns-clause-played
returns-clause-played g c = λ setting given play.
    resume_played setting c.args.grant c.args.self.now c.resume_session.new.self c.note.new.self c.args.desk c.in_ok-stop.desk given play c.in_ok-stop.stop (g.C.Cable.trst (cable_of c.args.desk.side))
    (g.C.Cable.chain (cable_of c.args.desk.side)) (g.C.Cable.chain (cable_of c.in_ok-stop.desk.side)) c.requires.may c.requires.grant c.requires.waits c.requires.first (is_leaving (stands_at c.args.self.now c.args.grant))
    c.in_ok-stop.ensures.went c.note.ensures c.in_ok-stop.ensures.stands c.in_ok-stop.ensures.came

pub returns-in_err-stop-clause-failed : goal.returns-in_err-stop-clause-failed
returns-in_err-stop-clause-failed g c = on_err c.from_residual.result (λ setting given play.
    resume_failed setting c.args.grant c.args.self.now c.resume_session.new.self c.args.desk given play (g.C.Cable.trst (cable_of c.args.desk.side))
    (g.C.Cable.chain (cable_of c.args.desk.side)) c.requires.may c.requires.grant c.requires.waits c.in_err-stop.ensures.only c.in_err-stop.ensures.failed)
