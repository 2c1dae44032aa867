use Rattle.std.proofs.Common.{ap, arith, false, refl}
use Rattle.client_session.specs.Private.{received}
use Rattle.client_session.specs.Desks.{cable_of}
use Rattle.client_session.specs.Sessions.{is_taken}
use Rattle.plays.specs.Plays.{go, seat_at, with_seat}
use Rattle.session_table.proofs.Moved.{calm_fed, fronts_gone, moved_on, there_of}
use Rattle.session_table.proofs.Passing.{ends_longer, kept_both, seats_went}
use Rattle.session_table.proofs.Playing.{on_err}
use Rattle.session_table.proofs.seats.Seats.took.Goals as goal

pub pass_on-requires-clause-earlier : goal.pass_on-requires-clause-earlier
pass_on-requires-clause-earlier g c = let longer = ends_longer c.args.self.now c.feed.new.self c.in_ok-fed.ensures.went.ends in omega (arith, longer)

pub returns-clause-kept : goal.returns-clause-kept
returns-clause-kept g c = kept_both c.args.self.now c.feed.new.self c.pass_on.new.self c.in_ok-fed.ensures.kept c.in_ok-desk.ensures.kept

pub returns-clause-went : goal.returns-clause-went
returns-clause-went g c =
    seats_went c.args.grant false c.args.self.now c.feed.new.self c.pass_on.new.self c.in_ok-fed.ensures.kept c.in_ok-desk.ensures.went (ap is_taken c.requires.going) c.in_ok-fed.ensures.went c.in_ok-fed.ensures.ready c.in_ok-desk.ensures.ready

pub returns-clause-played : goal.returns-clause-played
returns-clause-played g c = λ setting given play att calm none.
    let gone = c.in_ok-fed.ensures.played setting given play att in
    moved_on setting given play c.args.grant (received c.args.piece.now (seat_at play c.args.grant)) c.args.self.now c.feed.new.self c.pass_on.new.self c.in_ok-fed.fed c.in_ok-desk.desk (g.C.Cable.chain (cable_of c.in_ok-fed.fed.side)) (g.C.Cable.chain (cable_of c.in_ok-desk.desk.side))
    c.len-earlier.result (omega arith) c.in_ok-fed.ensures.ready gone
    (c.in_ok-desk.ensures.played setting given (go setting c.args.grant (with_seat c.args.grant (received c.args.piece.now (seat_at play c.args.grant)) play)) gone.attends
    (calm_fed setting given play c.args.grant c.args.self.now c.args.desk (g.C.Cable.trst (cable_of c.args.desk.side)) (g.C.Cable.chain (cable_of c.args.desk.side)) c.requires.may c.requires.grant c.requires.going att calm (received c.args.piece.now) refl))

pub returns-in_err-fed-clause-failed : goal.returns-in_err-fed-clause-failed
returns-in_err-fed-clause-failed g c = on_err c.from_residual.result (λ setting given play att calm. c.in_err-fed.ensures.failed setting given play att)

pub returns-in_err-desk-clause-kept : goal.returns-in_err-desk-clause-kept
returns-in_err-desk-clause-kept g c = kept_both c.args.self.now c.feed.new.self c.pass_on.new.self c.in_ok-fed.ensures.kept c.in_err-desk.ensures.kept

pub returns-in_err-desk-clause-failed : goal.returns-in_err-desk-clause-failed
returns-in_err-desk-clause-failed g c = on_err c.from_residual-in_err-desk.result (λ setting given play att calm.
    let gone = c.in_ok-fed.ensures.played setting given play att in
    fronts_gone setting c.args.grant (received c.args.piece.now (seat_at play c.args.grant)) play (there_of setting given play c.args.grant c.args.self.now c.args.desk (g.C.Cable.trst (cable_of c.args.desk.side)) (g.C.Cable.chain (cable_of c.args.desk.side)) c.requires.may c.requires.grant att)
    c.pass_on.new.self given
    (c.in_err-desk.ensures.failed setting given (go setting c.args.grant (with_seat c.args.grant (received c.args.piece.now (seat_at play c.args.grant)) play)) gone.attends
    (calm_fed setting given play c.args.grant c.args.self.now c.args.desk (g.C.Cable.trst (cable_of c.args.desk.side)) (g.C.Cable.chain (cable_of c.args.desk.side)) c.requires.may c.requires.grant c.requires.going att calm (received c.args.piece.now) refl)))
