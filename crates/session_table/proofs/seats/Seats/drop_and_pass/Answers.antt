use Rattle.std.proofs.Common.{arith, true}
use Rattle.client_session.specs.Desks.{cable_of}
use Rattle.plays.specs.Plays.{go, seat_at, with_seat}
use Rattle.session_table.specs.AtDesk.{stands_at}
use Rattle.session_table.proofs.Entries.{here_taken}
use Rattle.session_table.proofs.Moved.{calm_dropped, fronts_gone, moved_on, there_of}
use Rattle.session_table.proofs.Passing.{ends_longer, kept_both, seats_went}
use Rattle.session_table.proofs.Playing.{marked, on_err}
use Rattle.session_table.proofs.seats.Seats.drop_and_pass.Goals as goal

pub pass_on-requires-clause-earlier : goal.pass_on-requires-clause-earlier
pass_on-requires-clause-earlier g c = let longer = ends_longer c.args.self.now c.drop_peer.new.self c.in_ok-left.ensures.went.ends in omega (arith, longer)

pub returns-clause-kept : goal.returns-clause-kept
returns-clause-kept g c = kept_both c.args.self.now c.drop_peer.new.self c.pass_on.new.self c.in_ok-left.ensures.kept c.in_ok-desk.ensures.kept

pub returns-clause-went : goal.returns-clause-went
returns-clause-went g c =
    seats_went c.args.grant true c.args.self.now c.drop_peer.new.self c.pass_on.new.self c.in_ok-left.ensures.kept c.in_ok-desk.ensures.went (here_taken (stands_at c.args.self.now c.args.grant) c.requires.here) c.in_ok-left.ensures.went c.in_ok-left.ensures.ready c.in_ok-desk.ensures.ready

pub returns-clause-played : goal.returns-clause-played
returns-clause-played g c = λ setting given play att calm none.
    let gone = c.in_ok-left.ensures.played setting given play att calm in
    moved_on setting given play c.args.grant (marked (seat_at play c.args.grant)) c.args.self.now c.drop_peer.new.self c.pass_on.new.self c.in_ok-left.left c.in_ok-desk.desk (g.C.Cable.chain (cable_of c.in_ok-left.left.side)) (g.C.Cable.chain (cable_of c.in_ok-desk.desk.side))
    c.len-earlier.result (omega arith) c.in_ok-left.ensures.ready gone
    (c.in_ok-desk.ensures.played setting given (go setting c.args.grant (with_seat c.args.grant (marked (seat_at play c.args.grant)) play)) gone.attends
    (calm_dropped setting given play c.args.grant c.args.self.now c.args.desk (g.C.Cable.trst (cable_of c.args.desk.side)) (g.C.Cable.chain (cable_of c.args.desk.side)) c.requires.may c.requires.grant att calm))

pub returns-in_err-left-clause-failed : goal.returns-in_err-left-clause-failed
returns-in_err-left-clause-failed g c = on_err c.from_residual.result (λ setting given play att calm. c.in_err-left.ensures.failed setting given play att)

pub returns-in_err-desk-clause-kept : goal.returns-in_err-desk-clause-kept
returns-in_err-desk-clause-kept g c = kept_both c.args.self.now c.drop_peer.new.self c.pass_on.new.self c.in_ok-left.ensures.kept c.in_err-desk.ensures.kept

pub returns-in_err-desk-clause-failed : goal.returns-in_err-desk-clause-failed
returns-in_err-desk-clause-failed g c = on_err c.from_residual-in_err-desk.result (λ setting given play att calm.
    let gone = c.in_ok-left.ensures.played setting given play att calm in
    fronts_gone setting c.args.grant (marked (seat_at play c.args.grant)) play (there_of setting given play c.args.grant c.args.self.now c.args.desk (g.C.Cable.trst (cable_of c.args.desk.side)) (g.C.Cable.chain (cable_of c.args.desk.side)) c.requires.may c.requires.grant att)
    c.pass_on.new.self given
    (c.in_err-desk.ensures.failed setting given (go setting c.args.grant (with_seat c.args.grant (marked (seat_at play c.args.grant)) play)) gone.attends
    (calm_dropped setting given play c.args.grant c.args.self.now c.args.desk (g.C.Cable.trst (cable_of c.args.desk.side)) (g.C.Cable.chain (cable_of c.args.desk.side)) c.requires.may c.requires.grant att calm)))
