use Rattle.std.proofs.Common.{arith}
use Rattle.client_session.specs.Desks.{cable_of}
use Rattle.session_table.proofs.Handing.{ready_kept, ready_may, ready_went}
use Rattle.session_table.proofs.Moved.{passed}
use Rattle.session_table.proofs.Passing.{ends_longer}
use Rattle.session_table.proofs.Readying.{ready_rested}
use Rattle.session_table.proofs.seats.Seats.pass_on.Goals as goal

pub rest_ended-requires : goal.rest_ended-requires
rest_ended-requires g c = let longer = ends_longer c.args.self.now c.hand_on.new.self c.in_ok-desk.ensures.went.ends in omega (arith, longer, c.requires.earlier)

pub returns-clause-may : goal.returns-clause-may
returns-clause-may g c = ready_may c.hand_on.new.self c.rest_ended.new.self c.rest_ended.ensures.only c.in_ok-desk.desk (g.C.Cable.chain (cable_of c.in_ok-desk.desk.side)) (g.C.Cable.trst (cable_of c.in_ok-desk.desk.side)) c.in_ok-desk.ensures.may

pub returns-clause-kept : goal.returns-clause-kept
returns-clause-kept g c = ready_kept c.hand_on.new.self c.rest_ended.new.self c.rest_ended.ensures.only c.args.self.now c.in_ok-desk.ensures.kept

pub returns-clause-went : goal.returns-clause-went
returns-clause-went g c = ready_went c.hand_on.new.self c.rest_ended.new.self c.rest_ended.ensures.only c.args.self.now c.in_ok-desk.ensures.went

pub returns-clause-ready : goal.returns-clause-ready
returns-clause-ready g c = ready_rested c.args.self.now c.hand_on.new.self c.rest_ended.new.self c.args.earlier c.in_ok-desk.ensures.may.fits c.rest_ended.ensures.only c.rest_ended.ensures.ready c.in_ok-desk.ensures.ready

pub returns-clause-played : goal.returns-clause-played
returns-clause-played g c = λ setting given play att calm.
    passed setting given play c.args.self.now c.hand_on.new.self c.rest_ended.new.self c.args.desk c.in_ok-desk.desk (g.C.Cable.chain (cable_of c.args.desk.side)) (g.C.Cable.chain (cable_of c.in_ok-desk.desk.side)) c.args.earlier
    att calm (c.in_ok-desk.ensures.played setting given play att calm) c.rest_ended.ensures.only c.rest_ended.ensures.ready
