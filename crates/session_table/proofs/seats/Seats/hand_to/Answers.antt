use Rattle.std.proofs.Common.{◌∙◌, arith, sym, true}
use Rattle.chain_token.specs.Tokens.{holder, waiting}
use Rattle.client_session.specs.Desks.{cable_of}
use Rattle.plays.proofs.Serving.{next_is}
use Rattle.session_table.proofs.Handing.{handed_one, only_ready, ready_kept, ready_may, ready_went}
use Rattle.session_table.proofs.Readying.{ready_one}
use Rattle.session_table.proofs.seats.Seats.hand_to.Goals as goal

pub resume-requires-clause-grant : goal.resume-requires-clause-grant
resume-requires-clause-grant g c = c.requires.may.at_desk.within c.args.grant (next_is (holder c.args.desk) (waiting c.args.desk) c.args.grant c.requires.next).0

pub resume-requires-clause-waits : goal.resume-requires-clause-waits
resume-requires-clause-waits g c =
    let among = (next_is (holder c.args.desk) (waiting c.args.desk) c.args.grant c.requires.next).0 in
    sym (c.requires.may.at_desk.each c.args.grant (c.requires.may.at_desk.within c.args.grant among)).line ∙ among

pub resume-requires-clause-first : goal.resume-requires-clause-first
resume-requires-clause-first g c = (next_is (holder c.args.desk) (waiting c.args.desk) c.args.grant c.requires.next).1

pub set_ready-requires : goal.set_ready-requires
set_ready-requires g c =
    let below = c.requires.may.at_desk.within c.args.grant (next_is (holder c.args.desk) (waiting c.args.desk) c.args.grant c.requires.next).0 in
    omega (arith, below, c.requires.may.fits.count, c.requires.may.fits.flags, c.in_ok-desk.ensures.kept.flags)

pub returns-clause-may : goal.returns-clause-may
returns-clause-may g c = ready_may c.resume.new.self c.set_ready.new.self (only_ready c.args.grant true c.resume.new.self c.set_ready.new.self c.set_ready.ensures) c.in_ok-desk.desk (g.C.Cable.chain (cable_of c.in_ok-desk.desk.side)) (g.C.Cable.trst (cable_of c.in_ok-desk.desk.side)) c.in_ok-desk.ensures.may

pub returns-clause-kept : goal.returns-clause-kept
returns-clause-kept g c = ready_kept c.resume.new.self c.set_ready.new.self (only_ready c.args.grant true c.resume.new.self c.set_ready.new.self c.set_ready.ensures) c.args.self.now c.in_ok-desk.ensures.kept

pub returns-clause-went : goal.returns-clause-went
returns-clause-went g c = ready_went c.resume.new.self c.set_ready.new.self (only_ready c.args.grant true c.resume.new.self c.set_ready.new.self c.set_ready.ensures) c.args.self.now c.in_ok-desk.ensures.went

pub returns-clause-ready : goal.returns-clause-ready
returns-clause-ready g c =
    let among = (next_is (holder c.args.desk) (waiting c.args.desk) c.args.grant c.requires.next).0 in
    let below = c.requires.may.at_desk.within c.args.grant among in
    ready_one c.args.grant c.args.self.now c.resume.new.self c.set_ready.new.self (sym (c.requires.may.at_desk.each c.args.grant below).line ∙ among)
    (omega (arith, below, c.requires.may.fits.count, c.requires.may.fits.flags, c.in_ok-desk.ensures.kept.flags)) c.in_ok-desk.ensures.others c.in_ok-desk.ensures.ready c.set_ready.ensures

pub returns-clause-played : goal.returns-clause-played
returns-clause-played g c = λ setting given play att calm.
    handed_one setting c.args.grant c.args.self.now c.resume.new.self c.set_ready.new.self c.args.desk c.in_ok-desk.desk given (g.C.Cable.chain (cable_of c.args.desk.side)) (g.C.Cable.chain (cable_of c.in_ok-desk.desk.side)) play
    c.set_ready.ensures c.in_ok-desk.ensures.ready c.requires.next att calm (c.in_ok-desk.ensures.played setting given play att calm)
