use Rattle.std.proofs.Common.{ap, ◌+◌, ◌∙◌}
use Rattle.chain_token.specs.Waiting.{is_among}
use Rattle.client_session.specs.Desks.{StopsAt, cable_of}
use Rattle.client_session.specs.Going.{ShiftsAt}
use Rattle.client_session.proofs.Entering.{more_legs, resumed_leg}
use Rattle.client_session.proofs.Others.{not_among, others_more, others_opened}
use Rattle.client_session.proofs.shift.resume_shift.Goals as goal

pub returns-clause-went : goal.returns-clause-went
returns-clause-went g c = λ base_desk base turn whole attends.
    more_legs c.args.layout.now c.args.grant base_desk base turn (ShiftsAt c.enter.new.frame c.enter.new.tap (c.args.at + 1) c.args.grant) (StopsAt c.in_ok-stop-in-Yours.stop c.args.layout.now c.shift_on.new.frame c.shift_on.new.tap c.args.cycles c.args.grant)
    c.in_ok-desk-in-Yours.desk c.in_ok-stop-in-Yours.desk (g.C.Cable.chain (cable_of c.in_ok-desk-in-Yours.desk.side)) (g.C.Cable.chain (cable_of c.in_ok-stop-in-Yours.desk.side))
    (resumed_leg c.args.layout.now c.args.grant c.requires.sound base_desk base turn whole c.args.desk c.args.frame.now c.enter.new.frame c.args.tap.now c.enter.new.tap c.args.at c.args.cycles c.in-Yours.parked c.in-Yours.queue c.in_ok-desk-in-Yours.desk
    (g.C.Cable.chain (cable_of c.args.desk.side)) (g.C.Cable.chain c.in-Yours.parked.cable) (g.C.Cable.chain (cable_of c.in_ok-desk-in-Yours.desk.side)) c.requires.capture c.requires.held c.requires.within c.in-Yours.ensures
    (ap (λ side. g.C.Cable.chain (cable_of side)) c.in-Yours.ensures.1) c.in_ok-desk-in-Yours.ensures.same.1 c.in_ok-desk-in-Yours.ensures.entered attends)
    (λ here there. c.in_ok-stop-in-Yours.ensures.went base_desk base here whole there)

pub returns-clause-others : goal.returns-clause-others
returns-clause-others g c =
    others_more c.args.grant c.args.desk c.in_ok-desk-in-Yours.desk c.in_ok-stop-in-Yours.desk
    (others_opened c.args.grant c.args.desk c.in_ok-desk-in-Yours.desk c.in-Yours.parked c.in-Yours.queue c.in-Yours.ensures c.in_ok-desk-in-Yours.ensures.entered.held c.in_ok-desk-in-Yours.ensures.entered.waits_are)
    c.in_ok-stop-in-Yours.ensures.others

pub returns-clause-line : goal.returns-clause-line
returns-clause-line g c = c.in_ok-stop-in-Yours.ensures.line (ap (is_among c.args.grant) (c.in_ok-desk-in-Yours.ensures.entered.waits_are ∙ c.in-Yours.ensures.2) ∙ not_among c.args.grant c.args.desk.queue)
