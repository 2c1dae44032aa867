use Rattle.std.proofs.Common.{ap, subst, sym, ◌≡◌, ◌∙◌, true}
use Rattle.chain_token.specs.Waiting.{is_among}
use Rattle.client_session.specs.Desks.{cable_of}
use Rattle.client_session.specs.Going.{ShiftsAt}
use Rattle.client_session.proofs.Entering.{made_leg, update_leg, wait_leg, capture_leg, some_bits, desk_on}
use Rattle.client_session.proofs.Others.{blocked_waited, not_among, others_opened, others_same, others_waited}
use Rattle.client_session.proofs.Resting.{joined}
use Rattle.client_session.proofs.shift.next_leg.Goals as goal

pub returns-in-Made-clause-went : goal.returns-in-Made-clause-went
returns-in-Made-clause-went g c = λ base_desk base turn whole attends.
    made_leg c.args.layout.now c.args.grant c.requires.sound base_desk base turn whole c.args.desk (ShiftsAt c.args.frame.now c.args.tap.now c.args.from c.args.grant) (ShiftsAt c.walk.new.frame c.walk.new.tap c.args.cycles c.args.grant)
    (g.C.Cable.chain (cable_of c.args.desk.side)) (c.in-Made.ensures.went c.args.grant turn) attends

pub returns-in_ok-desk-in-Update-clause-went : goal.returns-in_ok-desk-in-Update-clause-went
returns-in_ok-desk-in-Update-clause-went g c = λ base_desk base turn whole attends.
    let bits = some_bits c.walk.new.tap.view.register (c.in-Update.ensures.kept.there ∙ c.requires.there) in
    update_leg c.args.layout.now c.args.grant c.requires.sound base_desk base turn whole c.args.desk (ShiftsAt c.args.frame.now c.args.tap.now c.args.from c.args.grant) c.walk.new.frame c.walk.new.tap c.update.new.tap c.in-Update.at bits.0
    c.in_ok-desk-in-Update.desk (g.C.Cable.chain (cable_of c.args.desk.side)) (g.C.Cable.chain (cable_of c.in_ok-desk-in-Update.desk.side)) (c.in-Update.ensures.went c.args.grant turn) bits.1 c.in_ok-desk-in-Update.ensures.closed attends

pub returns-in-Wait-clause-went : goal.returns-in-Wait-clause-went
returns-in-Wait-clause-went g c = λ base_desk base turn whole attends.
    wait_leg c.args.layout.now c.args.grant c.requires.sound base_desk base turn whole c.args.desk (ShiftsAt c.args.frame.now c.args.tap.now c.args.from c.args.grant) c.walk.new.frame c.walk.new.tap c.in-Capture.at c.args.cycles c.in-Wait.desk
    (g.C.Cable.chain (cable_of c.args.desk.side)) (g.C.Cable.chain (cable_of c.in-Wait.desk.side)) (c.in-Capture.ensures.went c.args.grant turn) c.in-Capture.ensures.pauses.1 c.in-Capture.ensures.held c.in-Capture.ensures.pauses.3 c.in-Wait.ensures
    (ap (λ side. g.C.Cable.chain (cable_of side)) (sym c.in-Wait.ensures.1)) attends

pub returns-in-Wait-clause-waits : goal.returns-in-Wait-clause-waits
returns-in-Wait-clause-waits g c = subst (λ waits. is_among c.args.grant waits ≡ true) (sym c.in-Wait.ensures.2) (joined c.args.grant c.args.desk.queue)

pub returns-in-Wait-clause-desk : goal.returns-in-Wait-clause-desk
returns-in-Wait-clause-desk g c = desk_on c.args.layout.now c.args.grant c.args.tap.now.view c.walk.new.tap.view c.args.desk c.in-Wait.desk c.requires.desk c.in-Capture.ensures.scan c.in-Capture.ensures.codes c.in-Wait.ensures.1

pub returns-in_ok-desk-in-Yours-clause-went : goal.returns-in_ok-desk-in-Yours-clause-went
returns-in_ok-desk-in-Yours-clause-went g c = λ base_desk base turn whole attends.
    capture_leg c.args.layout.now c.args.grant c.requires.sound base_desk base turn whole c.args.desk (ShiftsAt c.args.frame.now c.args.tap.now c.args.from c.args.grant) c.walk.new.frame c.enter.new.frame c.walk.new.tap c.enter.new.tap c.in-Capture.at c.args.cycles
    c.in-Yours.parked c.in-Yours.queue c.in_ok-desk-in-Yours.desk (g.C.Cable.chain (cable_of c.args.desk.side)) (g.C.Cable.chain c.in-Yours.parked.cable) (g.C.Cable.chain (cable_of c.in_ok-desk-in-Yours.desk.side))
    (c.in-Capture.ensures.went c.args.grant turn) c.in-Capture.ensures.pauses.1 c.in-Capture.ensures.held c.in-Capture.ensures.pauses.3 c.in-Yours.ensures (ap (λ side. g.C.Cable.chain (cable_of side)) c.in-Yours.ensures.1)
    c.in_ok-desk-in-Yours.ensures.same.1 c.in_ok-desk-in-Yours.ensures.entered attends

pub returns-in-Made-clause-others : goal.returns-in-Made-clause-others
returns-in-Made-clause-others g c = others_same c.args.grant c.args.desk

pub returns-in_ok-desk-in-Update-clause-line : goal.returns-in_ok-desk-in-Update-clause-line
returns-in_ok-desk-in-Update-clause-line g c = λ free. ap (is_among c.args.grant) c.in_ok-desk-in-Update.ensures.closed.waits_are ∙ free

pub returns-in-Wait-clause-others : goal.returns-in-Wait-clause-others
returns-in-Wait-clause-others g c = others_waited c.args.grant c.args.desk c.in-Wait.desk c.in-Wait.ensures

pub returns-in-Wait-clause-line : goal.returns-in-Wait-clause-line
returns-in-Wait-clause-line g c = λ free. subst (λ waits. is_among c.args.grant waits ≡ true) (sym c.in-Wait.ensures.2) (joined c.args.grant c.args.desk.queue)

pub returns-in_ok-desk-in-Yours-clause-others : goal.returns-in_ok-desk-in-Yours-clause-others
returns-in_ok-desk-in-Yours-clause-others g c =
    others_opened c.args.grant c.args.desk c.in_ok-desk-in-Yours.desk c.in-Yours.parked c.in-Yours.queue c.in-Yours.ensures c.in_ok-desk-in-Yours.ensures.entered.held c.in_ok-desk-in-Yours.ensures.entered.waits_are

pub returns-in_ok-desk-in-Yours-clause-line : goal.returns-in_ok-desk-in-Yours-clause-line
returns-in_ok-desk-in-Yours-clause-line g c = λ free. ap (is_among c.args.grant) (c.in_ok-desk-in-Yours.ensures.entered.waits_are ∙ c.in-Yours.ensures.2) ∙ not_among c.args.grant c.args.desk.queue

pub returns-in-Wait-clause-blocked : goal.returns-in-Wait-clause-blocked
returns-in-Wait-clause-blocked g c = blocked_waited c.args.grant c.walk.new.tap.view c.args.desk c.in-Wait.desk c.in-Capture.ensures.pauses.1 (c.requires.desk.holds ∙ sym c.in-Capture.ensures.scan) c.in-Wait.ensures
