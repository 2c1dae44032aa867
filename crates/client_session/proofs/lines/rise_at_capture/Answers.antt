use Rattle.std.proofs.Common.{◌≡◌, ◌∙◌, ap, subst, sym, refl, false, true}
use Rattle.chain_token.specs.Tokens.{waiting}
use Rattle.chain_token.specs.Waiting.{is_among}
use Rattle.client_session.specs.Desks.{cable_of}
use Rattle.client_session.proofs.Edges.{capture_made, capture_waits}
use Rattle.client_session.proofs.Others.{blocked_waited, not_among, others_opened, others_waited}
use Rattle.client_session.proofs.Resting.{joined}
use Rattle.client_session.proofs.lines.rise_at_capture.Goals as goal

pub returns-in-Wait-clause-went : goal.returns-in-Wait-clause-went
returns-in-Wait-clause-went g c = λ base_desk base turn whole attends.
    capture_waits c.args.layout.now c.args.grant c.requires.sound base_desk base turn whole c.args.desk c.args.tap.now c.args.tap.now refl c.args.tms c.args.tdi c.in-Wait.desk
    (g.C.Cable.chain (cable_of c.args.desk.side)) (g.C.Cable.chain (cable_of c.in-Wait.desk.side)) c.requires.capture c.in-Wait.ensures (ap (λ side. g.C.Cable.chain (cable_of side)) (sym c.in-Wait.ensures.1)) refl attends

pub returns-in-Wait-clause-line : goal.returns-in-Wait-clause-line
returns-in-Wait-clause-line g c = subst (λ waits. is_among c.args.grant waits ≡ true) (sym c.in-Wait.ensures.2) (joined c.args.grant c.args.desk.queue)

pub returns-in-Wait-clause-others : goal.returns-in-Wait-clause-others
returns-in-Wait-clause-others g c = others_waited c.args.grant c.args.desk c.in-Wait.desk c.in-Wait.ensures

pub returns-in_ok-desk-in-Yours-clause-went : goal.returns-in_ok-desk-in-Yours-clause-went
returns-in_ok-desk-in-Yours-clause-went g c = λ base_desk base turn whole attends.
    capture_made c.args.layout.now c.args.grant c.requires.sound base_desk base turn whole c.args.desk c.args.tap.now c.rise.new.self (c.rise.ensures.kept.parts ∙ c.in_ok-desk-in-Yours.ensures.same.1) c.args.tms c.args.tdi c.capture.new.tap
    c.in-Yours.parked c.in-Yours.queue c.in_ok-desk-in-Yours.desk (g.C.Cable.chain (cable_of c.args.desk.side)) (g.C.Cable.chain c.in-Yours.parked.cable) (g.C.Cable.chain (cable_of c.in_ok-desk-in-Yours.desk.side))
    c.requires.capture c.in-Yours.ensures (ap (λ side. g.C.Cable.chain (cable_of side)) c.in-Yours.ensures.1) c.in_ok-desk-in-Yours.ensures.opened c.rise.ensures.left attends

pub returns-in_ok-desk-in-Yours-clause-line : goal.returns-in_ok-desk-in-Yours-clause-line
returns-in_ok-desk-in-Yours-clause-line g c =
    subst (λ waits. is_among c.args.grant waits ≡ false) (sym (c.in_ok-desk-in-Yours.ensures.opened.waits_are ∙ c.in-Yours.ensures.2)) (not_among c.args.grant (waiting c.args.desk))

pub returns-in_ok-desk-in-Yours-clause-others : goal.returns-in_ok-desk-in-Yours-clause-others
returns-in_ok-desk-in-Yours-clause-others g c =
    others_opened c.args.grant c.args.desk c.in_ok-desk-in-Yours.desk c.in-Yours.parked c.in-Yours.queue c.in-Yours.ensures c.in_ok-desk-in-Yours.ensures.opened.held c.in_ok-desk-in-Yours.ensures.opened.waits_are

pub returns-in-Wait-clause-blocked : goal.returns-in-Wait-clause-blocked
returns-in-Wait-clause-blocked g c = blocked_waited c.args.grant c.args.tap.now.view c.args.desk c.in-Wait.desk c.requires.capture c.requires.desk.holds c.in-Wait.ensures
