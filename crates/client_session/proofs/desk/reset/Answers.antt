use Rattle.std.proofs.Common.{◌∙◌, sym}
use Rattle.client_session.specs.Desks.{cable_of}
use Rattle.client_session.proofs.Closing.{reset_shut, reset_open}
use Rattle.client_session.proofs.desk.reset.Goals as goal

pub returns-then-not-scan_open-clause-went : goal.returns-then-not-scan_open-clause-went
returns-then-not-scan_open-clause-went g c = λ base_desk base turn whole attends.
    reset_shut c.args.layout.now c.args.grant c.requires.sound base_desk base turn whole c.args.desk c.args.tap.now c.restart.new.self c.restart.ensures.kept.parts (g.C.Cable.chain (cable_of c.args.desk.side))
    (sym c.scan_open.ensures.is ∙ c.if-not-scan_open.true) c.restart.ensures.moved attends

pub returns-clause-went : goal.returns-clause-went
returns-clause-went g c = λ base_desk base turn whole attends.
    reset_open c.args.layout.now c.args.grant c.requires.sound base_desk base turn whole c.args.desk c.args.tap.now c.restart-2.new.self (c.restart-2.ensures.kept.parts ∙ c.in_ok-next.ensures.same.1) c.abandon.new.tap c.in_ok-next.next
    (g.C.Cable.chain (cable_of c.args.desk.side)) (g.C.Cable.chain (cable_of c.in_ok-next.next.side)) (sym c.scan_open.ensures.is ∙ c.if-not-scan_open.false) c.in_ok-next.ensures.abandoned c.restart-2.ensures.moved attends
