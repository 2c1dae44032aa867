use Rattle.std.proofs.Common.{◌∙◌, sym}
use Rattle.client_session.specs.Desks.{cable_of}
use Rattle.client_session.proofs.Closing.{end_shut, end_open}
use Rattle.client_session.proofs.Entering.{some_bits}
use Rattle.client_session.proofs.desk.close.Goals as goal

pub returns-then-not-scan_open-clause-went : goal.returns-then-not-scan_open-clause-went
returns-then-not-scan_open-clause-went g c = λ base_desk base turn whole attends.
    end_shut c.args.layout.now c.args.grant c.requires.sound base_desk base turn whole c.args.desk c.args.tap.now c.restart.new.self c.restart.ensures.kept.parts (g.C.Cable.chain (cable_of c.args.desk.side))
    (sym c.scan_open.ensures.is ∙ c.if-not-scan_open.true) c.restart.ensures.moved attends

pub returns-clause-went : goal.returns-clause-went
returns-clause-went g c = λ base_desk base turn whole attends.
    let bits = some_bits c.args.tap.now.view.register c.requires.there in
    end_open c.args.layout.now c.args.grant c.requires.sound base_desk base turn whole c.args.desk c.args.tap.now c.restart-2.new.self (c.restart-2.ensures.kept.parts ∙ c.in_ok-next.ensures.same.1) c.update.new.tap c.in_ok-next.next bits.0
    (g.C.Cable.chain (cable_of c.args.desk.side)) (g.C.Cable.chain (cable_of c.in_ok-next.next.side)) (sym c.scan_open.ensures.is ∙ c.if-not-scan_open.false) bits.1 c.in_ok-next.ensures.closed c.restart-2.ensures.moved attends
