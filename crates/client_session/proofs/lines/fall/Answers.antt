use Rattle.std.proofs.Common.{◌∙◌, sym}
use Rattle.client_session.specs.Desks.{cable_of}
use Rattle.client_session.proofs.Edges.{fall_edge, update_edge}
use Rattle.client_session.proofs.Entering.{some_bits}
use Rattle.client_session.proofs.lines.fall.Goals as goal

pub returns-then-not-fall-clause-went : goal.returns-then-not-fall-clause-went
returns-then-not-fall-clause-went g c = λ tms tdi base_desk base turn whole attends.
    fall_edge c.args.layout.now c.args.grant c.requires.sound base_desk base turn whole c.args.desk c.args.tap.now c.fall.new.self c.fall.ensures.kept.parts tms tdi
    (g.C.Cable.chain (cable_of c.args.desk.side)) c.requires.high c.fall.ensures.scan (c.fall.ensures.moved c.if-not-fall.true) attends

pub returns-clause-went : goal.returns-clause-went
returns-clause-went g c = λ tms tdi base_desk base turn whole attends.
    let bits = some_bits c.args.tap.now.view.register c.requires.there in
    update_edge c.args.layout.now c.args.grant c.requires.sound base_desk base turn whole c.args.desk c.args.tap.now c.update.new.tap (c.in_ok-next.ensures.same.1 ∙ c.fall.ensures.kept.parts) tms tdi c.fall.new.self c.in_ok-next.next bits.0
    (g.C.Cable.chain (cable_of c.args.desk.side)) (g.C.Cable.chain (cable_of c.in_ok-next.next.side)) (sym c.fall.ensures.is ∙ c.if-not-fall.false) c.fall.ensures.kept.parts c.fall.ensures.register c.fall.ensures.codes
    (c.fall.ensures.closing c.if-not-fall.false) bits.1 c.in_ok-next.ensures.closed attends
