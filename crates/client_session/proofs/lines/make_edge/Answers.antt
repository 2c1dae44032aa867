use Rattle.std.proofs.Common.{◌∙◌, not, sym, subst}
use Rattle.virtual_tap.specs.Taps.{ScansAt}
use Rattle.client_session.specs.Desks.{cable_of}
use Rattle.client_session.proofs.Edges.{rise_edge}
use Rattle.client_session.proofs.lines.make_edge.Goals as goal

pub returns-clause-went : goal.returns-clause-went
returns-clause-went g c = λ base_desk base turn whole attends.
    rise_edge c.args.layout.now c.args.grant c.requires.sound base_desk base turn whole c.args.desk c.args.tap.now c.rise.new.self c.rise.ensures.kept.parts c.args.tck c.args.tms c.args.tdi
    (g.C.Cable.chain (cable_of c.args.desk.side)) c.if-not-tck.false (subst (λ level. ScansAt (not level) c.args.tap.now.view) c.if-not-tck.false c.requires.scans) (sym c.at_capture.ensures ∙ c.if-at_capture.false) c.rise.ensures.moved attends
