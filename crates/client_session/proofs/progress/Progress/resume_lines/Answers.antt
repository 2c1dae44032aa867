use Rattle.std.proofs.Common.{subst, true}
use Rattle.client_session.specs.Acts.Act.{SetLines}
use Rattle.client_session.specs.Calls.{IsToAct, ShowsSeat}
use Rattle.client_session.specs.Desks.{Attends, cable_of}
use Rattle.client_session.specs.Edges.{EdgesTo, MakesEdge}
use Rattle.client_session.proofs.LineActs.{attends_map, comes_edge, edge_left_to_act}
use Rattle.client_session.proofs.progress.Progress.resume_lines.Goals as goal

pub returns-clause-went : goal.returns-clause-went
returns-clause-went g c = λ given base_desk base turn whole attends.
    let edge = c.take_edge-edge.result in
    comes_edge c.args.layout.now c.args.grant c.requires.sound base_desk base turn c.args.self.now c.requires.protocol given true edge.tms edge.tdi c.rise_at_capture.new.tap c.take_edge-edge.new.input c.take_edge-edge.ensures.same
    c.requires.waits.trst c.requires.waits.tck c.args.desk c.in_ok-_waits.desk (g.C.Cable.chain (cable_of c.args.desk.side)) (g.C.Cable.chain (cable_of c.in_ok-_waits.desk.side)) c.take_edge-edge.ensures.none
    (subst (λ waits. Attends c.args.layout.now c.args.grant base_desk base (MakesEdge true edge.tms edge.tdi c.args.self.now.tap c.args.grant) c.args.desk (g.C.Cable.chain (cable_of c.args.desk.side)) turn
    → EdgesTo waits c.args.layout.now c.args.grant c.rise_at_capture.new.tap base_desk base c.in_ok-_waits.desk (g.C.Cable.chain (cable_of c.in_ok-_waits.desk.side)) turn) (c.in_ok-_waits.ensures.first c.requires.first) (c.in_ok-_waits.ensures.went base_desk base turn whole))
    (attends_map c.args.layout.now c.args.grant base_desk base turn (ShowsSeat c.args.self.now c.args.grant given) (IsToAct (SetLines true edge.tms edge.tdi) c.args.self.now c.args.grant given) c.args.desk (g.C.Cable.chain (cable_of c.args.desk.side))
    (edge_left_to_act c.args.self.now (SetLines true edge.tms edge.tdi) c.args.grant given turn c.requires.protocol c.take_edge-edge.ensures.kept) attends)
