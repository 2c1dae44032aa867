use Rattle.std.proofs.Common.{◌≡◌, ◌<◌, ◌-◌, ℕ, List, length}
use Rattle.std.specs.declared.option.Option.{Option}
use Rattle.client_session.specs.Turns.{Turn}
use Rattle.client_session.specs.Seats.{most_bytes}
use Rattle.client_session.specs.Sessions.{DeskView, view_taken}
use Rattle.client_session.specs.Stores.{KeepsSession}
use Rattle.client_session.specs.Desks.{cable_of}
use Rattle.lone_session.specs.Steps.{GoesOn, IsReady}
use Rattle.lone_session.proofs.serve.Given as goal

abbrev pub invariant-loop-served : goal.invariant-loop-served
invariant-loop-served g l = record {
  ready : IsReady l.layout l.session l.desk (g.C.Cable.chain (cable_of l.desk.side)) (g.C.Cable.trst (cable_of l.desk.side));
  buffer : 0 < length l.buffer;
  kept : KeepsSession l.fn.session l.session;
  mark : g.C.Cable.mark (cable_of l.desk.side) ≡ g.C.Cable.mark (cable_of l.fn.desk.side);
  trst : g.C.Cable.trst (cable_of l.desk.side) ≡ g.C.Cable.trst (cable_of l.fn.desk.side);
  source : g.I.Source.fault_count l.input ≡ g.I.Source.fault_count l.fn.input;
  cable : g.C.Cable.fault_count (cable_of l.desk.side) ≡ g.C.Cable.fault_count (cable_of l.fn.desk.side);
  sink : g.O.Sink.fault_count l.out ≡ g.O.Sink.fault_count l.fn.out;
  went : (left sent : Option (List ℕ)) (old_desk : DeskView) (start : Turn)
      → GoesOn l.layout l.fn.session.grant l.fn.session.view left (g.I.Source.left l.fn.input) sent (g.O.Sink.sent l.fn.out) old_desk l.fn.desk (g.C.Cable.chain (cable_of l.fn.desk.side)) start
      → GoesOn l.layout l.session.grant l.session.view left (g.I.Source.left l.input) sent (g.O.Sink.sent l.out) old_desk l.desk (g.C.Cable.chain (cable_of l.desk.side)) start;
}

abbrev pub decreases-loop-served : goal.decreases-loop-served
decreases-loop-served g l = most_bytes - view_taken l.session.view
