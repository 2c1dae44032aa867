use Rattle.std.proofs.Common.{◌≡◌, [], drop, false}
use Rattle.base_types.specs.Tellings.{Told, Both}
use Rattle.plays.specs.Plays.{Setting}
use Rattle.plays.specs.Schedule.{with_ready}
use Rattle.hub.specs.Served.{AreLeft, ConnsAreOpen, OnlyOpened, grants_of}
use Rattle.hub.specs.Standing.{EndsFollow, StandsOnBut}
use Rattle.hub.specs.Resting.{KeepsRest}
use Rattle.hub.proofs.Shutting.{Due}
use Rattle.hub.proofs.SeatLists.{LettingGo}
use Rattle.hub.proofs.sessions.Sessions.let_all_go.Given as goal

abbrev pub invariant-loop-at : goal.invariant-loop-at
invariant-loop-at g l = record {
  table : LettingGo l.fn.self.table (with_ready false (grants_of (drop l.fn.earlier l.fn.self.table.hub.ended)) l.fn.self.table.hub.ready) l.at l.self.table;
  gone : l.self.gone ≡ l.fn.self.gone;
  left : AreLeft l.fn.self.table.hub (drop l.at l.fn.self.table.hub.ended);
  conns : Told (g.W.Wire.told l.wire) (ConnsAreOpen l.fn.self.table.hub l.fn.self.gone.items (drop l.at l.fn.self.table.hub.ended));
  due : Both (g.W.Wire.told l.fn.wire) (g.W.Wire.told l.wire) (Due (drop l.fn.earlier l.fn.self.table.hub.ended) (drop l.at l.fn.self.table.hub.ended));
  known : Both (g.W.Wire.told l.fn.wire) (g.W.Wire.told l.wire) OnlyOpened;
  rests : Both (g.W.Wire.told l.fn.wire) (g.W.Wire.told l.wire) (KeepsRest l.fn.self.table.hub l.self.table.hub);
  stands : (setting : Setting) → StandsOnBut setting (drop l.fn.earlier l.fn.self.table.hub.ended) l.fn.self.table.hub (g.C.Cable.chain l.fn.self.table.cable) (g.W.Wire.told l.fn.wire)
      → StandsOnBut setting (drop l.at l.fn.self.table.hub.ended) l.self.table.hub (g.C.Cable.chain l.self.table.cable) (g.W.Wire.told l.wire);
  ends : (setting : Setting) → StandsOnBut setting (drop l.fn.earlier l.fn.self.table.hub.ended) l.fn.self.table.hub (g.C.Cable.chain l.fn.self.table.cable) (g.W.Wire.told l.fn.wire)
      → EndsFollow setting (g.W.Wire.told l.fn.wire) (g.W.Wire.told l.wire) [];
  door : g.W.Wire.door l.wire ≡ g.W.Wire.door l.fn.wire;
  faults : g.W.Wire.fault_count l.wire ≡ g.W.Wire.fault_count l.fn.wire;
}
