use Rattle.std.proofs.Common.{◌≡◌, []}
use Rattle.base_types.specs.Tellings.{Told, Both}
use Rattle.hub.specs.Served.{AreWhole, AreCalm, ConnsAreOpen, KeepsMade, OnlyOpened, ShutsFor}
use Rattle.hub.specs.Standing.{KeepsEnds, KeepsPlay}
use Rattle.hub.specs.Resting.{Rests}
use Rattle.hub.proofs.Rounds.{ServesBelow}
use Rattle.hub.proofs.sessions.Sessions.rest.Given as goal

abbrev pub invariant-loop-grant : goal.invariant-loop-grant
invariant-loop-grant g l = record {
  whole : AreWhole l.self.table.hub l.self.gone.items;
  made : KeepsMade l.fn.self.table.hub l.self.table.hub;
  calm : AreCalm l.self.table.hub l.self.gone.items;
  conns : Told (g.W.Wire.told l.wire) (ConnsAreOpen l.self.table.hub l.self.gone.items []);
  shuts : Both (g.W.Wire.told l.fn.wire) (g.W.Wire.told l.wire) (ShutsFor l.fn.self.table.hub.ended l.self.table.hub.ended);
  known : Both (g.W.Wire.told l.fn.wire) (g.W.Wire.told l.wire) OnlyOpened;
  rests : Both (g.W.Wire.told l.fn.wire) (g.W.Wire.told l.wire) (λ before now. Rests l.fn.self.table.hub before → Rests l.self.table.hub now);
  serves : Both (g.W.Wire.told l.fn.wire) (g.W.Wire.told l.wire) (ServesBelow l.grant l.fn.self.table.hub l.self.table.hub);
  stands : KeepsPlay l.fn.self.table.hub l.self.table.hub (g.C.Cable.chain l.fn.self.table.cable) (g.C.Cable.chain l.self.table.cable) (g.W.Wire.told l.fn.wire) (g.W.Wire.told l.wire);
  ends : KeepsEnds l.fn.self.table.hub l.self.table.hub (g.C.Cable.chain l.fn.self.table.cable) (g.W.Wire.told l.fn.wire) (g.W.Wire.told l.wire);
  door : g.W.Wire.door l.wire ≡ g.W.Wire.door l.fn.wire;
  wire_faults : g.W.Wire.fault_count l.wire ≡ g.W.Wire.fault_count l.fn.wire;
  mark : g.C.Cable.mark l.self.table.cable ≡ g.C.Cable.mark l.fn.self.table.cable;
  trst : g.C.Cable.trst l.self.table.cable ≡ g.C.Cable.trst l.fn.self.table.cable;
  faults : g.C.Cable.fault_count l.self.table.cable ≡ g.C.Cable.fault_count l.fn.self.table.cable;
}
