use Rattle.std.proofs.Common.{◌≡◌, ◌≤◌, ◌-◌, length}
use Rattle.base_types.specs.Tellings.{Told, Both}
use Rattle.chain_model.specs.Cables.{HasDevice}
use Rattle.scan_walks.specs.ReadOuts.{TakesSome}
use Rattle.scan_walks.proofs.ShiftLaws.{LeadsOn}
use Rattle.scan_walks.proofs.shifts.shift_in.Given as goal

abbrev pub invariant-loop-left : goal.invariant-loop-left
invariant-loop-left g l = record {
  some : 1 ≤ l.left;
  within : l.left ≤ l.count;
  whole : length (g.S.BitSource.left l.source) ≡ l.left;
  devices : Told (g.C.Cable.chain l.cable) HasDevice;
  leads : Both (g.C.Cable.chain l.fn.cable) (g.C.Cable.chain l.cable) (LeadsOn (g.S.BitSource.left l.fn.source) (g.S.BitSource.left l.source));
  ahead : TakesSome (g.C.Cable.ahead l.fn.cable) (g.C.Cable.ahead l.cable) (l.count - l.left);
  mark : g.C.Cable.mark l.cable ≡ g.C.Cable.mark l.fn.cable;
  trst : g.C.Cable.trst l.cable ≡ g.C.Cable.trst l.fn.cable;
  faults : g.C.Cable.fault_count l.cable ≡ g.C.Cable.fault_count l.fn.cable;
}

abbrev pub decreases-loop-left : goal.decreases-loop-left
decreases-loop-left g l = l.left
