use Rattle.std.proofs.Common.{◌≡◌, ◌≤◌, ◌+◌}
use Rattle.base_types.specs.Tellings.{Told}
use Rattle.chain_model.specs.Cables.{HasDevice}
use Rattle.scan_walks.proofs.ShiftLaws.{ReadsOn}
use Rattle.scan_walks.proofs.shifts.shift_out.Given as goal

abbrev pub invariant-loop-left : goal.invariant-loop-left
invariant-loop-left g l = record {
  some : 1 ≤ l.left;
  within : l.left ≤ l.count;
  room : g.S.BitSink.room l.sink + l.count ≡ g.S.BitSink.room l.fn.sink + l.left;
  sink : g.S.BitSink.mark l.sink ≡ g.S.BitSink.mark l.fn.sink;
  devices : Told (g.C.Cable.chain l.cable) HasDevice;
  reads : ReadsOn (g.C.Cable.chain l.fn.cable) (g.C.Cable.chain l.cable) (g.C.Cable.ahead l.fn.cable) (g.C.Cable.ahead l.cable) (g.S.BitSink.holds l.fn.sink) (g.S.BitSink.holds l.sink) l.count l.left;
  mark : g.C.Cable.mark l.cable ≡ g.C.Cable.mark l.fn.cable;
  trst : g.C.Cable.trst l.cable ≡ g.C.Cable.trst l.fn.cable;
  faults : g.C.Cable.fault_count l.cable ≡ g.C.Cable.fault_count l.fn.cable;
}

abbrev pub decreases-loop-left : goal.decreases-loop-left
decreases-loop-left g l = l.left
