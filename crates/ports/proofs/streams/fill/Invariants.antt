use Rattle.std.proofs.Common.{◌≡◌, ◌≤◌, ◌-◌, length, take}
use Rattle.std.specs.Io.KnownBytes.{Consumes}
use Rattle.ports.proofs.streams.fill.Given as goal

abbrev pub invariant-loop-count : goal.invariant-loop-count
invariant-loop-count g l = record {
  bound : l.count ≤ length l.buf;
  taken : Consumes (g.I.Source.left l.fn.input) (g.I.Source.left l.input) (take l.count l.buf);
  faults : g.I.Source.fault_count l.input ≡ g.I.Source.fault_count l.fn.input;
}

abbrev pub decreases-loop-count : goal.decreases-loop-count
decreases-loop-count g l = length l.initial.buf - l.count
