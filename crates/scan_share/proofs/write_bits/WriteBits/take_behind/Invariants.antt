use Rattle.std.proofs.Common.{◌≤◌, ◌-◌, ◌++◌, drop}
use Rattle.scan_bits.specs.Words.{bits_of}
use Rattle.scan_share.specs.Rows.{woven}
use Rattle.scan_share.proofs.Taking.{Taken}
use Rattle.scan_share.proofs.write_bits.WriteBits.take_behind.Given as goal

abbrev pub invariant-loop-done : goal.invariant-loop-done
invariant-loop-done g l = record {
  within : l.done ≤ l.n;
  taken : Taken l.word l.done (woven (g.R.ScanRuns.marks l.self.runs) (drop l.self.at l.self.bits.now.bits)) (bits_of l.fn.first.count l.fn.first.bits ++ woven (g.R.ScanRuns.marks l.fn.self.runs) (drop l.fn.self.at l.fn.self.bits.now.bits));
}

abbrev pub decreases-loop-done : goal.decreases-loop-done
decreases-loop-done g l = l.n - l.done
