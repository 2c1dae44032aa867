use Rattle.std.proofs.Common.{◌-◌}
use Rattle.scan_share.proofs.Gathering.{Gathered}
use Rattle.scan_share.proofs.own_bits.own_of.Given as goal

abbrev pub invariant-loop-done : goal.invariant-loop-done
invariant-loop-done g l = Gathered l.n l.word l.done l.own.count l.own.bits (g.R.ScanRuns.marks l.fn.runs) (g.R.ScanRuns.marks l.runs)

abbrev pub decreases-loop-done : goal.decreases-loop-done
decreases-loop-done g l = l.n - l.done
