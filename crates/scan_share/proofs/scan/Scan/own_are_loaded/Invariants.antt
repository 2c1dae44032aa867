use Rattle.std.proofs.Common.{◌+◌}
use Rattle.scan_share.specs.Rows.{scan_words}
use Rattle.scan_share.proofs.Around.{Differing}
use Rattle.scan_share.proofs.scan.Scan.own_are_loaded.Given as goal

abbrev pub invariant-loop-i : goal.invariant-loop-i
invariant-loop-i l = Differing l.differing l.loaded (scan_words l.self) l.first (l.first + l.i)
