use Rattle.scan_share.specs.Rows.{scan_words}
use Rattle.scan_share.proofs.Around.{Differing}
use Rattle.scan_share.proofs.scan.Scan.are_bypassed.Given as goal

abbrev pub invariant-loop-place : goal.invariant-loop-place
invariant-loop-place l = Differing l.differing l.loaded (scan_words l.self) l.from l.place
