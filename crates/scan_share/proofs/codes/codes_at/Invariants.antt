use Rattle.scan_share.proofs.Splits.{Picked}
use Rattle.scan_share.proofs.codes.codes_at.Given as goal

abbrev pub invariant-loop-place : goal.invariant-loop-place
invariant-loop-place l = Picked l.own.items l.codes l.places l.place-index
