use Rattle.scan_share.proofs.PlaceMasks.{Marked}
use Rattle.scan_share.proofs.members.mask_of.Given as goal

abbrev pub invariant-loop-place : goal.invariant-loop-place
invariant-loop-place l = Marked l.mask l.group l.place-index
