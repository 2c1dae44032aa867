use Rattle.scan_share.proofs.PlaceMasks.{Listed}
use Rattle.scan_share.proofs.members.places_of.Given as goal

abbrev pub invariant-loop-place : goal.invariant-loop-place
invariant-loop-place l = Listed l.places.items l.rest l.mask l.place
