use Rattle.scan_share.proofs.PlaceMasks.{begin_listed, one_listed, none_listed, all_listed}
use Rattle.scan_share.proofs.members.places_of.Goals.{then-rest-eq1, else-rest-eq1}
use Rattle.scan_share.proofs.members.places_of.Goals as goal

pub loop-place-init : goal.loop-place-init
loop-place-init c = rw c.new-places.ensures (begin_listed c.args.mask)

pub loop-place-preserved : goal.loop-place-preserved
loop-place-preserved c =
    elim c.if-rest-eq1.branch [
      | then-rest-eq1 w ↦ rw (w.places-is, w.push.ensures.items) (one_listed c.loop-place.places.items c.loop-place.rest c.args.mask c.loop-place.place c.loop-place-test.true w.if-rest-eq1.true c.loop-place.invariant)
      | else-rest-eq1 w ↦ rw w.places-is (none_listed c.loop-place.places.items c.loop-place.rest c.args.mask c.loop-place.place c.loop-place-test.true w.if-rest-eq1.false c.loop-place.invariant)
    ]

pub returns : goal.returns
returns c = all_listed c.loop-place.places.items c.loop-place.rest c.args.mask c.loop-place.place c.loop-place-test.false c.loop-place.invariant
