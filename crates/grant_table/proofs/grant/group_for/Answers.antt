use Rattle.std.proofs.Common.{◌∙◌, ap, true, false, Vec, Global, ℕ}
use Rattle.grant_table.proofs.Places.{place_passes, places_of}
use Rattle.grant_table.proofs.grant.group_for.Goals as goal
use Rattle.grant_table.proofs.grant.group_for.Goals.{then-is_one_of+in_ok-push, else-is_one_of}

pub loop-place-preserved : goal.loop-place-preserved
loop-place-preserved c = elim c.if-is_one_of.branch [
  | then-is_one_of+in_ok-push w ↦ place_passes c.args.devices.now c.loop-place.group.items c.if-is_one_of.group.items c.loop-place.place c.args.count true (places_of c.args.devices.now c.args.count 0)
      c.loop-place-test.true w.if-is_one_of.ensures (ap (λ (v : Vec ℕ Global). v.items) w.group-is ∙ w.in_ok-push.ensures.items) c.loop-place.invariant
  | else-is_one_of w ↦ place_passes c.args.devices.now c.loop-place.group.items c.if-is_one_of.group.items c.loop-place.place c.args.count false (places_of c.args.devices.now c.args.count 0)
      c.loop-place-test.true w.if-is_one_of.ensures (ap (λ (v : Vec ℕ Global). v.items) w.group-is) c.loop-place.invariant
]
