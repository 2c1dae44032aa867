use Rattle.std.proofs.Common.{arith}
use Rattle.share_top.proofs.Lines.{low_rest, listing_starts, listing_more}
use Rattle.share_top.proofs.print.push_devices.Goals as goal

pub overflow_add-place : goal.overflow_add-place
overflow_add-place c = omega (arith, low_rest c.args.line.now.items c.args.group.now c.in-Some.rest.now c.in-Some.first.now c.in-Some.ensures.cases.0 c.requires.low c.loop-place.place-index c.loop-place-test.true)

pub loop-place-init : goal.loop-place-init
loop-place-init c = listing_starts c.args.line.now.items c.args.group.now c.in-Some.rest.now c.in-Some.first.now c.in-Some.ensures.cases.0 c.push_number.new.line.items c.push_number.ensures.is c.push_number.ensures.room

pub loop-place-preserved : goal.loop-place-preserved
loop-place-preserved c =
    listing_more c.args.line.now.items c.args.group.now c.in-Some.rest.now c.in-Some.first.now c.in-Some.ensures.cases.0 c.loop-place.line.items c.push_number-in-loop-place.new.line.items c.loop-place.place-index
    c.loop-place-test.true c.push_number-in-loop-place.ensures.is c.push_number-in-loop-place.ensures.room c.loop-place.invariant
