use Rattle.std.proofs.Common.{◌∙◌, sym}
use Rattle.scan_share.proofs.PlaceMasks.{neighbour_row, row_fits, none_marked, more_marked, all_marked}
use Rattle.scan_share.proofs.Places.{read_at}
use Rattle.scan_share.proofs.members.mask_of.Goals as goal

pub row_mask-requires-clause-few : goal.row_mask-requires-clause-few
row_mask-requires-clause-few c = row_fits c.args.group.now (c.are_neighbours.ensures.found c.if-are_neighbours.true) c.requires.low

pub returns-then-are_neighbours : goal.returns-then-are_neighbours
returns-then-are_neighbours c = c.row_mask.ensures ∙ sym (neighbour_row c.args.group.now (c.are_neighbours.ensures.found c.if-are_neighbours.true))

pub loop-place-init : goal.loop-place-init
loop-place-init c = none_marked c.args.group.now

pub loop-place-preserved : goal.loop-place-preserved
loop-place-preserved c =
    more_marked c.loop-place.mask _ c.args.group.now c.loop-place.place-index c.requires.rising c.requires.low (read_at c.args.group.now c.loop-place.place-index 0 c.loop-place-test.true) c.loop-place.invariant

pub returns : goal.returns
returns c = all_marked c.loop-place.mask c.args.group.now c.loop-place.place-index c.loop-place-test.false c.loop-place.invariant
