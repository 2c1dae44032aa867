use Rattle.std.proofs.Common.{get_or, sym}
use Rattle.std.proofs.lemmas.Grind.{get_or_default_zero}
use Rattle.grant_table.proofs.Sums.{longest_more}
use Rattle.grant_table.proofs.layout.longest_sum.Goals as goal

pub loop-place-preserved : goal.loop-place-preserved
loop-place-preserved c = longest_more c.args.parts.now c.args.group.now c.loop-place.place-index c.loop-place.sum (get_or c.args.group.now c.loop-place.place-index 0) c.index-parts-place.result c.longest.result c.loop-place.invariant
    c.loop-place-test.true (sym (get_or_default_zero c.args.group.now c.loop-place.place-index (get_or c.args.group.now c.loop-place.place-index 0) c.loop-place-test.true))
    (c.requires.within c.loop-place.place-index 0 c.loop-place-test.true) c.index-parts-place.is c.longest.ensures c.requires.parts
