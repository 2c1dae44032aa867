use Rattle.std.proofs.Common.{◌∙◌, arith, get_or, sym}
use Rattle.std.proofs.lemmas.Grind.{get_or_default_zero}
use Rattle.share_top.proofs.Lines.{bits_more}
use Rattle.share_top.proofs.print.bits_of_group.Goals as goal

pub loop-place-preserved : goal.loop-place-preserved
loop-place-preserved c =
    bits_more c.args.layout.now.parts c.group-place-items.result.now c.loop-place.place-index c.loop-place.bits (get_or c.group-place-items.result.now c.loop-place.place-index 0) c.part.result.now c.from-bits.result
    c.loop-place.invariant c.loop-place-test.true (sym (get_or_default_zero c.group-place-items.result.now c.loop-place.place-index (get_or c.group-place-items.result.now c.loop-place.place-index 0) c.loop-place-test.true))
    c.part.ensures.is (c.from-bits.ensures ∙ c.ir_len.ensures.is) (omega (arith, c.from-bits.ensures, c.ir_len.type_inv))
