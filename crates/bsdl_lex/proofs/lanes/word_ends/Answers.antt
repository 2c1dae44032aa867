use Rattle.std.proofs.Common.{bit_and, bit_or, refl}
use Rattle.bsdl_lex.proofs.Masks.{mask_of, joined, with_splat, splat, at_most, less}
use Rattle.bsdl_lex.proofs.lanes.word_ends.Goals as goal

pub returns : goal.returns
returns c =
    let v = c.args.bytes in
    let long = c.fits-bytes.0 in
    let letters = joined at_most _ _ v (splat v 26 long) (joined less _ _ v (with_splat bit_or v 32 long) (splat v 97 long)) in
    let digits = joined at_most _ _ v (splat v 10 long) (with_splat less v 48 long) in
    mask_of _ _ v _ c.fits-bytes (joined bit_and _ _ v (joined bit_and _ _ v letters digits) (with_splat _ v 95 long)) refl
