use Rattle.std.proofs.Common.{bit_and, bit_or, refl}
use Rattle.bsdl_lex.proofs.Masks.{mask_of, joined, with_splat, splat, at_most, less}
use Rattle.bsdl_lex.proofs.lanes.text_ends.Goals as goal

pub returns : goal.returns
returns c =
    let v = c.args.bytes in
    let long = c.fits-bytes.0 in
    let unseen = joined bit_and _ _ v (joined at_most _ _ v (splat v 95 long) (with_splat less v 32 long)) (with_splat _ v 9 long) in
    mask_of _ _ v _ c.fits-bytes (joined bit_or _ _ v unseen (with_splat _ v 34 long)) refl
