use Rattle.std.proofs.Common.{bit_and, refl}
use Rattle.bsdl_lex.proofs.Masks.{mask_of, joined, with_splat, splat, at_most, less}
use Rattle.bsdl_lex.proofs.lanes.number_ends.Goals as goal

pub returns : goal.returns
returns c =
    let v = c.args.bytes in
    let long = c.fits-bytes.0 in
    let digits = joined at_most _ _ v (splat v 10 long) (with_splat less v 48 long) in
    mask_of _ _ v _ c.fits-bytes (joined bit_and _ _ v digits (with_splat _ v 95 long)) refl
