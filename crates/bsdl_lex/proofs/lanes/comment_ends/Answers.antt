use Rattle.std.proofs.Common.{refl}
use Rattle.bsdl_lex.proofs.Masks.{mask_of, joined, with_splat}
use Rattle.bsdl_lex.proofs.lanes.comment_ends.Goals as goal

pub returns : goal.returns
returns c =
    let v = c.args.bytes in
    let long = c.fits-bytes.0 in
    mask_of _ _ v _ c.fits-bytes (joined _ _ _ v (with_splat _ v 10 long) (with_splat _ v 13 long)) refl
