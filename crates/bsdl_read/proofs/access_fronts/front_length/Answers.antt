use Rattle.bsdl_read.proofs.AccessFronts.{has_length}
use Rattle.bsdl_read.proofs.access_fronts.front_length.Goals as goal

pub returns-clause-is : goal.returns-clause-is
returns-clause-is c =
    has_length c.args.text.now _ _ _ _ _ _ _ c.requires.ends (c.has_sign.ensures c.if-not-has_sign.false) c.behind_blanks-digits.ensures c.in_ok-value.ensures c.behind_blanks-close.ensures (c.has_sign-2.ensures c.if-not-has_sign-2.false) c.behind_blanks.ensures
