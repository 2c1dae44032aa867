use Rattle.bsdl_read.proofs.AccessFronts.{opens_with}
use Rattle.bsdl_read.proofs.access_fronts.front_register.Goals as goal

pub returns-clause-is : goal.returns-clause-is
returns-clause-is c = opens_with c.args.text.now _ _ _ _ _ _ _ c.behind_blanks-first.ensures c.in_ok-stop.ensures.word c.behind_blanks-list.ensures c.in_ok-length.ensures.is (c.has_sign.ensures c.if-not-has_sign.false)
