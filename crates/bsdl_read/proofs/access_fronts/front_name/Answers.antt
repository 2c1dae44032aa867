use Rattle.std.proofs.Common.{sym, ◌∙◌, arith}
use Rattle.bsdl_read.proofs.AccessFronts.{names_one}
use Rattle.bsdl_read.proofs.access_fronts.front_name.Goals as goal

pub returns-clause-is : goal.returns-clause-is
returns-clause-is c =
    names_one c.args.text.now _ _ _ _ _ _ _ c.requires.ends c.behind_blanks-first.ensures c.in_ok-stop.ensures.word c.behind_blanks-close.ensures (omega (arith, c.if-close-end.false)) c.in_ok-is_last.ensures (sym c.is_runbist.ensures ∙ c.if-is_runbist.false)
