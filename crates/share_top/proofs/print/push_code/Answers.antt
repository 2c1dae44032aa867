use Rattle.std.proofs.Common.{◌++◌, ◌∙◌, ap, arith}
use Rattle.share_top.proofs.Lines.{code_digits}
use Rattle.share_top.proofs.print.push_code.Goals as goal

pub returns-clause-is : goal.returns-clause-is
returns-clause-is c = c.push_hex_digits.ensures.is ∙ ap (λ l. c.args.line.now.items ++ l) (code_digits c.args.code c.from.result (omega (arith, c.ranges.code.fits)) c.from.ensures)
