use Rattle.std.proofs.Common.{arith, ◌++◌, ◌∙◌, ap}
use Rattle.text_lines.specs.Hex.{hex_digits}
use Rattle.report_lines.proofs.Numbers.{part_digits}
use Rattle.report_lines.proofs.devices.digits_line.Goals as goal

pub overflow_mul-from : goal.overflow_mul-from
overflow_mul-from c = omega (arith, c.requires.some, c.requires.within, c.len-length.ensures.count)

pub returns : goal.returns
returns c =
    c.push_hex_digits.ensures.is ∙ ap (λ line. line ++ hex_digits c.args.count c.word.result) c.new-line.ensures
    ∙ part_digits c.args.bits.now.bits c.args.below c.args.count c.min-width.result c.word.result (omega (arith, c.requires.some, c.requires.within)) (c.min-width.ensures ∙ omega (arith, c.len-length.ensures.count)) c.word.ensures.bits
