use Rattle.std.proofs.Common.{refl, ◌++◌, ◌∙◌, ap}
use Rattle.text_lines.specs.Hex.{without_zeros, hex_digits}
use Rattle.text_lines.proofs.Digits.{hex_pushed}
use Rattle.text_lines.proofs.hex.push_hex.Goals as goal

pub returns-clause-is : goal.returns-clause-is
returns-clause-is c =
    hex_pushed c.args.line.now.items c.args.text.now c.push_hex_digits.new.line.items c.without_zeros.result.now c.push_text.new.line.items c.push_text-2.new.line.items 16 c.args.number refl
    (c.push_hex_digits.ensures.is ∙ ap (λ l. l ++ hex_digits 16 c.args.number) c.new-digits.ensures) c.push_text.ensures (c.without_zeros.ensures.is ∙ ap without_zeros c.deref.ensures.0) c.push_text-2.ensures
