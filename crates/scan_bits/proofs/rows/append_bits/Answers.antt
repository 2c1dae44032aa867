use Rattle.scan_bits.proofs.Windows.{window-appended}
use Rattle.scan_bits.proofs.RowLaws.{length-row}
use Rattle.scan_bits.proofs.WordLaws.{length-bits_of}
use Rattle.scan_bits.specs.Words.{bits_of}
use Rattle.scan_bits.specs.Rows.{bits_of_row, window}
use Rattle.std.proofs.Common.{◌≡◌, ◌+◌, ◌∙◌, ◌++◌, length, ap, sym, arith}
use Rattle.scan_bits.proofs.rows.append_bits.Goals as goal

pub returns-clause-bits : goal.returns-clause-bits
returns-clause-bits c =
    let start = c.with_space-start.result in
    let more = bits_of c.args.more c.args.value in
    let row = bits_of_row 64 c.with_space-start.new.words in
    let size : length more ≡ c.args.more = length-bits_of c.args.more c.args.value in
    (λ i. window (c.put_row_word.ensures.bits i) start (c.args.count + sym size i))
    ∙ window-appended row start c.args.count more (omega (arith, c, size, length-row 64 c.with_space-start.new.words))
    ∙ ap (λ q. q ++ more) c.with_space-start.ensures.bits
