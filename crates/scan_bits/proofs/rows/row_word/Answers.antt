use Rattle.scan_bits.proofs.RowWords.{read_part, join_parts, read_bound}
use Rattle.scan_bits.proofs.RowLaws.{length-row}
use Rattle.scan_bits.specs.Words.{number_of}
use Rattle.scan_bits.specs.Rows.{bits_of_row, window}
use Rattle.std.proofs.Common.{◌≡◌, ◌+◌, ◌-◌, ◌/◌, ◌%◌, ◌∙◌, ap, arith}
use Rattle.scan_bits.proofs.rows.row_word.Goals as goal

pub returns-then-count-here-clause-bits : goal.returns-then-count-here-clause-bits
returns-then-count-here-clause-bits c = c.part_of.ensures ∙ read_part 64 (c.args.at / 64) (c.args.at % 64) c.args.count c.args.at c.args.words.now _ (omega (arith, c)) (omega (arith, c)) (omega (arith, c))

pub returns-clause-bits : goal.returns-clause-bits
returns-clause-bits c =
    let here = 64 - c.args.at % 64 in
    let more = c.args.count - here in
    let both : here + more ≡ c.args.count = omega (arith, c) in
    join_parts (bits_of_row 64 c.args.words.now) c.args.at here more c.part_of-2.result c.part_of-3.result
    (c.part_of-2.ensures ∙ read_part 64 (c.args.at / 64) (c.args.at % 64) here c.args.at c.args.words.now _ (omega (arith, c)) (omega (arith, c)) (omega (arith, c)))
    (c.part_of-3.ensures ∙ read_part 64 (c.args.at / 64 + 1) 0 more (c.args.at + here) c.args.words.now _ (omega (arith, c)) (omega (arith, c)) (omega (arith, c)))
    (omega (arith, c, length-row 64 c.args.words.now)) (omega (arith, c))
    ∙ ap (λ n. number_of (window (bits_of_row 64 c.args.words.now) c.args.at n)) both

pub returns-clause-bound : goal.returns-clause-bound
returns-clause-bound c =
    read_bound (bits_of_row 64 c.args.words.now) c.args.at c.args.count _ (omega (arith, c.requires.within, length-row 64 c.args.words.now)) (returns-clause-bits c)
