use Rattle.scan_bits.proofs.RowWords.{write_part, write_parts}
use Rattle.scan_bits.specs.Words.{bits_of}
use Rattle.scan_bits.specs.Rows.{bits_of_row, written}
use Rattle.std.proofs.Common.{◌≡◌, ◌+◌, ◌-◌, ◌/◌, ◌%◌, ◌^◌, ◌∙◌, ap, arith, set, length-set}
use Rattle.scan_bits.proofs.rows.put_row_word.Goals as goal

pub returns-then-count-here-clause-bits : goal.returns-then-count-here-clause-bits
returns-then-count-here-clause-bits c = write_part 64 (c.args.at / 64) (c.args.at % 64) c.args.count c.args.at c.args.value c.args.words.now _ c.with_part.result (omega (arith, c)) (omega (arith, c)) (omega (arith, c)) c.with_part.ensures

pub returns-clause-bits : goal.returns-clause-bits
returns-clause-bits c =
    let from = c.args.at / 64 in
    let here = 64 - c.args.at % 64 in
    let more = c.args.count - here in
    let both : here + more ≡ c.args.count = omega (arith, c) in
    let first = set c.args.words.now from c.with_part-2.result in
    let same = length-set c.args.words.now from c.with_part-2.result in
    let one : bits_of_row 64 first ≡ written (bits_of_row 64 c.args.words.now) c.args.at (bits_of here c.args.value)
    = write_part 64 from (c.args.at % 64) here c.args.at c.args.value c.args.words.now _ c.with_part-2.result (omega (arith, c)) (omega (arith, c)) (omega (arith, c)) c.with_part-2.ensures in
    let two = write_part 64 (from + 1) 0 more (c.args.at + here) (c.args.value / 2 ^ here) first _ c.with_part-3.result (omega (arith, c)) (omega (arith, c, same)) (omega (arith, c)) c.with_part-3.ensures in
    write_parts c.args.words.now (set first (from + 1) c.with_part-3.result) c.args.at here more c.args.value
    (two ∙ ap (λ q. written q (c.args.at + here) (bits_of more (c.args.value / 2 ^ here))) one) (omega (arith, c))
    ∙ ap (λ n. written (bits_of_row 64 c.args.words.now) c.args.at (bits_of n c.args.value)) both
