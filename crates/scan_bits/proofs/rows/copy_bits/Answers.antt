use Rattle.scan_bits.proofs.Windows.{row-moved}
use Rattle.scan_bits.specs.Rows.{bits_of_row, window}
use Rattle.std.proofs.Common.{◌+◌, ◌-◌, ◌/◌, ◌%◌, ◌∙◌, ◌++◌, drop, ap, arith}
use Rattle.scan_bits.proofs.rows.copy_bits.Goals as goal

pub returns-clause-bits : goal.returns-clause-bits
returns-clause-bits c =
    let first = c.args.start / 64 in
    let words = (c.args.start + c.args.count + 63) / 64 - first in
    let low = c.args.start % 64 in
    let rest = drop words c.args.words.now in
    ap (λ q. window (bits_of_row 64 (q ++ rest)) low c.args.count) c.copy_from_slice.ensures.after
    ∙ row-moved 64 first words low c.args.count c.args.start c.args.from.now rest (omega (arith, c)) (omega (arith, c)) (omega (arith, c))
