use Rattle.scan_bits.proofs.Held.{zeros-held}
use Rattle.std.proofs.Common.{arith}
use Rattle.scan_bits.proofs.bits.Bits.zeros.Goals as goal

pub returns : goal.returns
returns c =
    let words = c.in_ok-words.words in
    λ i. record { bits = zeros-held words.items words.len c.args.count c.in_ok-words.ensures.zeros (omega (arith, c.in_ok-words.ensures.room)) i; room = c.args.count }
