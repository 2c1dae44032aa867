use Rattle.std.proofs.Common.{arith, ◌-◌, ◌^◌, ◌∙◌, ap, ℕ, bit_and}
use Rattle.std.proofs.lemmas.Nat.{and_mask}
use Rattle.std.proofs.lemmas.Nat.Bits.{ones_shr}
use Rattle.scan_share.proofs.pieces.low_bits.Goals as goal

pub returns : goal.returns
returns c =
    ap (bit_and c.args.word) (ones_shr 64 (64 - c.args.count) (omega arith) ∙ ap (λ (k : ℕ). 2 ^ k - 1) (omega (arith, c.requires.few))) ∙ and_mask c.args.word c.args.count
