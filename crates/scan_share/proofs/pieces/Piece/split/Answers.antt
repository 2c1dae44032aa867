use Rattle.std.proofs.Common.{arith, ◌-◌, ◌<◌, ◌/◌, ◌^◌, ◌++◌, ◌∙◌, ap, sym, subst, ℕ}
use Rattle.std.proofs.lemmas.Nat.{shr_below}
use Rattle.scan_bits.specs.Words.{bits_of}
use Rattle.scan_bits.proofs.WordLaws.{bits_of-append, bits_of-mod}
use Rattle.scan_share.proofs.pieces.Piece.split.Goals as goal

pub returns-clause-bits : goal.returns-clause-bits
returns-clause-bits c =
    let whole = sym (bits_of-append c.args.n (c.args.self.count - c.args.n) c.args.self.bits) in
    (λ i. (ap (bits_of c.args.n) c.low_bits.ensures ∙ bits_of-mod c.args.n c.args.self.bits) i ++ bits_of (c.args.self.count - c.args.n) (c.args.self.bits / 2 ^ c.args.n))
    ∙ whole ∙ ap (λ (m : ℕ). bits_of m c.args.self.bits) (omega (arith, c.requires.more))

pub returns-clause-rest : goal.returns-clause-rest
returns-clause-rest c =
    shr_below c.args.self.bits (c.args.self.count - c.args.n) c.args.n
    (subst (λ (m : ℕ). c.args.self.bits < 2 ^ m) (omega (arith, c.requires.more)) c.requires.bound)
