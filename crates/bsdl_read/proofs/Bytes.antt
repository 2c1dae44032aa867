-- Bytes of words and numbers are small.
use Rattle.std.proofs.Common.{◌≡◌, ℕ, ◌+◌, ◌-◌, ◌*◌, ◌<◌, ◌≤◌, ◌^◌, ◌==◌, ◌&&◌, ◌||◌, not, nat_lt, if◌then◌else◌, Bool, true, false, inl, inr, arith}
use Rattle.std.proofs.Math.Nat.{pow-le-pow_right}
use Rattle.std.proofs.lemmas.Bool.{or_cases, eqb-true}
use Rattle.bsdl_lex.specs.Tokens.{within, is_letter, is_digit, in_word}
use Rattle.bsdl_lex.proofs.Complete.{within_parts}
use Rattle.bsdl_read.specs.Words.{capital}

pub word_byte : (byte : ℕ) → in_word byte ≡ true → byte < 128
word_byte byte is = elim (or_cases (is_letter byte) (is_digit byte || (byte == 95)) is) [
  | inl letter ↦ elim (or_cases (within 65 90 byte) (within 97 122 byte) letter) [ inl a ↦ omega (arith, (within_parts 65 90 byte a).1) | inr b ↦ omega (arith, (within_parts 97 122 byte b).1) ]
  | inr other ↦ elim (or_cases (is_digit byte) (byte == 95) other) [ inl digit ↦ omega (arith, (within_parts 48 57 byte digit).1) | inr line ↦ omega (arith, eqb-true byte 95 line) ]
]

pub nine_digits : (value at count : ℕ) → value < 10 ^ at → at < count → count < 10 → value * 10 + 9 < 2 ^ 32
nine_digits value at count small lt most =
    let le : 10 ^ at ≤ 10 ^ 8 = pow-le-pow_right {n = 10} (omega arith) {i = at} {j = 8} (omega (arith, lt, most)) in
    omega (arith, small, le)

pub capital_byte : (byte : ℕ) → in_word byte ≡ true → capital byte < 128
capital_byte byte is = by (not (nat_lt byte 97) && not (nat_lt 122 byte))
  where
    by : (small : Bool) → (if small then byte - 32 else byte) < 128
    by true = omega (arith, word_byte byte is)
    by false = word_byte byte is
