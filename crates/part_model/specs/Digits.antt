-- Patterns of digits in words: bit 0 is that of the lowest digit.
use Rattle.std.specs.Prelude.{◌≡◌, ◌<◌, ◌^◌, ℕ, Bool, true, false, List, map}
use Rattle.std.specs.List.{zip}
use Rattle.std.specs.Int.RustNames.{bit_and}
use Rattle.scan_bits.specs.Words.{bits_of}
use Rattle.part_model.specs.declared.Digit.{Digit}
use Rattle.part_model.specs.declared.Digit.TheVariants.{Zero, One, Any}

-- the digit is 0 or 1, and not X
abbrev pub is_stated : Digit → Bool
is_stated Any = false
is_stated Zero = true
is_stated One = true

-- the digit is 1
abbrev pub is_one : Digit → Bool
is_one One = true
is_one Zero = false
is_one Any = false

-- the digit of two bits: whether it is stated, and whether it is 1
abbrev pub digit_of : Bool → Bool → Digit
digit_of false one = Any
digit_of true false = Zero
digit_of true true = One

-- so many digits of two words: a 1 in the first for each that is stated, and in the second for each that is 1
abbrev pub digits_of : ℕ → ℕ → ℕ → List Digit
digits_of count cares ones = map (λ bits. digit_of bits.0 bits.1) (zip (bits_of count cares) (bits_of count ones))

-- no bit stands from `count` on, and each digit that is 1 is stated
pub record IsPacked (count cares ones : ℕ) : Type 0 where
  pub cares_fit : cares < 2 ^ count
  pub ones_care : bit_and ones cares ≡ ones
