-- Numbers of base 16.
use Rattle.std.specs.Prelude.{ℕ, zero, suc, ◌/◌, ◌%◌, ◌+◌, ◌==◌, nat_lt, List, [], ◌∷◌, ◌++◌, if◌then◌else◌}
use Rattle.std.specs.List.{flat_map}

-- a digit, in a small letter from ten on
abbrev pub hex_digit : ℕ → ℕ
hex_digit value = if nat_lt value 10 then 48 + value else 87 + value

-- so many digits of a number, the lowest last
abbrev pub hex_digits : ℕ → ℕ → List ℕ
hex_digits zero value = []
hex_digits (suc count) value = hex_digits count (value / 16) ++ hex_digit (value % 16) ∷ []

-- digits without the zeros in front; the last digit stays
abbrev pub without_zeros : List ℕ → List ℕ
without_zeros [] = []
without_zeros (digit ∷ []) = digit ∷ []
without_zeros (digit ∷ next ∷ digits) = if digit == 48 then without_zeros (next ∷ digits) else digit ∷ next ∷ digits

-- a number of 64 bits
unfoldable pub hex : ℕ → List ℕ
hex value = without_zeros (hex_digits 16 value)

-- bytes, two digits each
abbrev pub hex_bytes : List ℕ → List ℕ
hex_bytes bytes = flat_map (hex_digits 2) bytes
