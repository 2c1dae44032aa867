-- Rows of words as one list of bits: the lowest bit of the first word is the first.
use Rattle.std.specs.Prelude.{ℕ, ◌+◌, Bool, List, [], ◌∷◌, ◌++◌, length, take, drop}
use Rattle.scan_bits.specs.Words.{bits_of}

-- the bits of a row of words of so many bits each
abbrev pub bits_of_row : ℕ → List ℕ → List Bool
bits_of_row width [] = []
bits_of_row width (word ∷ words) = bits_of width word ++ bits_of_row width words

-- the bits with those from a place on written over
abbrev pub written : List Bool → ℕ → List Bool → List Bool
written bits at others = take at bits ++ others ++ drop (at + length others) bits

-- so many bits from a place on
abbrev pub window : List Bool → ℕ → ℕ → List Bool
window bits from count = take count (drop from bits)
