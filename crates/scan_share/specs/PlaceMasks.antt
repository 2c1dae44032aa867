-- Places of devices as the bits of a word.
use Rattle.std.specs.Prelude.{ℕ, suc, Bool, true, false, List, [], ◌∷◌}
use Rattle.scan_bits.specs.Words.{bits_of}

-- the places of the bits that are 1, of which the first has this place
abbrev pub places_of_ones : ℕ → List Bool → List ℕ
places_of_ones place [] = []
places_of_ones place (true ∷ bits) = place ∷ places_of_ones (suc place) bits
places_of_ones place (false ∷ bits) = places_of_ones (suc place) bits

-- the places of the lowest 32 bits of a mask that are 1
unfoldable pub places_in : ℕ → List ℕ
places_in mask = places_of_ones 0 (bits_of 32 mask)
