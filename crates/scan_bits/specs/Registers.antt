-- Shift registers as lists of bits: the first bit is the one nearest TDO.
use Rattle.std.specs.Prelude.{ℕ, Bool, false, List, [], ◌∷◌, ◌++◌}
use Rattle.std.specs.List.{slice_index_or}

-- the bit at a place, 0 past the end
abbrev pub bit_at : List Bool → ℕ → Bool
bit_at bits at = slice_index_or bits at false

-- the bit at the output: the lowest bit, or else the one given
abbrev pub lowest_or : Bool → List Bool → Bool
lowest_or default [] = default
lowest_or default (bit ∷ bits) = bit

-- one shift: the lowest bit leaves, the one given comes in at the other end
abbrev pub shifted : List Bool → Bool → List Bool
shifted [] tdi = []
shifted (bit ∷ bits) tdi = bits ++ tdi ∷ []

-- the bits that leave in a row of shifts
abbrev pub shifted_out : List Bool → List Bool → List Bool
shifted_out register [] = []
shifted_out register (tdi ∷ more) = lowest_or tdi register ∷ shifted_out (shifted register tdi) more

-- the register after a row of shifts
abbrev pub shifted_all : List Bool → List Bool → List Bool
shifted_all register [] = register
shifted_all register (tdi ∷ more) = shifted_all (shifted register tdi) more

-- the stages of a chain as one register: the last device is nearest TDO
abbrev pub joined : List (List Bool) → List Bool
joined [] = []
joined (stage ∷ stages) = joined stages ++ stage

-- one shift of the stages of a chain, from TDI on: each takes the lowest bit of the one before it
abbrev pub shifted_stages : Bool → List (List Bool) → List (List Bool)
shifted_stages tdi [] = []
shifted_stages tdi (stage ∷ stages) = shifted stage tdi ∷ shifted_stages (lowest_or tdi stage) stages
