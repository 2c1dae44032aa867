-- Cycles of TCK by which bits are shifted through a chain. TDI is 0 where no bit is stated.
use Rattle.std.specs.Prelude.{ℕ, ◌+◌, ◌/◌, Bool, true, false, List, [], ◌∷◌}
use Rattle.chain_model.specs.Cycles.{Clock}

-- a cycle with this TMS
abbrev pub with_tms : Bool → Clock
with_tms tms = record { tms = tms; tdi = false }

-- bits that are shifted in, the first of the list first; TMS is 1 in the last cycle, which leaves the Shift state
abbrev pub shift_in : List Bool → List Clock
shift_in [] = []
shift_in (bit ∷ []) = record { tms = true; tdi = bit } ∷ []
shift_in (bit ∷ next ∷ bits) = record { tms = false; tdi = bit } ∷ shift_in (next ∷ bits)

-- how many calls of up to 64 cycles so many cycles take
abbrev pub calls_for : ℕ → ℕ
calls_for count = (count + 63) / 64
