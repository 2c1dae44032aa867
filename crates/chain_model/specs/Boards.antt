-- Boards, and the nets between their boundary cells.
use Rattle.std.specs.Prelude.{◌≡◌, ◌≤◌, ◌<◌, ◌-◌, ℕ, zero, suc, true, List, [], ◌∷◌, length}
use Rattle.part_model.specs.declared.Net.{Net}
use Rattle.part_model.specs.Parts.{DeviceType, numbered, register_count, has_latch, length_of}
use Rattle.chain_model.specs.declared.cable.Board.{Board}
use Rattle.chain_model.specs.Chains.{Placed}

-- a board's device as it is put on a chain
abbrev pub placed : Board → Placed
placed board = record { part = board.part; pins = board.pins.bits }

-- there is a pin value for each boundary cell
abbrev pub HasPins : Board → Type 0
HasPins board = length board.pins.bits ≡ board.part.boundary_length

abbrev pub EachHasPins : List Board → Type 0
EachHasPins [] = Unit {0}
EachHasPins (board ∷ boards) = HasPins board × EachHasPins boards

-- how many boundary cells the device at a place has, none where there is no device
abbrev pub cells_at : List Board → ℕ → ℕ
cells_at [] place = 0
cells_at (board ∷ boards) zero = board.part.boundary_length
cells_at (board ∷ boards) (suc place) = cells_at boards place

-- both ends of each net are boundary cells; devices count from 1
abbrev pub HasEnds : List Board → Net → Type 0
HasEnds boards net = (1 ≤ net.from_device) × (1 ≤ net.to_device) × (net.from_cell < cells_at boards (net.from_device - 1)) × (net.to_cell < cells_at boards (net.to_device - 1))

abbrev pub EachHasEnds : List Board → List Net → Type 0
EachHasEnds boards [] = Unit {0}
EachHasEnds boards (net ∷ nets) = HasEnds boards net × EachHasEnds boards nets

-- the latch of a register has a bit at a place
abbrev pub HasLatchBit : DeviceType → ℕ → ℕ → Type 0
HasLatchBit part reg at = (reg < register_count part) × (has_latch (numbered reg) ≡ true) × (at < length_of part (numbered reg))
