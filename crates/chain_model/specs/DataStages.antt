-- The shift stage of the selected data register as it is kept: the bits that were captured stand in their register until they leave, and
-- those that came in since stand behind them.
use Rattle.std.specs.Prelude.{◌≡◌, ◌≤◌, ◌<◌, ◌+◌, ◌-◌, ℕ, Bool, List, ◌++◌, length, drop, slice_index_or}
use Rattle.scan_bits.specs.BitLists.{BitList}
use Rattle.chain_model.specs.declared.data_stage.Source.{Source}
use Rattle.chain_model.specs.declared.data_stage.Source.TheVariants.{Pins, Latch}
use Rattle.chain_model.specs.declared.data_stage.DataStage.{DataStage}

-- the register that was captured: the pins, or the latch of a named register
abbrev pub source_in : Source → BitList → List BitList → BitList
source_in Pins pins named = pins
source_in (Latch at) pins named = slice_index_or named at pins

abbrev pub IsThere : Source → List BitList → Type 0
IsThere Pins named = Unit {0}
IsThere (Latch at) named = at < length named

-- the last bits, so many of them
abbrev pub last : ℕ → List Bool → List Bool
last count bits = drop (length bits - count) bits

-- the bits of a stage whose captured register has these bits
abbrev pub staged : DataStage → List Bool → List Bool
staged stage source = last stage.left source ++ stage.came.bits

-- the bits of a stage over the registers of its device
abbrev pub stage_bits : DataStage → BitList → List BitList → List Bool
stage_bits stage pins named = staged stage (source_in stage.source pins named).bits

-- a stage of these bits that stands by itself
abbrev pub held_stage : List Bool → ℕ → DataStage
held_stage bits room = record { source = Pins; left = 0; came = record { bits = bits; room = room } }

-- no more bits are left than were captured, and there is room for all that come in for them
pub record Stands (stage : DataStage) (source : List Bool) : Type 0 where
  pub left : stage.left ≤ length source
  pub room : stage.left + length stage.came.bits ≤ stage.came.room

-- the register that was captured is there
pub record IsStanding (stage : DataStage) (pins : BitList) (named : List BitList) : Type 0 where
  pub there : IsThere stage.source named
  pub stands : Stands stage (source_in stage.source pins named).bits

-- another stage from the same capture
pub record SameCapture (old new : DataStage) : Type 0 where
  pub source : new.source ≡ old.source
  pub room : new.came.room ≡ old.came.room
