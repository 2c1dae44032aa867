use Rattle.std.proofs.Common.{◌≡◌, ◌≤◌, ◌-◌, ℕ, Bool, List, length, drop}
use Rattle.setup_read.specs.Boards.{pin_values}
use Rattle.setup_read.proofs.boards.pin_values.Given as goal

pub record Going (pins : List Bool) (room : ℕ) (text : List ℕ) (at : ℕ) : Type 0 where
  pub bits : pins ≡ pin_values (drop at text)
  pub count : length pins ≡ length text - at
  pub room_is : room ≡ length text
  pub bound : at ≤ length text

abbrev pub invariant-loop-at : goal.invariant-loop-at
invariant-loop-at l = Going l.pins.bits l.pins.room l.text l.at

abbrev pub decreases-loop-at : goal.decreases-loop-at
decreases-loop-at l = l.at
