-- What a wire shows to the layers above.
use Rattle.std.specs.Prelude.{ℕ, Bool, ◌==◌, List, length, if◌then◌else◌}
use Rattle.wire_port.specs.Steps.{Step}
use Rattle.wire_port.specs.Offers.{Answer}

-- how the last call on a connection was answered: nothing to take now, less than all was given, or otherwise
pub data Last : Type 0 where
  NotNow : Last
  Short : Last
  Other : Last

-- a wire: its steps so far, the bytes that the peer of each connection was given, and how the last call on each was answered
pub record WireView : Type 0 where
  pub steps : List Step
  pub given : ℕ → List ℕ
  pub last : ℕ → Last

-- the last answer after a `take`
abbrev pub last_of_take : Answer → Last
last_of_take Answer.NotNow = Last.NotNow
last_of_take _ = Last.Other

-- the last answer after a `give` of so many bytes
abbrev pub last_of_give : ℕ → Answer → Last
last_of_give whole (Answer.Bytes bytes) = if length bytes == whole then Last.Other else Last.Short
last_of_give whole Answer.NotNow = Last.Short
last_of_give whole Answer.Gone = Last.Other

-- what every wire tells and only `listen` and `poll` change: the ports that it was to listen at, whether it listens, and whether it came
-- to its end; and a mark, which no call changes
pub record DoorView : Type 0 where
  pub ports : List ℕ
  pub up : Bool
  pub over : Bool
  pub mark : List ℕ
