-- What contracts see of a list of bits with a room.
use Rattle.std.specs.Prelude.{ℕ, Bool, List}

-- the bits, the first nearest TDO, and how many there is room for
pub record BitList : Type 0 where
  pub bits : List Bool
  pub room : ℕ
