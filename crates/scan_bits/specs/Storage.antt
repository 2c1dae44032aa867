-- Where the bits of a register stand in its words.
use Rattle.std.specs.Prelude.{ℕ, ◌+◌, ◌*◌, ◌^◌, ◌≤◌, ◌<◌}

-- The bits lie within the words, and moved to the front they leave two words more than the room asks for.
pub record FitsWords (words start count room : ℕ) : Type 0 where
  pub within : start + count ≤ 64 * words
  pub counted : count ≤ room
  pub roomy : room + 128 ≤ 64 * words
  pub small : 64 * words < 2 ^ 63
