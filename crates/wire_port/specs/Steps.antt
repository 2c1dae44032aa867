-- What happens on a wire, which carries the connections of all clients, in order.
use Rattle.std.specs.Prelude.{ℕ, suc, ◌+◌, Bool, true, false, not, ◌&&◌, ◌==◌, List, [], ◌∷◌, length, if◌then◌else◌}
use Rattle.std.specs.List.{list_any}

-- a connection opened at a port, bytes were taken from it, its peer is gone, the server shut it
pub data Step : Type 0 where
  Opened : (conn port : ℕ) → Step
  Took : (conn : ℕ) (bytes : List ℕ) → Step
  Gone : (conn : ℕ) → Step
  Shut : (conn : ℕ) → Step

-- the step opens the connection
abbrev pub opens : ℕ → Step → Bool
opens conn (Opened other port) = conn == other
opens conn _ = false

-- the steps open no connection twice
abbrev pub opens_once : List Step → Bool
opens_once [] = true
opens_once (Opened conn port ∷ steps) = not (list_any (opens conn) steps) && opens_once steps
opens_once (step ∷ steps) = opens_once steps

-- the step tells that the peer of the connection is gone
abbrev pub is_gone_step : ℕ → Step → Bool
is_gone_step conn (Gone other) = conn == other
is_gone_step conn _ = false

-- the steps tell that the peer of the connection is gone
abbrev pub has_gone : ℕ → List Step → Bool
has_gone conn steps = list_any (is_gone_step conn) steps

-- how often the server shut the connection
abbrev pub shuts : ℕ → List Step → ℕ
shuts conn [] = 0
shuts conn (Shut other ∷ steps) = if conn == other then suc (shuts conn steps) else shuts conn steps
shuts conn (step ∷ steps) = shuts conn steps

-- how many bytes were taken from a connection
abbrev pub taken_from : ℕ → List Step → ℕ
taken_from conn [] = 0
taken_from conn (Took other bytes ∷ steps) = if conn == other then length bytes + taken_from conn steps else taken_from conn steps
taken_from conn (step ∷ steps) = taken_from conn steps
