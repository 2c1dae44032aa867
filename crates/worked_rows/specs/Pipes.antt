-- Rows of one connection to the first grant, whose peer is gone behind its bytes.
use Rattle.std.specs.Prelude.{ℕ, List, [], ◌∷◌}
use Rattle.client_session.specs.declared.End.{End}
use Rattle.wire_port.specs.Steps.Step.{Opened, Took}
use Rattle.wire_port.specs.Steps.{Step}
use Rattle.plays.specs.Plays.{Setting, Play, SessionEnd, seat_at, played}
use Rattle.plays.specs.Alone.{replies_to}
use Rattle.worked_rows.specs.Shown.{DeviceShown, devices_shown}

-- what comes of it: the replies, the ends, the devices, and the cycles of the shared chain that are due at most
pub record Piped : Type 0 where
  pub replies : List ℕ
  pub ends : List SessionEnd
  pub devices : List DeviceShown
  pub cost : ℕ

-- the same read off a play of one connection, 0
abbrev pub piped_play : Setting → Play → Piped
piped_play setting play = record { replies = replies_to (seat_at play 0) 0; ends = play.ends; devices = devices_shown setting play; cost = play.cost }

-- a connection opens at a port, brings these bytes, and is gone
abbrev pub piped : Setting → ℕ → List ℕ → Piped
piped setting port input = piped_play setting (played setting (Opened 0 port ∷ Took 0 input ∷ Step.Gone 0 ∷ []))

-- what a row expects: these replies, this end of the one session, these devices, and so many cycles
abbrev pub comes_to : List ℕ → End → List DeviceShown → ℕ → Piped
comes_to replies end devices cost = record { replies = replies; ends = record { grant = 0; conn = 0; end = end } ∷ []; devices = devices; cost = cost }
