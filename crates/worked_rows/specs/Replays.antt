-- Rows of scripts: several connections, a line at a time.
use Rattle.std.specs.Prelude.{◌≡◌, ℕ, List, map}
use Rattle.plays.specs.Plays.{Setting, Play, played}
use Rattle.plays.specs.Schedule.{replayed}
use Rattle.wire_port.specs.Offers.{ScriptLine}
use Rattle.worked_rows.specs.Shown.{DeviceShown, ConnectionShown, devices_shown, connection_shown}

-- what comes of a play: the devices, the grants that wait, counted from 0, how often one began to, and the cycles of the shared chain that are due at most
pub record Shared : Type 0 where
  pub devices : List DeviceShown
  pub waiting : List ℕ
  pub joins : ℕ
  pub cost : ℕ

-- the same read off a play
abbrev pub shared_in : Setting → Play → Shared
shared_in setting play = record { devices = devices_shown setting play; waiting = play.waiting; joins = play.joins; cost = play.cost }

-- a row: the setting, the lines of the script, and what comes of them for the connections and for the shared chain
pub record Row : Type 0 where
  pub setting : Setting
  pub lines : List ScriptLine
  pub connections : List ConnectionShown
  pub shared : Shared

-- the script comes to what the row says, and so does the play of the steps that it tells
pub record IsSo (row : Row) : Type 0 where
  pub connections : map (connection_shown (replayed row.setting row.lines)) (replayed row.setting row.lines).peers ≡ row.connections
  pub shared : shared_in row.setting (replayed row.setting row.lines).play ≡ row.shared
  pub played_alike : shared_in row.setting (played row.setting (replayed row.setting row.lines).steps) ≡ row.shared
