-- What a row shows of a play: the devices with their counts and latches, and how each connection fared.
use Rattle.std.specs.Prelude.{ℕ, zero, suc, ◌==◌, List, [], ◌∷◌, map, if◌then◌else◌}
use Rattle.std.specs.List.{slice_index_or}
use Rattle.std.specs.declared.option.Option.{Option}
use Rattle.std.specs.declared.option.Option.TheVariants.{None, Some}
use Rattle.scan_bits.specs.Words.{number_of}
use Rattle.chain_model.specs.Chains.{Content}
use Rattle.report_lines.specs.declared.connections.Standing.{Standing}
use Rattle.report_lines.specs.declared.connections.Standing.TheVariants.{Live, Waits, Away, Ended}
use Rattle.wire_port.specs.Steps.{taken_from}
use Rattle.wire_port.specs.Offers.{Peer}
use Rattle.plays.specs.Plays.{Setting, Play, SessionEnd, seat_at, is_waiting, live_grant}
use Rattle.plays.specs.Alone.{contents, replies_to}
use Rattle.plays.specs.Schedule.{Replay}

-- a device: how often a register was captured and updated, and the latches of the boundary register and of USER as numbers
pub record DeviceShown : Type 0 where
  pub captures : ℕ
  pub updates : ℕ
  pub boundary : ℕ
  pub user : ℕ

-- a device with these counts and latches
abbrev pub device : (captures updates boundary user : ℕ) → DeviceShown
device captures updates boundary user = record { captures = captures; updates = updates; boundary = boundary; user = user }

-- what is shown of what a device holds
abbrev pub device_shown : Content → DeviceShown
device_shown content = device content.captures content.updates (number_of content.boundary) (number_of (slice_index_or content.named 0 []))

-- the shared chain's devices from TDI on, as the play has them
abbrev pub devices_shown : Setting → Play → List DeviceShown
devices_shown setting play = map device_shown (contents setting play)

-- a connection: the grant that admitted it, counted from 1, or 0; how many bytes were taken from it, what its session replied,
-- how much of that its peer was given, and how it stands
pub record ConnectionShown : Type 0 where
  pub conn : ℕ
  pub grant : ℕ
  pub took : ℕ
  pub replied : List ℕ
  pub gave : List ℕ
  pub stands : Standing

-- a connection that was given all that its session replied
abbrev pub connection : (conn grant took : ℕ) → List ℕ → Standing → ConnectionShown
connection conn grant took replied stands = record { conn = conn; grant = grant; took = took; replied = replied; gave = replied; stands = stands }

-- the end of a connection's session among those that ended
abbrev pub end_of : ℕ → List SessionEnd → Option SessionEnd
end_of conn [] = None
end_of conn (ended ∷ ends) = if ended.conn == conn then Some ended else end_of conn ends

-- the grant that serves a connection, and how it stands
pub record ServedBy : Type 0 where
  pub grant : ℕ
  pub stands : Standing

-- read off the end of its session, where it ended, or else off the grant whose session has it
abbrev pub served_by : Option SessionEnd → Option ℕ → Play → ServedBy
served_by (Some ended) live play = record { grant = suc ended.grant; stands = Ended ended.end }
served_by None None play = record { grant = 0; stands = Away }
served_by None (Some grant) play = record { grant = suc grant; stands = if is_waiting play grant then Waits else Live }

-- the replies of the grant that serves a connection, where one does
abbrev pub replies_of : ℕ → ℕ → Play → List ℕ
replies_of zero conn play = []
replies_of (suc grant) conn play = replies_to (seat_at play grant) conn

-- a connection, with the grant that serves it
abbrev pub connection_by : ServedBy → Replay → Peer → ConnectionShown
connection_by by replay peer = record {
  conn = peer.conn;
  grant = by.grant;
  took = taken_from peer.conn replay.steps;
  replied = replies_of by.grant peer.conn replay.play;
  gave = peer.given;
  stands = by.stands;
}

-- a connection of a replay, by its peer
abbrev pub connection_shown : Replay → Peer → ConnectionShown
connection_shown replay peer = connection_by (served_by (end_of peer.conn replay.play.ends) (live_grant peer.conn replay.play.seats) replay.play) replay peer
