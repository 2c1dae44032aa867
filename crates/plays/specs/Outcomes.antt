-- What a call of a hub needs, and keeps: the sessions that are open are on connections that are.
use Rattle.std.specs.Prelude.{ℕ, ◌≡◌, true, false, List, [], ◌∷◌, if◌then◌else◌}
use Rattle.std.specs.List.{list_any}
use Rattle.client_session.specs.Sessions.{is_taken, is_leaving}
use Rattle.wire_port.specs.Steps.{opens, shuts, has_gone}
use Rattle.wire_port.specs.Wires.{WireView}
use Rattle.plays.specs.Plays.{is_among}
use Rattle.plays.specs.Stands.{SeatView, HubView}

-- the connection of a session opened and was not shut, and its peer is gone exactly where the session is leaving
pub record SeatIsOpen (wire : WireView) (view : SeatView) : Type 0 where
  pub opened : list_any (opens view.conn) wire.steps ≡ true
  pub not_shut : shuts view.conn wire.steps ≡ 0
  pub gone : has_gone view.conn wire.steps ≡ is_leaving view.session.stand

-- of each session that is open
abbrev pub EachSeatIsOpen : WireView → List SeatView → Type 0
EachSeatIsOpen wire [] = Unit {0}
EachSeatIsOpen wire (view ∷ views) = (is_taken view.session.stand ≡ true → SeatIsOpen wire view) × EachSeatIsOpen wire views

-- the connections of the sessions that are open
abbrev pub open_conns : List SeatView → List ℕ
open_conns [] = []
open_conns (view ∷ views) = if is_taken view.session.stand then view.conn ∷ open_conns views else open_conns views

-- no connection stands twice
abbrev pub OnceEach : List ℕ → Type 0
OnceEach [] = Unit {0}
OnceEach (conn ∷ conns) = (is_among conn conns ≡ false) × OnceEach conns

-- the open sessions of a hub are on connections of the wire that are open, each on one of its own
pub record SeatsOpen (hub : HubView) (wire : WireView) : Type 0 where
  pub each : EachSeatIsOpen wire hub.seats
  pub once : OnceEach (open_conns hub.seats)
