-- A hub, the shared chain and a wire stand for a play: what the three show is what the play has.
use Rattle.std.specs.Prelude.{ℕ, suc, ◌≡◌, ◌≢◌, Bool, true, false, List, [], ◌∷◌, ◌++◌, map}
use Rattle.std.specs.declared.option.Option.{Option}
use Rattle.std.specs.declared.option.Option.TheVariants.{None, Some}
use Rattle.base_types.specs.Counts.{raised}
use Rattle.chain_model.specs.Chains.{ChainState}
use Rattle.scan_share.specs.Scans.{code_list, IsParked, IsOpenFor, IsOver, IsWhole, IsWithin}
use Rattle.grant_table.specs.Layouts.{LayoutShape, group_of}
use Rattle.client_session.specs.Seats.{Seat, EndedSession}
use Rattle.client_session.specs.Sessions.{SessionView, Shows}
use Rattle.wire_port.specs.Steps.{has_gone}
use Rattle.wire_port.specs.Wires.{WireView}
use Rattle.wire_port.specs.Wires.Last.{NotNow, Short}
use Rattle.plays.specs.Plays.{Setting, Play, SessionEnd, seat_at, is_waiting, is_among}
use Rattle.plays.specs.Alone.{Holds, IsPrefix, conns_of}

-- a session of a hub, and the connection that it serves
pub record SeatView : Type 0 where
  pub session : SessionView
  pub conn : ℕ

-- what a hub shows: what it was made with; a session for each grant; who holds the chain, who waits, and how often one began to;
-- which sessions are ready, what ended in the last call, and whether the cable failed
pub record HubView : Type 0 where
  pub layout : LayoutShape
  pub vector : ℕ
  pub uses_trst : Bool
  pub seats : List SeatView
  pub holder : Option ℕ
  pub waiting : List ℕ
  pub joins : ℕ
  pub ready : List Bool
  pub ended : List SessionEnd
  pub broken : Bool

-- what the peer was given and what is left to give are all replies; or, where the peer is gone, it was given a front of them and no more is left
abbrev pub GivenSo : Bool → List ℕ → List ℕ → List ℕ → Type 0
GivenSo false given reply replies = given ++ reply ≡ replies
GivenSo true given reply replies = IsPrefix given replies × (reply ≡ [])

-- of a session that ended: its peer was given a front of its replies, and all of them unless it is gone or took less
abbrev pub EndedSo : WireView → EndedSession → Type 0
EndedSo wire past = IsPrefix (wire.given past.conn) past.replies
    × (has_gone past.conn wire.steps ≡ false → wire.last past.conn ≢ Short → wire.given past.conn ≡ past.replies)

-- of every session that ended
abbrev pub EachEndedSo : WireView → List EndedSession → Type 0
EachEndedSo wire [] = Unit {0}
EachEndedSo wire (past ∷ rest) = EndedSo wire past × EachEndedSo wire rest

-- of a session that is going: its connection, what its peer was given, and that nothing is kept back from a peer that would take it
pub record LiveSo (wire : WireView) (view : SeatView) (waits : Bool) (seat : Seat) : Type 0 where
  pub conn : view.conn ≡ seat.conn
  pub given : GivenSo (has_gone seat.conn wire.steps) (wire.given seat.conn) view.session.reply seat.replies
  pub idle : wire.last seat.conn ≡ NotNow → view.session.reply ≡ []
  pub unasked : waits ≡ true → wire.last seat.conn ≢ NotNow

-- of a seat's session, where one is going; in a free seat no reply is left to give
abbrev pub SessionSo : Bool → WireView → SeatView → Bool → Seat → Type 0
SessionSo true wire view waits seat = LiveSo wire view waits seat
SessionSo false wire view waits seat = view.session.reply ≡ []

-- a session of the hub stands for a seat of the play
pub record SeatStands (wire : WireView) (view : SeatView) (waits : Bool) (seat : Seat) : Type 0 where
  pub front : List ℕ
  pub shows : Shows view.session waits seat front
  pub session : SessionSo seat.going wire view waits seat
  pub ended : EachEndedSo wire seat.past

-- each session for the seat of its grant
abbrev pub SeatsStand : WireView → Play → ℕ → List SeatView → List Seat → Type 0
SeatsStand wire play grant [] [] = Unit {0}
SeatsStand wire play grant (view ∷ views) (seat ∷ seats) = SeatStands wire view (is_waiting play grant) seat × SeatsStand wire play (suc grant) views seats
SeatsStand wire play grant _ _ = ⊥

-- a connection that was never admitted was given nothing
abbrev pub NoneElseGiven : WireView → Play → Type 0
NoneElseGiven wire play = (conn : ℕ) → ((grant : ℕ) → is_among conn (conns_of (seat_at play grant)) ≡ false) → wire.given conn ≡ []

-- each seat's chain is made of the devices and nets of its grant
abbrev pub SeatsAreOver : LayoutShape → Play → Type 0
SeatsAreOver layout play = (grant : ℕ) → IsOver layout (group_of layout.grants grant) (seat_at play grant).chain

-- what a hub over a chain plays under: what it was made with, and the chain's pins
abbrev pub setting_of : HubView → ChainState → Setting
setting_of hub chain = record { layout = hub.layout; pins = map (λ device. device.content.pins) chain.devices; vector = hub.vector; uses_trst = hub.uses_trst }

-- where nobody holds the chain it is between two scans; else its scan is open for the holder, under the codes of the holder's seat
abbrev pub ChainStands : Setting → Play → Option ℕ → ChainState → Type 0
ChainStands setting play None chain = IsParked chain
ChainStands setting play (Some holder) chain = IsOpenFor setting.layout (group_of setting.layout.grants holder) (code_list (seat_at play holder).chain) chain

-- the hub, the chain and the wire stand for the play
pub record Stands (setting : Setting) (hub : HubView) (chain : ChainState) (wire : WireView) (play : Play) : Type 0 where
  pub layout : hub.layout ≡ setting.layout
  pub vector : hub.vector ≡ setting.vector
  pub trst : hub.uses_trst ≡ setting.uses_trst
  pub fit : hub.broken ≡ false
  pub holder : hub.holder ≡ play.holder
  pub waiting : hub.waiting ≡ play.waiting
  pub joins : hub.joins ≡ play.joins
  pub seats : SeatsStand wire play 0 hub.seats play.seats
  pub holds : Holds setting chain play
  pub whole : IsWhole setting.layout chain
  pub over : SeatsAreOver setting.layout play
  pub elsewhere : NoneElseGiven wire play
  pub made : IsWithin chain.made (raised play.cost 0)
  pub scan : ChainStands setting play play.holder chain
