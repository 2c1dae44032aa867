-- The sessions of a hub, the shared chain and a wire stand for the play of the steps that the wire tells, also while sessions that ended
-- are still to be let go.
use Rattle.std.specs.Prelude.{ℕ, ◌-◌, ◌≡◌, ◌≢◌, ◌⊎◌, Bool, true, false, List, [], ◌∷◌, ◌++◌, take, length, if◌then◌else◌}
use Rattle.std.specs.declared.option.Option.{Option}
use Rattle.std.specs.declared.option.Option.TheVariants.{None, Some}
use Rattle.std.specs.Prelude.{Ok}
use Rattle.base_types.specs.Tellings.{Told}
use Rattle.chain_model.specs.Chains.{ChainState}
use Rattle.client_session.specs.Seats.{Seat, EndedSession}
use Rattle.client_session.specs.Sessions.{IsPrefix, is_in_line, is_taken}
use Rattle.wire_port.specs.Steps.{Step, opens_once, shuts, has_gone}
use Rattle.wire_port.specs.Offers.{Answer}
use Rattle.wire_port.specs.Wires.{WireView, Last}
use Rattle.wire_port.specs.Calls.{after_take, after_poll, after_shut, with_last}
use Rattle.wire_port.specs.declared.wire.Found.{Found}
use Rattle.wire_port.specs.declared.wire.Found.TheVariants as found
use Rattle.plays.specs.Plays.{Setting, Play, SessionEnd, is_among, played, seat_at}
use Rattle.plays.specs.Schedule.{is_drop}
use Rattle.plays.specs.Outcomes.{SeatsOpen}
use Rattle.plays.specs.Stands.{SeatView, HubView, EndedSo, NoneElseGiven}
use Rattle.session_table.specs.Tables.{TableStands, stand_at, view_at}
use Rattle.hub.specs.Served.{AreQuiet, IsInUse, conn_at, grants_of}

-- the peer of a connection was given what the table takes for given; or, where it is gone, a front of that
pub record PeerGiven (wire : WireView) (conn : ℕ) (given : List ℕ) : Type 0 where
  pub here : has_gone conn wire.steps ≡ false → wire.given conn ≡ given
  pub gone : has_gone conn wire.steps ≡ true → IsPrefix (wire.given conn) given

-- of an open session: nothing is kept back from a peer that would take it, and where it waits nothing was asked of the peer
pub record IsAttended (wire : WireView) (view : SeatView) : Type 0 where
  pub idle : wire.last view.conn ≡ Last.NotNow → view.session.reply ≡ []
  pub unasked : wire.last view.conn ≡ Last.NotNow → is_in_line view.session.stand ≡ false

-- of a session that ended: its peer was given its replies as far as it took them, and its connection was shut, or its peer is gone
pub record IsPast (wire : WireView) (past : EndedSession) : Type 0 where
  pub given : EndedSo wire past
  pub closed : (shuts past.conn wire.steps ≢ 0) ⊎ (has_gone past.conn wire.steps ≡ true)

-- of each of these
abbrev pub EachIsPast : WireView → List EndedSession → Type 0
EachIsPast wire [] = Unit {0}
EachIsPast wire (past ∷ rest) = IsPast wire past × EachIsPast wire rest

-- the sessions of a seat that ended, but for the last of a grant that is still to be let go
abbrev pub past_but : List SessionEnd → ℕ → Seat → List EndedSession
past_but left grant seat = if is_among grant (grants_of left) then take (length seat.past - 1) seat.past else seat.past

-- the last session of a seat that ended is this one
pub record EndedLast (seat : Seat) (ended : SessionEnd) : Type 0 where
  pub front : List EndedSession
  pub replies : List ℕ
  pub is : seat.past ≡ front ++ record { conn = ended.conn; replies = replies; end = ended.end } ∷ []

-- a session that is still to be let go: it is the last of its seat, and where it ended by a drop its peer is gone
pub record IsStillLeft (wire : WireView) (play : Play) (ended : SessionEnd) : Type 0 where
  pub last : EndedLast (seat_at play ended.grant) ended
  pub drop : is_drop ended.end ≡ true → has_gone ended.conn wire.steps ≡ true

-- each of these is
abbrev pub EachIsLeft : WireView → Play → List SessionEnd → Type 0
EachIsLeft wire play [] = Unit {0}
EachIsLeft wire play (ended ∷ left) = IsStillLeft wire play ended × EachIsLeft wire play left

-- the sessions, the shared chain and the wire stand for the play of the wire's steps, with these sessions still to be let go
pub record StandsBut (setting : Setting) (left : List SessionEnd) (hub : HubView) (chain : ChainState) (wire : WireView) : Type 0 where
  pub once : opens_once wire.steps ≡ true
  pub given : ℕ → List ℕ
  pub table : TableStands setting hub given chain (played setting wire.steps)
  pub peers : (grant : ℕ) → IsInUse hub left grant → PeerGiven wire (conn_at hub grant) (given grant)
  pub attended : (grant : ℕ) → is_taken (stand_at hub grant) ≡ true → IsAttended wire (view_at hub grant)
  pub left_is : EachIsLeft wire (played setting wire.steps) left
  pub past : (grant : ℕ) → EachIsPast wire (past_but left grant (seat_at (played setting wire.steps) grant))
  pub elsewhere : NoneElseGiven wire (played setting wire.steps)

-- where the cable tells its chain, and the wire its steps
abbrev pub StandsOnBut : Setting → List SessionEnd → HubView → Option ChainState → Option WireView → Type 0
StandsOnBut setting left hub None wire = ⊥
StandsOnBut setting left hub (Some chain) None = ⊥
StandsOnBut setting left hub (Some chain) (Some wire) = StandsBut setting left hub chain wire

-- ---- a session that ended is let go

-- one give at most of a reply to a connection: what the peer was given of it, all unless it takes less or is gone; to a peer that is gone
-- nothing is given
pub record LastGave (conn : ℕ) (reply : List ℕ) (old new : WireView) : Type 0 where
  pub steps : (new.steps ≡ old.steps) ⊎ (new.steps ≡ old.steps ++ Step.Gone conn ∷ [])
  pub given_other : (other : ℕ) → other ≢ conn → new.given other ≡ old.given other
  pub last_other : (other : ℕ) → other ≢ conn → new.last other ≡ old.last other
  pub more : List ℕ
  pub given : new.given conn ≡ old.given conn ++ more
  pub front : IsPrefix more reply
  pub whole : has_gone conn new.steps ≡ false → new.last conn ≢ Last.Short → more ≡ reply
  pub gone : has_gone conn old.steps ≡ true → new ≡ old

-- the same, and then the connection was shut
pub record LastGaveShut (conn : ℕ) (reply : List ℕ) (old new : WireView) : Type 0 where
  pub between : WireView
  pub gave : LastGave conn reply old between
  pub shut : new ≡ after_shut conn between

-- ---- what calls keep, in every play

-- where the sessions stood for the play of the steps before, they stand for that of the steps after
abbrev pub KeepsPlay : (old new : HubView) (old_chain new_chain : Option ChainState) (old_wire new_wire : Option WireView) → Type 0
KeepsPlay old new old_chain new_chain old_wire new_wire = (setting : Setting) → StandsOnBut setting [] old old_chain old_wire → StandsOnBut setting [] new new_chain new_wire

-- the same, where the sessions stood so before an event of the wire that has just been
abbrev pub FollowsEvent : (event : Option WireView → Option WireView → Type 0) (old new : HubView) (old_chain new_chain : Option ChainState) (old_wire new_wire : Option WireView) → Type 0
FollowsEvent event old new old_chain new_chain old_wire new_wire = (before : Option WireView) → event before old_wire → KeepsPlay old new old_chain new_chain before new_wire

-- these bytes were taken from a connection
abbrev pub TookNow : ℕ → List ℕ → Option WireView → Option WireView → Type 0
TookNow conn bytes (Some before) (Some now) = now ≡ after_take conn (Answer.Bytes bytes) before
TookNow conn bytes _ _ = ⊥

-- the peer of a connection was found to be gone
pub record IsGoneNow (conn : ℕ) (before now : WireView) : Type 0 where
  pub steps : now.steps ≡ before.steps ++ Step.Gone conn ∷ []
  pub given : (other : ℕ) → now.given other ≡ before.given other
  pub last : (other : ℕ) → now.last other ≡ with_last conn Last.Other before.last other

abbrev pub GoneNow : ℕ → Option WireView → Option WireView → Type 0
GoneNow conn (Some before) (Some now) = IsGoneNow conn before now
GoneNow conn _ _ = ⊥

-- a poll found this
abbrev pub FoundNow : Found → Option WireView → Option WireView → Type 0
FoundNow found (Some before) (Some now) = now ≡ after_poll (Ok found) before
FoundNow found _ _ = ⊥

-- ---- the sessions that ended

-- in the play of the steps, these ended, and then those that the hub's list has
abbrev pub EndsSince : Setting → List SessionEnd → HubView → Option WireView → Type 0
EndsSince setting earlier hub None = ⊥
EndsSince setting earlier hub (Some wire) = (played setting wire.steps).ends ≡ earlier ++ hub.ended

-- where the list was so before, it is so after
abbrev pub KeepsEnds : (old new : HubView) (old_chain : Option ChainState) (old_wire new_wire : Option WireView) → Type 0
KeepsEnds old new old_chain old_wire new_wire = (setting : Setting) (earlier : List SessionEnd) → StandsOnBut setting [] old old_chain old_wire → EndsSince setting earlier old old_wire → EndsSince setting earlier new new_wire

-- the play of the steps after has these ends beyond those of the play of the steps before
abbrev pub EndsFollow : Setting → Option WireView → Option WireView → List SessionEnd → Type 0
EndsFollow setting (Some before) (Some now) ended = (played setting now.steps).ends ≡ (played setting before.steps).ends ++ ended
EndsFollow setting _ _ ended = ⊥

-- this is no connection that opened
abbrev pub opens_none : Found → Bool
opens_none (found.Opened conn port) = false
opens_none _ = true

-- ---- a hub between two calls

-- the hub, the shared chain and the wire stand for the play of the wire's steps, and nothing is left to give but to peers that are there;
-- there is a session for each grant, and each that is open has an open connection of its own, whose peer is gone exactly where it is leaving
pub record HubStands (setting : Setting) (hub : HubView) (chain : Option ChainState) (wire : Option WireView) : Type 0 where
  pub stands : StandsOnBut setting [] hub chain wire
  pub quiet : AreQuiet hub
  pub seats : length hub.seats ≡ length hub.layout.grants
  pub conns : Told wire (SeatsOpen hub)
