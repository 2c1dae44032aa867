-- What the calls of a wire do to what it tells.
use Rattle.std.specs.Prelude.{◌≡◌, ℕ, ◌≤◌, Bool, true, false, ◌==◌, List, [], ◌∷◌, ◌++◌, take, length, if◌then◌else◌, Result, Ok}
use Rattle.std.specs.List.{list_any}
use Rattle.wire_port.specs.declared.wire.Taken.{Taken}
use Rattle.wire_port.specs.declared.wire.Taken.TheVariants as taken
use Rattle.wire_port.specs.declared.wire.Given.{Given}
use Rattle.wire_port.specs.declared.wire.Given.TheVariants as given
use Rattle.wire_port.specs.declared.wire.Found.{Found}
use Rattle.wire_port.specs.declared.wire.Found.TheVariants as found
use Rattle.wire_port.specs.declared.wire.PollFault.{PollFault}
use Rattle.wire_port.specs.Steps.{Step, opens, opens_once, has_gone, shuts}
use Rattle.wire_port.specs.Steps.Step.{Opened, Took, Gone, Shut}
use Rattle.wire_port.specs.Offers.{Answer, Peer, changed_peer, taken_bytes, given_piece}
use Rattle.wire_port.specs.Wires.{WireView, DoorView, Last, last_of_take, last_of_give}

-- ---- answers

-- the answer to a `take`, with the bytes that are now in the front of the buffer
abbrev pub take_answered : Taken → List ℕ → Answer
take_answered (taken.Bytes count) buffer = Answer.Bytes (take count buffer)
take_answered taken.NotNow buffer = Answer.NotNow
take_answered taken.Gone buffer = Answer.Gone

-- the answer to a `give`, with the bytes that went, which are the front of the piece
abbrev pub give_answered : Given → List ℕ → Answer
give_answered (given.Bytes count) piece = Answer.Bytes (take count piece)
give_answered given.NotNow piece = Answer.NotNow
give_answered given.Gone piece = Answer.Gone

-- at least one byte was taken, and at most so many
abbrev pub TakenWithin : Taken → ℕ → Type 0
TakenWithin (taken.Bytes count) most = (1 ≤ count) × (count ≤ most)
TakenWithin _ most = Unit {0}

-- at least one byte was given, and at most so many
abbrev pub GivenWithin : Given → ℕ → Type 0
GivenWithin (given.Bytes count) most = (1 ≤ count) × (count ≤ most)
GivenWithin _ most = Unit {0}

-- ---- what a wire tells after a call

-- how the last call was answered, after one on this connection
abbrev pub with_last : ℕ → Last → (ℕ → Last) → ℕ → Last
with_last conn now last other = if other == conn then now else last other

-- the bytes that peers were given, after more for this connection
abbrev pub with_given : ℕ → List ℕ → (ℕ → List ℕ) → ℕ → List ℕ
with_given conn bytes given other = if other == conn then given other ++ bytes else given other

-- the step that a `take` with this answer is, if any
abbrev pub steps_of_take : ℕ → Answer → List Step
steps_of_take conn (Answer.Bytes bytes) = Took conn bytes ∷ []
steps_of_take conn Answer.NotNow = []
steps_of_take conn Answer.Gone = Gone conn ∷ []

-- a wire after a `take` from a connection
abbrev pub after_take : ℕ → Answer → WireView → WireView
after_take conn answer wire = record wire { steps = wire.steps ++ steps_of_take conn answer; last = with_last conn (last_of_take answer) wire.last }

-- the step that a `give` with this answer is, if any
abbrev pub steps_of_give : ℕ → Answer → List Step
steps_of_give conn Answer.Gone = Gone conn ∷ []
steps_of_give conn _ = []

-- the bytes that went
abbrev pub bytes_of : Answer → List ℕ
bytes_of (Answer.Bytes bytes) = bytes
bytes_of _ = []

-- a wire after a `give` of so many bytes to a connection
abbrev pub after_give : ℕ → ℕ → Answer → WireView → WireView
after_give conn whole answer wire = record {
  steps = wire.steps ++ steps_of_give conn answer;
  given = with_given conn (bytes_of answer) wire.given;
  last = with_last conn (last_of_give whole answer) wire.last;
}

-- a wire after a `shut`
abbrev pub after_shut : ℕ → WireView → WireView
after_shut conn wire = record wire { steps = wire.steps ++ Shut conn ∷ [] }

-- a `poll` found this connection: there is something to do on it, unless the server shut it
abbrev pub after_named : ℕ → WireView → WireView
after_named conn wire = record wire { last = with_last conn (if shuts conn wire.steps == 0 then Last.Other else wire.last conn) wire.last }

-- a wire after a `poll`
abbrev pub after_poll : Result Found PollFault → WireView → WireView
after_poll (Ok (found.Opened conn port)) wire = after_named conn (record wire { steps = wire.steps ++ Opened conn port ∷ [] })
after_poll (Ok (found.Ready conn)) wire = after_named conn wire
after_poll (Ok (found.Room conn)) wire = after_named conn wire
after_poll _ wire = wire

-- a connection that opens is a new one
abbrev pub OpensFresh : Result Found PollFault → WireView → Type 0
OpensFresh (Ok (found.Opened conn port)) wire = list_any (opens conn) wire.steps ≡ false
OpensFresh _ wire = Unit {0}

-- the answer is the end
abbrev pub is_end : Result Found PollFault → Bool
is_end (Ok found.End) = true
is_end _ = false

-- ---- peers after a call, where the wire tells them

-- after a `take`: the bytes that went are on offer no more
abbrev pub peers_after_take : ℕ → Answer → List Peer → List Peer
peers_after_take conn (Answer.Bytes bytes) peers = changed_peer conn (taken_bytes (length bytes)) peers
peers_after_take conn _ peers = peers

-- after a `give` of a piece: the peer was given as much of it as it takes
abbrev pub peers_after_give : ℕ → List ℕ → Answer → List Peer → List Peer
peers_after_give conn piece (Answer.Bytes bytes) peers = changed_peer conn (given_piece piece) peers
peers_after_give conn piece _ peers = peers

-- after a `shut`
abbrev pub peers_after_shut : ℕ → List Peer → List Peer
peers_after_shut conn peers = changed_peer conn (λ peer. record peer { is_shut = true }) peers

-- ---- what the calls need, and what holds of every wire

-- the connection opened, and neither is its peer gone nor did the server shut it
pub record IsOpen (conn : ℕ) (wire : WireView) : Type 0 where
  pub opened : list_any (opens conn) wire.steps ≡ true
  pub not_gone : has_gone conn wire.steps ≡ false
  pub not_shut : shuts conn wire.steps ≡ 0

-- the connection opened, and the server did not shut it
pub record CanBeShut (conn : ℕ) (wire : WireView) : Type 0 where
  pub opened : list_any (opens conn) wire.steps ≡ true
  pub not_shut : shuts conn wire.steps ≡ 0

-- no connection opens twice, and only to a connection that opened something was given
pub record IsWire (wire : WireView) : Type 0 where
  pub once : opens_once wire.steps ≡ true
  pub opened : (conn : ℕ) → list_any (opens conn) wire.steps ≡ false → wire.given conn ≡ []

-- a wire listens only where it was to listen at some port, and comes to its end only where it listens
pub record IsDoor (door : DoorView) : Type 0 where
  pub called : door.ports ≡ [] → door.up ≡ false
  pub listening : door.up ≡ false → door.over ≡ false
