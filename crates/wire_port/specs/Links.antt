-- What a script wire keeps of a connection, and of the steps.
use Rattle.std.specs.Prelude.{ℕ, ◌<◌, ◌≤◌, ◌+◌, ◌-◌, Bool, true, false, List, [], ◌∷◌, ◌++◌, length, take, drop}
use Rattle.std.specs.declared.option.Option.{Option}
use Rattle.wire_port.specs.declared.link.LastAnswer.{LastAnswer}
use Rattle.wire_port.specs.declared.link.LastAnswer.TheVariants as answer
use Rattle.wire_port.specs.declared.log.Mark.{Mark}
use Rattle.wire_port.specs.declared.log.Mark.TheVariants as mark
use Rattle.wire_port.specs.Steps.{Step}
use Rattle.wire_port.specs.Steps.Step.{Opened, Took, Gone, Shut}
use Rattle.wire_port.specs.Offers.{Answer, Peer, new_peer, taken_bytes, given_piece}
use Rattle.wire_port.specs.Wires.{Last, last_of_take, last_of_give}

-- ---- a connection

-- its peer, how the last call on it was answered, how many bytes were taken from it, whether it was told that its peer is gone, and how
-- many bytes its peer may still offer
pub record LinkView : Type 0 where
  pub peer : Peer
  pub last : Last
  pub taken : ℕ
  pub is_gone : Bool
  pub offers_left : ℕ

abbrev pub last_seen : LastAnswer → Last
last_seen answer.NotNow = Last.NotNow
last_seen answer.Short = Last.Short
last_seen answer.Other = Last.Other

-- a connection before anything came on it
abbrev pub new_link : ℕ → ℕ → LinkView
new_link conn offers = record { peer = new_peer conn; last = Last.Other; taken = 0; is_gone = false; offers_left = offers }

-- after a `take`
abbrev pub link_after_take : Answer → LinkView → LinkView
link_after_take (Answer.Bytes bytes) link = record link { peer = taken_bytes (length bytes) link.peer; last = last_of_take (Answer.Bytes bytes); taken = link.taken + length bytes }
link_after_take Answer.NotNow link = record link { last = last_of_take Answer.NotNow }
link_after_take Answer.Gone link = record link { last = last_of_take Answer.Gone; is_gone = true }

-- after a `give` of a piece
abbrev pub link_after_give : List ℕ → Answer → LinkView → LinkView
link_after_give piece (Answer.Bytes bytes) link = record link { peer = given_piece piece link.peer; last = last_of_give (length piece) (Answer.Bytes bytes) }
link_after_give piece Answer.NotNow link = record link { last = last_of_give (length piece) Answer.NotNow }
link_after_give piece Answer.Gone link = record link { last = last_of_give (length piece) Answer.Gone; is_gone = true }

-- after the server shut it
abbrev pub link_shut : LinkView → LinkView
link_shut link = record link { peer = record link.peer { is_shut = true } }

-- after its peer offered more, was dropped, or takes so much
abbrev pub link_offered : List ℕ → LinkView → LinkView
link_offered bytes link = record link { peer = record link.peer { offered = link.peer.offered ++ bytes }; last = Last.Other; offers_left = link.offers_left - length bytes }

abbrev pub link_dropped : LinkView → LinkView
link_dropped link = record link { peer = record link.peer { is_dropped = true }; last = Last.Other }

abbrev pub link_room : Option ℕ → LinkView → LinkView
link_room room link = record link { peer = record link.peer { room = room }; last = Last.Other }

-- ---- the steps

-- the steps, and how many more steps and taken bytes there is memory for
pub record LogView : Type 0 where
  pub steps : List Step
  pub left : ℕ
  pub bytes_left : ℕ

-- the steps of these marks, where the bytes that were taken stand one behind the other
abbrev pub steps_of : List Mark → List ℕ → List Step
steps_of [] bytes = []
steps_of (mark.Opened conn port ∷ marks) bytes = Opened conn port ∷ steps_of marks bytes
steps_of (mark.Took conn count ∷ marks) bytes = Took conn (take count bytes) ∷ steps_of marks (drop count bytes)
steps_of (mark.Gone conn ∷ marks) bytes = Gone conn ∷ steps_of marks bytes
steps_of (mark.Shut conn ∷ marks) bytes = Shut conn ∷ steps_of marks bytes

-- how many bytes the marks are about
abbrev pub bytes_of : List Mark → ℕ
bytes_of [] = 0
bytes_of (mark.Took conn count ∷ marks) = count + bytes_of marks
bytes_of (_ ∷ marks) = bytes_of marks

-- the log after one more step, without bytes, and after bytes were taken
abbrev pub logged : Step → LogView → LogView
logged step log = record log { steps = log.steps ++ step ∷ []; left = log.left - 1 }

abbrev pub logged_bytes : ℕ → List ℕ → LogView → LogView
logged_bytes conn bytes log = record { steps = log.steps ++ Took conn bytes ∷ []; left = log.left - 1; bytes_left = log.bytes_left - length bytes }

-- after a `take` with this answer, and after a `give`
abbrev pub log_after_take : ℕ → Answer → LogView → LogView
log_after_take conn (Answer.Bytes bytes) log = logged_bytes conn bytes log
log_after_take conn Answer.NotNow log = log
log_after_take conn Answer.Gone log = logged (Gone conn) log

abbrev pub log_after_give : ℕ → Answer → LogView → LogView
log_after_give conn Answer.Gone log = logged (Gone conn) log
log_after_give conn _ log = log

-- there is memory for it
abbrev pub RoomForTake : Answer → LogView → Type 0
RoomForTake (Answer.Bytes bytes) log = (0 < log.left) × (length bytes ≤ log.bytes_left)
RoomForTake Answer.NotNow log = Unit {0}
RoomForTake Answer.Gone log = 0 < log.left

abbrev pub RoomForGive : Answer → LogView → Type 0
RoomForGive Answer.Gone log = 0 < log.left
RoomForGive _ log = Unit {0}
