-- The peers of a wire that a script plays: what they offer and take, and how a `take` or a `give` is answered.
use Rattle.std.specs.Prelude.{ℕ, ◌+◌, ◌-◌, ◌*◌, nat_lt, Bool, true, false, not, ◌&&◌, ◌==◌, List, [], ◌∷◌, ◌++◌, take, drop, length, if◌then◌else◌}
use Rattle.std.specs.List.{list_any}
use Rattle.std.specs.declared.option.Option.{Option}
use Rattle.std.specs.declared.option.Option.TheVariants.{None, Some}

-- a line of a script: a connection opens at a port; its peer offers bytes; is gone behind them; takes so many reply bytes from now on, or all
pub data ScriptLine : Type 0 where
  Open : (conn port : ℕ) → ScriptLine
  Send : (conn : ℕ) (bytes : List ℕ) → ScriptLine
  Drop : (conn : ℕ) → ScriptLine
  Room : (conn : ℕ) (room : Option ℕ) → ScriptLine

-- the line opens this connection
abbrev pub opens_line : ℕ → ScriptLine → Bool
opens_line conn (Open other port) = conn == other
opens_line conn _ = false

-- the lines open no connection twice
abbrev pub lines_open_once : List ScriptLine → Bool
lines_open_once [] = true
lines_open_once (Open conn port ∷ lines) = not (list_any (opens_line conn) lines) && lines_open_once lines
lines_open_once (line ∷ lines) = lines_open_once lines

-- a peer: the bytes that it has on offer, whether it is gone behind them, whether the server shut the connection,
-- how many reply bytes it still takes where that is bounded, and the reply bytes that it was given
pub record Peer : Type 0 where
  pub conn : ℕ
  pub offered : List ℕ
  pub is_dropped : Bool
  pub is_shut : Bool
  pub room : Option ℕ
  pub given : List ℕ

-- the peer of a connection that just opened
abbrev pub new_peer : ℕ → Peer
new_peer conn = record { conn = conn; offered = []; is_dropped = false; is_shut = false; room = None; given = [] }

-- the peer of a connection among the peers
abbrev pub peer_of : List Peer → ℕ → Peer
peer_of [] conn = new_peer conn
peer_of (peer ∷ peers) conn = if peer.conn == conn then peer else peer_of peers conn

-- the peers after a change of the one that has the connection
abbrev pub changed_peer : ℕ → (Peer → Peer) → List Peer → List Peer
changed_peer conn change [] = []
changed_peer conn change (peer ∷ peers) = if peer.conn == conn then change peer ∷ peers else peer ∷ changed_peer conn change peers

-- as much of a piece, from its front, as there is room for
abbrev pub within_room : Option ℕ → List ℕ → List ℕ
within_room None piece = piece
within_room (Some room) piece = take room piece

-- the room that is left after a piece
abbrev pub room_after : Option ℕ → List ℕ → Option ℕ
room_after None piece = None
room_after (Some room) piece = Some (room - length piece)

-- the peer after it was given as much of a piece as it takes
abbrev pub given_piece : List ℕ → Peer → Peer
given_piece piece peer = record peer { room = room_after peer.room piece; given = peer.given ++ within_room peer.room piece }

-- the peer after so many of its bytes were taken
abbrev pub taken_bytes : ℕ → Peer → Peer
taken_bytes count peer = record peer { offered = drop count peer.offered }

-- how many bytes all peers together have on offer
abbrev pub all_offered : List Peer → ℕ
all_offered [] = 0
all_offered (peer ∷ peers) = length peer.offered + all_offered peers

-- ---- how a peer answers

-- an answer to a `take` or a `give`: these bytes went, none now, or the peer is gone
pub data Answer : Type 0 where
  Bytes : (bytes : List ℕ) → Answer
  NotNow : Answer
  Gone : Answer

-- these bytes, or where there are none another answer
abbrev pub some_or_none : Answer → List ℕ → Answer
some_or_none otherwise [] = otherwise
some_or_none otherwise (byte ∷ bytes) = Answer.Bytes (byte ∷ bytes)

-- the answer to a `take` into a buffer of so many bytes: what is on offer, and then, where the peer is dropped, Gone
abbrev pub take_answer : ℕ → Peer → Answer
take_answer size peer = some_or_none (if peer.is_dropped then Answer.Gone else Answer.NotNow) (take size peer.offered)

-- the answer to a `give` of a piece: Gone where the peer is dropped, or as much of the piece as it takes
abbrev pub give_answer : List ℕ → Peer → Answer
give_answer piece peer = if peer.is_dropped then Answer.Gone else some_or_none Answer.NotNow (within_room peer.room piece)

-- the most reply bytes to a connection from which so many bytes were taken: `getinfo:` has 21 for its 8, and nothing has more for each byte
abbrev pub most_given : ℕ → ℕ
most_given taken = 3 * taken + 64

-- the answer of a wire that has room for the most reply bytes and no more: a peer that would be given more is gone
abbrev pub limited_answer : ℕ → List ℕ → Peer → Answer
limited_answer taken piece peer = if nat_lt (most_given taken) (length peer.given + length (within_room peer.room piece)) then Answer.Gone else give_answer piece peer
