-- A seat by itself: what the bytes and drops of its own connections make of its private chain, where no other grant occurs.
use Rattle.std.specs.Prelude.{ℕ, ◌-◌, Bool, true, false, not, ◌&&◌, ◌==◌, List, [], ◌∷◌, ◌++◌, take, if◌then◌else◌}
use Rattle.grant_table.specs.declared.Protocol.{Protocol}
use Rattle.chain_model.specs.Chains.{ChainState, reset}
use Rattle.client_session.specs.Seats.{Seat, EndedSession, finished, taken, most_bytes}

-- what a connection brings a seat: it opens, brings bytes, is gone
pub data Event : Type 0 where
  Opened : (conn : ℕ) → Event
  Took : (conn : ℕ) (bytes : List ℕ) → Event
  Gone : (conn : ℕ) → Event

-- a seat that is free, over a chain
abbrev pub free_seat : Protocol → Bool → ℕ → ChainState → Seat
free_seat protocol uses_trst vector chain = record {
  protocol = protocol;
  uses_trst = uses_trst;
  vector = vector;
  chain = chain;
  tck = false;
  trst = false;
  going = false;
  conn = 0;
  gone = false;
  unused = [];
  used = 0;
  acts = [];
  sampled = [];
  replies = [];
  past = [];
}

-- a session begins: the chain is as after TRST, which keeps what its devices hold, and the lines are 0
abbrev pub opened : ℕ → Seat → Seat
opened conn seat = record seat {
  chain = reset seat.chain;
  tck = false;
  trst = false;
  going = true;
  conn = conn;
  gone = false;
  unused = [];
  used = 0;
  acts = [];
  sampled = [];
  replies = [];
}

-- the connection is the one whose session is going
abbrev pub is_live : ℕ → Seat → Bool
is_live conn seat = seat.going && (seat.conn == conn)

-- bytes come to the session that is going, up to the most of a session
abbrev pub received : List ℕ → Seat → Seat
received bytes seat = record seat { unused = seat.unused ++ take (most_bytes - taken seat) bytes }

-- bytes of a connection come; they are passed over where its session is not going, or its peer is gone already
abbrev pub took : ℕ → List ℕ → Seat → Seat
took conn bytes seat = if is_live conn seat && not seat.gone then received bytes seat else seat

-- the peer of a connection is gone
abbrev pub dropped : ℕ → Seat → Seat
dropped conn seat = if is_live conn seat then record seat { gone = true } else seat

-- the seat after an event, before it goes on
abbrev pub after_event : Event → Seat → Seat
after_event (Opened conn) seat = opened conn seat
after_event (Took conn bytes) seat = took conn bytes seat
after_event (Gone conn) seat = dropped conn seat

-- the seat after events in a row, where it goes on after each until nothing is left to do
abbrev pub after_events : List Event → Seat → Seat
after_events [] seat = seat
after_events (event ∷ events) seat = after_events events (finished (after_event event seat))

-- the replies to a connection
pub record Replies : Type 0 where
  pub conn : ℕ
  pub bytes : List ℕ

-- the replies of the sessions that have ended
abbrev pub past_replies : List EndedSession → List Replies
past_replies [] = []
past_replies (past ∷ rest) = record { conn = past.conn; bytes = past.replies } ∷ past_replies rest

-- the replies of every session of a seat, in order: the ended ones, and the one that is going
abbrev pub all_replies : Seat → List Replies
all_replies seat = past_replies seat.past ++ (if seat.going then record { conn = seat.conn; bytes = seat.replies } ∷ [] else [])
