-- A session of Xilinx Virtual Cable 1.0 between two of its messages.
use Rattle.std.specs.Prelude.{ℕ, ◌≡◌, ◌<◌, true, false, List, [], length}
use Rattle.grant_table.specs.declared.Protocol.TheVariants.{Xvc}
use Rattle.chain_model.specs.Chains.{ChainState}
use Rattle.client_session.specs.Seats.{Seat, finished, most_bytes}
use Rattle.client_session.specs.Private.{took}

-- a seat whose session is going, with no act left and no bit noted: it waits for bytes
pub record Awaits (seat : Seat) : Type 0 where
  pub going : seat.going ≡ true
  pub here : seat.gone ≡ false
  pub acts : seat.acts ≡ []
  pub sampled : seat.sampled ≡ []
  pub protocol : seat.protocol ≡ Xvc

-- a session's seat at some place: the bytes that are not used yet, how many are used, the chain, and the replies so far
abbrev pub seat_at : Seat → List ℕ → ℕ → ChainState → List ℕ → Seat
seat_at start unused used chain replies = record start { unused = unused; used = used; chain = chain; replies = replies }

-- the session that begins with this seat has used these bytes, with this chain and these replies, and no message is begun
pub record Reaches (start : Seat) (bytes : List ℕ) (chain : ChainState) (replies : List ℕ) : Type 0 where
  pub awaits : Awaits start
  pub at : finished (took start.conn bytes start) ≡ seat_at start [] (length bytes) chain replies
  pub few : length bytes < most_bytes
