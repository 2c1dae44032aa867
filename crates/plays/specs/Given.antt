-- The promise of a shared chain, as it reads on a wire: what the peers of each grant are given, and what the devices hold.
use Rattle.std.specs.Prelude.{ℕ, ◌≡◌, ◌≢◌, Bool, true, false}
use Rattle.chain_model.specs.Chains.{ChainState}
use Rattle.client_session.specs.Private.{is_live}
use Rattle.wire_port.specs.Steps.{has_gone}
use Rattle.wire_port.specs.Wires.{WireView}
use Rattle.wire_port.specs.Wires.Last.{NotNow, Short, Other}
use Rattle.plays.specs.Plays.{Setting, seat_at, is_waiting, is_among, played}
use Rattle.plays.specs.Alone.{conns_of, events, private, replies_to, IsPrefix, Holds}
use Rattle.plays.specs.Stands.{NoneElseGiven}

-- a peer took what there was for it: nothing can be taken from it now, where its session is open; the last give to it was whole, where the session ended
abbrev pub TookAll : (live : Bool) → WireView → ℕ → Type 0
TookAll true wire conn = wire.last conn ≡ NotNow
TookAll false wire conn = wire.last conn ≢ Short

-- the peers of a grant's sessions, on a wire with these steps
pub record GivenAsAlone (setting : Setting) (wire : WireView) (grant : ℕ) : Type 0 where
  -- each was given a front of what the grant's private chain replies to it, by the grant's own bytes and drops alone
  pub front : (conn : ℕ) → is_among conn (conns_of (seat_at (played setting wire.steps) grant)) ≡ true
      → IsPrefix (wire.given conn) (replies_to (private setting grant (events (played setting wire.steps) grant wire.steps)) conn)
  -- and all of it, where the grant does not wait, and the peer is there and took what there was
  pub whole : (conn : ℕ) → is_among conn (conns_of (seat_at (played setting wire.steps) grant)) ≡ true → is_waiting (played setting wire.steps) grant ≡ false
      → has_gone conn wire.steps ≡ false → TookAll (is_live conn (seat_at (played setting wire.steps) grant)) wire conn
      → wire.given conn ≡ replies_to (private setting grant (events (played setting wire.steps) grant wire.steps)) conn

-- clients that share a chain cannot disturb or see one another: each grant's peers are given what they are alone, nobody else is given anything,
-- and the shared devices hold what the private devices hold
pub record SharedAsAlone (setting : Setting) (chain : ChainState) (wire : WireView) : Type 0 where
  pub each : (grant : ℕ) → GivenAsAlone setting wire grant
  pub nobody : NoneElseGiven wire (played setting wire.steps)
  pub holds : Holds setting chain (played setting wire.steps)

-- ---- where nothing is left to do for the server

-- of each session that is going and does not wait: the last answer on its connection was that nothing is there to take, or that not all could be given
abbrev pub IsAtRest : Setting → WireView → Type 0
IsAtRest setting wire = (grant : ℕ) → (seat_at (played setting wire.steps) grant).going ≡ true → is_waiting (played setting wire.steps) grant ≡ false
    → wire.last (seat_at (played setting wire.steps) grant).conn ≢ Other

-- each peer was given all that its grant's private chain replies to it, unless the grant waits, or the peer is gone or takes no more
pub record AllGivenAsAlone (setting : Setting) (wire : WireView) : Type 0 where
  pub rests : IsAtRest setting wire
  pub all : (grant conn : ℕ) → is_among conn (conns_of (seat_at (played setting wire.steps) grant)) ≡ true → is_waiting (played setting wire.steps) grant ≡ false
      → has_gone conn wire.steps ≡ false → wire.last conn ≢ Short
      → wire.given conn ≡ replies_to (private setting grant (events (played setting wire.steps) grant wire.steps)) conn
