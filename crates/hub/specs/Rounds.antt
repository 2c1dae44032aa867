-- A round serves the sessions that are ready.
use Rattle.std.specs.Prelude.{ℕ, ◌≡◌, ◌≢◌, ◌<◌, ◌⊎◌, Bool, true, false}
use Rattle.std.specs.List.{slice_index_or}
use Rattle.client_session.specs.declared.Stand.{Stand}
use Rattle.client_session.specs.Sessions.{is_here}
use Rattle.wire_port.specs.Steps.{taken_from}
use Rattle.wire_port.specs.Wires.{WireView}
use Rattle.plays.specs.Stands.{HubView}
use Rattle.session_table.specs.Tables.{stand_at}
use Rattle.hub.specs.Served.{conn_at}

-- bytes were taken from a connection
abbrev pub TookFrom : ℕ → WireView → WireView → Type 0
TookFrom conn before now = taken_from conn before.steps < taken_from conn now.steps

-- a grant's session is open and does not wait, and is ready where this says so
pub record IsGoing (hub : HubView) (grant : ℕ) (ready : Bool) : Type 0 where
  pub stand : stand_at hub grant ≡ Stand.Going
  pub flag : slice_index_or hub.ready grant false ≡ ready

-- a session has nothing more to do now: it ended or its peer is gone, or it does not wait and is not ready
abbrev pub HasDone : HubView → ℕ → Type 0
HasDone hub grant = (is_here (stand_at hub grant) ≡ false) ⊎ IsGoing hub grant false

-- a session was served: bytes were taken from its connection, or it has nothing more to do now
abbrev pub WasServed : ℕ → HubView → HubView → WireView → WireView → Type 0
WasServed grant old new before now = TookFrom (conn_at old grant) before now ⊎ HasDone new grant

-- each session that was ready and did not wait was served
abbrev pub ServesReady : HubView → HubView → WireView → WireView → Type 0
ServesReady old new before now = (grant : ℕ) → IsGoing old grant true → WasServed grant old new before now

-- ---- one session after another

-- a grant's session was served, where it did not wait
pub record ServesOne (grant : ℕ) (old new : HubView) (before now : WireView) : Type 0 where
  pub own : stand_at old grant ≡ Stand.Going → WasServed grant old new before now

-- of another session than the one that is served: it has its connection; where it does not wait it goes on, as ready as it was; and where it ended or
-- its peer is gone, it does not come back
pub record IsUntouched (old new : HubView) (grant : ℕ) : Type 0 where
  pub going : (ready : Bool) → IsGoing old grant ready → IsGoing new grant ready
  pub conn : conn_at new grant ≡ conn_at old grant
  pub away : is_here (stand_at old grant) ≡ false → is_here (stand_at new grant) ≡ false

-- a grant's session was served, where it was ready and did not wait, and no other was touched
pub record ServesNext (grant : ℕ) (old new : HubView) (before now : WireView) : Type 0 where
  pub own : IsGoing old grant true → WasServed grant old new before now
  pub others : (other : ℕ) → other ≢ grant → IsUntouched old new other
