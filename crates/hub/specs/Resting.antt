-- Sessions that rest: the peer of each that neither waits nor is ready has nothing to bring now, or takes no more.
use Rattle.std.specs.Prelude.{ℕ, ◌≡◌, ◌≢◌, ◌==◌, Bool, false}
use Rattle.std.specs.List.{slice_index_or}
use Rattle.client_session.specs.declared.Stand.{Stand}
use Rattle.wire_port.specs.Wires.{WireView, Last}
use Rattle.wire_port.specs.declared.wire.Found.{Found}
use Rattle.wire_port.specs.declared.wire.Found.TheVariants as found
use Rattle.plays.specs.Stands.{HubView}
use Rattle.session_table.specs.Tables.{stand_at}
use Rattle.hub.specs.Served.{conn_at}
use Rattle.hub.specs.Rounds.{IsUntouched}

-- where a grant's session is open, does not wait and is not ready: the last answer of its connection was that nothing is there to take, or that not
-- all could be given
abbrev pub RestsAt : HubView → WireView → ℕ → Type 0
RestsAt hub wire grant = stand_at hub grant ≡ Stand.Going → slice_index_or hub.ready grant false ≡ false → wire.last (conn_at hub grant) ≢ Last.Other

-- of every grant
abbrev pub Rests : HubView → WireView → Type 0
Rests hub wire = (grant : ℕ) → RestsAt hub wire grant

-- of every other grant
abbrev pub OthersRest : ℕ → HubView → WireView → Type 0
OthersRest grant hub wire = (other : ℕ) → other ≢ grant → RestsAt hub wire other

-- of every grant whose session has another connection than this
abbrev pub RestsBut : (ℕ → Bool) → HubView → WireView → Type 0
RestsBut but hub wire = (grant : ℕ) → but (conn_at hub grant) ≡ false → RestsAt hub wire grant

-- where a grant's session is open and does not wait: the last answer of its connection was one of these two, be it ready or not
pub record HasNoMore (hub : HubView) (grant : ℕ) (wire : WireView) : Type 0 where
  pub last : stand_at hub grant ≡ Stand.Going → wire.last (conn_at hub grant) ≢ Last.Other

-- what was found is this connection
abbrev pub names : Found → ℕ → Bool
names (found.Opened conn port) other = conn == other
names (found.Ready conn) other = conn == other
names (found.Room conn) other = conn == other
names _ other = false

-- ---- what calls keep

-- each grant that rested rests, and none is touched
pub record KeepsRest (old new : HubView) (before now : WireView) : Type 0 where
  pub each : (grant : ℕ) → RestsAt old before grant → RestsAt new now grant
  pub untouched : (grant : ℕ) → IsUntouched old new grant

-- where all other grants rested, they rest; none of them is touched
pub record OthersStay (grant : ℕ) (old new : HubView) (before now : WireView) : Type 0 where
  pub others : OthersRest grant old before → OthersRest grant new now
  pub untouched : (other : ℕ) → other ≢ grant → IsUntouched old new other

-- where all other grants rested, all rest; none of the others is touched
pub record ComesToRest (grant : ℕ) (old new : HubView) (before now : WireView) : Type 0 where
  pub all : OthersRest grant old before → Rests new now
  pub untouched : (other : ℕ) → other ≢ grant → IsUntouched old new other
