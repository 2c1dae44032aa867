-- The sessions of a hub while they are served: which of their peers are gone, and which connections of the wire are open.
use Rattle.std.specs.Prelude.{ℕ, ◌≡◌, ◌⊎◌, Bool, true, false, List, [], ◌∷◌, map, drop, length, ◌&&◌, ◌==◌, ◌++◌, ◌+◌, ◌<◌, ◌≤◌, ◌≢◌, if◌then◌else◌}
use Rattle.std.specs.List.{list_any, slice_index_or}
use Rattle.std.specs.Option.{is_some}
use Rattle.std.specs.declared.option.Option.{Option}
use Rattle.std.specs.declared.option.Option.TheVariants.{None, Some}
use Rattle.grant_table.specs.Layouts.{grant_of}
use Rattle.client_session.specs.declared.Stand.{Stand}
use Rattle.client_session.specs.Sessions.{is_here, is_leaving, is_taken}
use Rattle.wire_port.specs.Steps.{Step, opens, shuts, has_gone, taken_from}
use Rattle.wire_port.specs.Wires.{WireView}
use Rattle.wire_port.specs.declared.wire.Found.{Found}
use Rattle.wire_port.specs.declared.wire.Found.TheVariants as found
use Rattle.plays.specs.Plays.{SessionEnd, is_among, next_in_line}
use Rattle.plays.specs.Stands.{SeatView, HubView}
use Rattle.plays.specs.Outcomes.{OnceEach}
use Rattle.plays.specs.Schedule.{is_drop, with_ready}
use Rattle.session_table.specs.Tables.{TableView, stand_at, reply_at, view_at}

-- the connection of a grant's last session
abbrev pub conn_at : HubView → ℕ → ℕ
conn_at hub grant = (view_at hub grant).conn

-- who goes on next: the first that waits for a chain that nobody holds
abbrev pub next_of : HubView → Option ℕ
next_of hub = next_in_line hub.holder hub.waiting

-- the peer of a grant's last session is gone
abbrev pub is_gone : List Bool → ℕ → Bool
is_gone gone grant = slice_index_or gone grant false

-- there is a session, a readiness and a flag for each grant
pub record AreWhole (hub : HubView) (gone : List Bool) : Type 0 where
  pub seats : length hub.seats ≡ length hub.layout.grants
  pub ready : length hub.ready ≡ length hub.layout.grants
  pub flags : length gone ≡ length hub.layout.grants

-- the flags say of each open session whether its peer is gone
abbrev pub AreFlagged : HubView → List Bool → Type 0
AreFlagged hub gone = (grant : ℕ) → is_taken (stand_at hub grant) ≡ true → is_leaving (stand_at hub grant) ≡ is_gone gone grant

-- nothing is left to give but to the peers of open sessions that are there
abbrev pub AreQuiet : HubView → Type 0
AreQuiet hub = (grant : ℕ) → is_here (stand_at hub grant) ≡ false → reply_at hub grant ≡ []

-- the sessions may be served
pub record AreCalm (hub : HubView) (gone : List Bool) : Type 0 where
  pub fit : hub.broken ≡ false
  pub flagged : AreFlagged hub gone
  pub quiet : AreQuiet hub

-- ---- sessions that ended, and are still to be let go

-- each is free, and had its grant's connection
pub record IsFree (hub : HubView) (ended : SessionEnd) : Type 0 where
  pub there : ended.grant < length hub.seats
  pub free : stand_at hub ended.grant ≡ Stand.Free
  pub conn : ended.conn ≡ conn_at hub ended.grant

abbrev pub AreFree : HubView → List SessionEnd → Type 0
AreFree hub [] = Unit {0}
AreFree hub (ended ∷ left) = IsFree hub ended × AreFree hub left

-- their grants
abbrev pub grants_of : List SessionEnd → List ℕ
grants_of left = map (λ ended. ended.grant) left

-- those that are to be let go: free, each of another grant
pub record AreLeft (hub : HubView) (left : List SessionEnd) : Type 0 where
  pub free : AreFree hub left
  pub once : OnceEach (grants_of left)

-- a grant's connection is in use: its session is open, or is still to be let go
abbrev pub IsInUse : HubView → List SessionEnd → ℕ → Type 0
IsInUse hub left grant = (is_taken (stand_at hub grant) ≡ true) ⊎ (is_among grant (grants_of left) ≡ true)

-- a connection opened and was not shut, and its peer is gone where this says so
pub record ConnIsOpen (wire : WireView) (conn : ℕ) (gone : Bool) : Type 0 where
  pub opened : list_any (opens conn) wire.steps ≡ true
  pub not_shut : shuts conn wire.steps ≡ 0
  pub gone_is : has_gone conn wire.steps ≡ gone

-- the connections in use are open on the wire, each is one grant's
pub record ConnsAreOpen (hub : HubView) (gone : List Bool) (left : List SessionEnd) (wire : WireView) : Type 0 where
  pub each : (grant : ℕ) → IsInUse hub left grant → ConnIsOpen wire (conn_at hub grant) (is_gone gone grant)
  pub once : (one other : ℕ) → IsInUse hub left one → IsInUse hub left other → conn_at hub one ≡ conn_at hub other → one ≡ other

-- the calls that were told touch this connection alone; where it had opened, that is told still, and so is what was taken
pub record OnlyOf (conn : ℕ) (old new : WireView) : Type 0 where
  pub kept : list_any (opens conn) old.steps ≡ true → list_any (opens conn) new.steps ≡ true
  pub opened : (other : ℕ) → other ≢ conn → list_any (opens other) new.steps ≡ list_any (opens other) old.steps
  pub shut : (other : ℕ) → other ≢ conn → shuts other new.steps ≡ shuts other old.steps
  pub gone : (other : ℕ) → other ≢ conn → has_gone other new.steps ≡ has_gone other old.steps
  pub last : (other : ℕ) → other ≢ conn → new.last other ≡ old.last other
  pub taken : (other : ℕ) → taken_from other old.steps ≤ taken_from other new.steps

-- the steps that were told are of connections that opened before; that these opened is told still, and so is what was taken
pub record OnlyOpened (old new : WireView) : Type 0 where
  pub kept : (conn : ℕ) → list_any (opens conn) old.steps ≡ true → list_any (opens conn) new.steps ≡ true
  pub opened : (conn : ℕ) → list_any (opens conn) old.steps ≡ false → list_any (opens conn) new.steps ≡ false
  pub shut : (conn : ℕ) → list_any (opens conn) old.steps ≡ false → shuts conn new.steps ≡ shuts conn old.steps
  pub gone : (conn : ℕ) → list_any (opens conn) old.steps ≡ false → has_gone conn new.steps ≡ has_gone conn old.steps
  pub taken : (conn : ℕ) → taken_from conn old.steps ≤ taken_from conn new.steps

-- ---- what calls keep

-- what the sessions were made with
pub record KeepsMade (old new : HubView) : Type 0 where
  pub layout : new.layout ≡ old.layout
  pub vector : new.vector ≡ old.vector
  pub trst : new.uses_trst ≡ old.uses_trst

-- how each session stands, and its connection, and who goes on next
pub record SameSessions (old new : HubView) : Type 0 where
  pub stands : (grant : ℕ) → stand_at new grant ≡ stand_at old grant
  pub conns : (grant : ℕ) → conn_at new grant ≡ conn_at old grant
  pub line : next_of new ≡ next_of old

-- ---- connections and grants

-- the session is open and has the connection
abbrev pub serves_conn : ℕ → SeatView → Bool
serves_conn conn view = is_taken view.session.stand && (view.conn == conn)

-- the grant, where its session is free
abbrev pub where_free : HubView → Option ℕ → Option ℕ
where_free hub None = None
where_free hub (Some grant) = if is_taken (stand_at hub grant) then None else Some grant

-- the grant that a connection to a port is admitted at
abbrev pub admitted_at : HubView → ℕ → Option ℕ
admitted_at hub port = where_free hub (grant_of hub.layout port)

-- the last step opened this connection, of which nothing was told before, and which no open session has
pub record OpensNow (conn port : ℕ) (hub : HubView) (wire : WireView) : Type 0 where
  pub before : List Step
  pub last : wire.steps ≡ before ++ Step.Opened conn port ∷ []
  pub not_gone : has_gone conn before ≡ false
  pub not_shut : shuts conn before ≡ 0
  pub elsewhere : (grant : ℕ) → is_taken (stand_at hub grant) ≡ true → conn_at hub grant ≢ conn

-- a session began at a grant for a connection, and no other changed
pub record HasBegun (grant conn : ℕ) (old new : HubView) : Type 0 where
  pub conn_is : conn_at new grant ≡ conn
  pub others : (other : ℕ) → other ≢ grant → view_at new other ≡ view_at old other

-- ---- how often a connection is shut

-- for the sessions that ended: once for each that ended otherwise than by a drop
abbrev pub shuts_for : ℕ → List SessionEnd → ℕ
shuts_for conn [] = 0
shuts_for conn (ended ∷ ends) = (if conn == ended.conn then (if is_drop ended.end then 0 else 1) else 0) + shuts_for conn ends

-- connections were shut for the sessions that ended meanwhile, once for each, and for nothing else
pub record ShutsFor (before now : List SessionEnd) (old new : WireView) : Type 0 where
  pub each : (conn : ℕ) → shuts conn new.steps + shuts_for conn before ≡ shuts conn old.steps + shuts_for conn now

-- this connection was shut once, and no other was
pub record HasShut (conn : ℕ) (old new : WireView) : Type 0 where
  pub each : (other : ℕ) → shuts other new.steps ≡ shuts other old.steps + (if other == conn then 1 else 0)

-- for what is found: once where a connection opened that is not admitted
abbrev pub shuts_away : Found → HubView → ℕ → ℕ
shuts_away (found.Opened opened port) hub conn = if conn == opened then (if is_some (admitted_at hub port) then 0 else 1) else 0
shuts_away _ hub conn = 0

-- connections were shut for what was found and for the sessions that ended, once for each, and for nothing else
pub record ShutsAfter (found : Found) (hub : HubView) (ended : List SessionEnd) (old new : WireView) : Type 0 where
  pub each : (conn : ℕ) → shuts conn new.steps ≡ shuts conn old.steps + (shuts_away found hub conn + shuts_for conn ended)

-- ---- what is thrown away

-- a session without its reply where its peer is not there
abbrev pub quieted : SeatView → SeatView
quieted view = if is_here view.session.stand then view else record view { session = record view.session { reply = [] } }

-- a table with these seats in place of its own
abbrev pub with_seats : {C : Type 0} → List SeatView → TableView C → TableView C
with_seats seats table = record table { hub = record table.hub { seats = seats } }

-- with these sessions ready
abbrev pub ready_as : {C : Type 0} → List Bool → TableView C → TableView C
ready_as ready table = record table { hub = record table.hub { ready = ready } }

-- the table, once those that ended from a place of the list on are not ready, and all whose peer is not there are quiet
abbrev pub settled : {C : Type 0} → ℕ → TableView C → TableView C
settled earlier table = with_seats (map quieted table.hub.seats) (ready_as (with_ready false (grants_of (drop earlier table.hub.ended)) table.hub.ready) table)

-- ---- a hub

-- the bytes that one take can bring
abbrev pub buffer_size : ℕ
buffer_size = 4096

-- a hub's parts fit together; unless the cable failed its sessions may be served
pub record IsHub (hub : HubView) (gone : List Bool) (buffer : List ℕ) : Type 0 where
  pub whole : AreWhole hub gone
  pub calm : hub.broken ≡ false → AreCalm hub gone
  pub room : length buffer ≡ buffer_size

-- of a connection that did not open, neither a drop nor a shut is told
pub record OnlyTellsOpened (wire : WireView) : Type 0 where
  pub gone : (conn : ℕ) → list_any (opens conn) wire.steps ≡ false → has_gone conn wire.steps ≡ false
  pub shut : (conn : ℕ) → list_any (opens conn) wire.steps ≡ false → shuts conn wire.steps ≡ 0

-- what is found is a connection that opened just now, or another
abbrev pub OpensIn : Found → HubView → WireView → Type 0
OpensIn (found.Opened conn port) hub wire = OpensNow conn port hub wire
OpensIn _ hub wire = Unit {0}
