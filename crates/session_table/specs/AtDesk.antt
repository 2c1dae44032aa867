-- The sessions of all grants at one desk, as the calls below the table see them.
use Rattle.std.specs.Prelude.{ℕ, ◌≡◌, ◌≢◌, ◌≤◌, ◌<◌, Bool, true, false, List, [], ◌∷◌, ◌++◌, map, length, replicate, slice_get, slice_set, vec_capacity}
use Rattle.std.specs.List.{slice_index_or}
use Rattle.std.specs.declared.option.Option.{Option}
use Rattle.std.specs.declared.option.Option.TheVariants.{Some}
use Rattle.base_types.specs.Tellings.{Told}
use Rattle.std.specs.Option.{option_map}
use Rattle.chain_model.specs.Chains.{ChainState, Placed}
use Rattle.chain_token.specs.declared.token.Token.{Token}
use Rattle.chain_token.specs.Tokens.{waiting}
use Rattle.chain_token.specs.Waiting.{IsQueue, is_among}
use Rattle.grant_table.specs.Apart.{KeepsApart}
use Rattle.grant_table.specs.Faults.{IsLayout}
use Rattle.grant_table.specs.Kept.{AllParts}
use Rattle.grant_table.specs.Layouts.{LayoutShape, group_of}
use Rattle.scan_share.specs.PrivateChains.{entries_at, private_chain}
use Rattle.scan_share.specs.Scans.{IsWhole, types_of}
use Rattle.scan_share.specs.Views.{ParkedView, OpenView}
use Rattle.client_session.specs.declared.Stand.{Stand}
use Rattle.base_types.specs.Counts.{raised}
use Rattle.client_session.specs.declared.Stop.{Stop}
use Rattle.client_session.specs.Private.{free_seat, opened}
use Rattle.client_session.specs.Seats.{Seat as SessionSeat}
use Rattle.client_session.specs.Sessions.{SessionView, Shows, is_in_line, is_leaving, is_taken}
use Rattle.plays.specs.Plays.{SessionEnd}
use Rattle.session_table.specs.declared.Ended.{Ended}
use Rattle.client_session.specs.Stores.{IsOfLayout, KeepsSession}
use Rattle.client_session.specs.Desks.{IsDesk, KeepsOthers}
use Rattle.session_table.specs.declared.seats.Seat.{Seat}
use Rattle.session_table.specs.declared.seats.Seats.{Seats}
use Rattle.session_table.specs.Tables.{no_view, StaysSo}
use Rattle.session_table.specs.Shown.{session_end}

-- the entry of a grant that is not there
abbrev pub no_entry : Seat
no_entry = record { session = record { grant = 0; parts = []; view = no_view.session }; conn = 0 }

-- a grant's entry
abbrev pub entry : Seats → ℕ → Seat
entry seats grant = slice_index_or seats.list.items grant no_entry

-- what its session shows, and how it stands
abbrev pub session_at : Seats → ℕ → SessionView
session_at seats grant = (entry seats grant).session.view

abbrev pub stands_at : Seats → ℕ → Stand
stands_at seats grant = (session_at seats grant).stand

-- the grants whose sessions ended
abbrev pub ended_grants : Seats → List ℕ
ended_grants seats = map (λ ended. ended.grant) seats.ended.items

-- an entry is its grant's, made for the layout
pub record EntryFits (layout : LayoutShape) (uses_trst : Bool) (grant : ℕ) (entry : Seat) : Type 0 where
  pub grant_is : entry.session.grant ≡ grant
  pub layout_is : IsOfLayout layout entry.session
  pub trst_is : entry.session.view.uses_trst ≡ uses_trst

-- an entry for each grant; none ended twice, and what ended is free
pub record SeatsFit (seats : Seats) : Type 0 where
  pub is : IsLayout seats.layout
  pub apart : KeepsApart seats.layout
  pub parts : AllParts seats.layout.parts
  pub count : length seats.list.items ≡ length seats.layout.grants
  pub flags : length seats.ready.items ≡ length seats.layout.grants
  pub few : length seats.list.items ≤ 16
  pub room : 16 ≤ vec_capacity seats.ended
  pub each : (grant : ℕ) → grant < length seats.list.items → EntryFits seats.layout seats.uses_trst grant (entry seats grant)
  pub once : IsQueue (ended_grants seats)
  pub free : (grant : ℕ) → is_among grant (ended_grants seats) ≡ true → is_taken (stands_at seats grant) ≡ false

-- a session at the desk: the grant holds it exactly where its scan is open, and is in line exactly where it waits
pub record EntryAtDesk {C : Type 0} (layout : LayoutShape) (grant : ℕ) (view : SessionView) (desk : Token (ParkedView C) (OpenView C)) : Type 0 where
  pub fit : view.spent ≡ false
  pub desk_is : IsDesk layout grant view.tap desk
  pub line : is_among grant (waiting desk) ≡ is_in_line view.stand

-- all of them
pub record AreAtDesk {C : Type 0} (seats : Seats) (desk : Token (ParkedView C) (OpenView C)) : Type 0 where
  pub each : (grant : ℕ) → grant < length seats.list.items → EntryAtDesk seats.layout grant (session_at seats grant) desk
  pub within : (grant : ℕ) → is_among grant (waiting desk) ≡ true → grant < length seats.list.items

-- they may be served over a cable
pub record MayServe {C : Type 0} (seats : Seats) (desk : Token (ParkedView C) (OpenView C)) (told : Option ChainState) (has_trst : Bool) : Type 0 where
  pub fits : SeatsFit seats
  pub at_desk : AreAtDesk seats desk
  pub whole : Told told (IsWhole seats.layout)
  pub trst : seats.uses_trst ≡ true → has_trst ≡ true

-- only a grant's session changed
pub record OnlySession (grant : ℕ) (old new : Seats) : Type 0 where
  pub layout : new.layout ≡ old.layout
  pub vector : new.vector ≡ old.vector
  pub trst : new.uses_trst ≡ old.uses_trst
  pub joins : new.joins ≡ old.joins
  pub ended : new.ended ≡ old.ended
  pub ready : new.ready ≡ old.ready
  pub list : new.list.items ≡ slice_set old.list.items grant (record (entry old grant) { session = (entry new grant).session })
  pub kept : KeepsSession (entry old grant).session (entry new grant).session

-- it went on at the desk, and no other grant's did
pub record WentAtDesk {C : Type 0} (grant : ℕ) (old new : Seats) (desk next : Token (ParkedView C) (OpenView C)) : Type 0 where
  pub only : OnlySession grant old new
  pub here : EntryAtDesk old.layout grant (session_at new grant) next
  pub others : KeepsOthers grant desk next

-- ---- how it stopped

-- the count of joins after a call that stopped so, by whether the grant was in line before
abbrev pub joins_by : Bool → Stop → ℕ → ℕ
joins_by false Stop.Waits joins = raised joins 1
joins_by _ _ joins = joins

-- the session that ended, where one did
abbrev pub ends_by : (grant conn : ℕ) → Stop → List Ended
ends_by grant conn (Stop.Ended end) = record { grant = grant; conn = conn; end = end } ∷ []
ends_by grant conn _ = []

-- it is noted how a call stopped
pub record NotesStop (grant : ℕ) (waited : Bool) (stop : Stop) (old new : Seats) : Type 0 where
  pub layout : new.layout ≡ old.layout
  pub vector : new.vector ≡ old.vector
  pub trst : new.uses_trst ≡ old.uses_trst
  pub list : new.list ≡ old.list
  pub ready : new.ready ≡ old.ready
  pub joins : new.joins ≡ joins_by waited stop old.joins
  pub ended : new.ended.items ≡ old.ended.items ++ ends_by grant (entry old grant).conn stop
  pub room : 16 ≤ vec_capacity new.ended

-- ---- what happens to all

-- what no event changes
pub record KeepsSeats (old new : Seats) : Type 0 where
  pub layout : new.layout ≡ old.layout
  pub vector : new.vector ≡ old.vector
  pub trst : new.uses_trst ≡ old.uses_trst
  pub conns : map (λ entry. entry.conn) new.list.items ≡ map (λ entry. entry.conn) old.list.items
  pub flags : length new.ready.items ≡ length old.ready.items

-- a session ended that was open
pub record EndedThere (old new : Seats) (ended : SessionEnd) : Type 0 where
  pub there : ended.grant < length old.list.items
  pub open_before : is_taken (stands_at old ended.grant) ≡ true
  pub free : is_taken (stands_at new ended.grant) ≡ false
  pub conn : ended.conn ≡ (entry old ended.grant).conn

abbrev pub EachEndedThere : Seats → Seats → List SessionEnd → Type 0
EachEndedThere old new [] = Unit {0}
EachEndedThere old new (ended ∷ more) = EndedThere old new ended × EachEndedThere old new more

-- sessions ended, each of which was open
pub record EndsMore (old new : Seats) : Type 0 where
  pub more : List SessionEnd
  pub ended : map session_end new.ended.items ≡ map session_end old.ended.items ++ more
  pub each : EachEndedThere old new more

-- sessions in line went on, and no other
pub record LineWent (old new : Seats) : Type 0 where
  pub line : (other : ℕ) → StaysSo (stands_at old other) (stands_at new other)
  pub others : (other : ℕ) → is_in_line (stands_at old other) ≡ false → session_at new other ≡ session_at old other
  pub ends : EndsMore old new

-- no other grant's session changed
abbrev pub OthersStay : ℕ → Seats → Seats → Type 0
OthersStay grant old new = (other : ℕ) → other ≢ grant → session_at new other ≡ session_at old other

-- a grant's session went on, and no other
pub record OneWent (grant : ℕ) (gone : Bool) (old new : Seats) : Type 0 where
  pub own : is_taken (stands_at new grant) ≡ true → is_leaving (stands_at new grant) ≡ gone
  pub others : OthersStay grant old new
  pub ends : EndsMore old new

-- a session that is going is ready where it was in line before, and else as ready as it was
pub record ReadyThere (old new : Seats) (grant : ℕ) : Type 0 where
  pub went : is_in_line (stands_at old grant) ≡ true → slice_index_or new.ready.items grant false ≡ true
  pub stayed : is_in_line (stands_at old grant) ≡ false → slice_index_or new.ready.items grant false ≡ slice_index_or old.ready.items grant false

-- each of those
abbrev pub EachReady : Seats → Seats → Type 0
EachReady old new = (grant : ℕ) → stands_at new grant ≡ Stand.Going → ReadyThere old new grant

-- ---- what a call sets

-- what the sessions were made with, and how often one began to wait, stay
pub record NothingElse (old new : Seats) : Type 0 where
  pub layout : new.layout ≡ old.layout
  pub vector : new.vector ≡ old.vector
  pub trst : new.uses_trst ≡ old.uses_trst
  pub joins : new.joins ≡ old.joins

-- the reply of a grant's session that is left to give
pub record Replies (grant : ℕ) (reply : List ℕ) (old new : Seats) : Type 0 where
  pub else_same : NothingElse old new
  pub ended : new.ended ≡ old.ended
  pub ready : new.ready ≡ old.ready
  pub list : new.list.items ≡ slice_set old.list.items grant (record (entry old grant) { session = record (entry old grant).session { view = record (session_at old grant) { reply = reply } } })

-- a session is its grant's, made for the layout, and free
pub record IsFreeEntry (layout : LayoutShape) (vector : ℕ) (uses_trst : Bool) (grant : ℕ) (entry : Seat) : Type 0 where
  pub grant_is : entry.session.grant ≡ grant
  pub parts_are : entry.session.parts ≡ entries_at layout.parts (group_of layout.grants grant)
  pub protocol_is : option_map (λ shape. shape.protocol) (slice_get layout.grants grant) ≡ Some entry.session.view.protocol
  pub free : entry.session.view.stand ≡ Stand.Free
  pub reply : entry.session.view.reply ≡ []
  pub fit : entry.session.view.spent ≡ false
  pub trst_is : entry.session.view.uses_trst ≡ uses_trst
  pub shows : (boards : List Placed) → map (λ (board : Placed). board.part) boards ≡ layout.parts
      → Shows entry.session.view false (free_seat entry.session.view.protocol uses_trst vector (private_chain boards (group_of layout.grants grant) layout.nets)) []

abbrev pub EachIsFree : LayoutShape → ℕ → Bool → List Seat → Type 0
EachIsFree layout vector uses_trst list = (grant : ℕ) → grant < length list → IsFreeEntry layout vector uses_trst grant (slice_index_or list grant no_entry)

-- all sessions are free, and none is ready or ended
pub record AreFree (layout : LayoutShape) (vector : ℕ) (uses_trst : Bool) (seats : Seats) : Type 0 where
  pub layout_is : seats.layout ≡ layout
  pub vector_is : seats.vector ≡ vector
  pub trst_is : seats.uses_trst ≡ uses_trst
  pub is : IsLayout layout
  pub apart : KeepsApart layout
  pub parts : AllParts layout.parts
  pub count : length seats.list.items ≡ length layout.grants
  pub few : length layout.grants ≤ 16
  pub each : EachIsFree layout vector uses_trst seats.list.items
  pub ready : seats.ready.items ≡ replicate (length layout.grants) false
  pub joins : seats.joins ≡ 0
  pub none : seats.ended.items ≡ []
  pub room : 16 ≤ vec_capacity seats.ended

-- a session of a connection begins at a grant, and is ready
pub record Begins (grant conn : ℕ) (old new : Seats) : Type 0 where
  pub else_same : NothingElse old new
  pub ended : new.ended ≡ old.ended
  pub ready : new.ready.items ≡ slice_set old.ready.items grant true
  pub list : new.list.items ≡ slice_set old.list.items grant (record { session = (entry new grant).session; conn = conn })
  pub kept : KeepsSession (entry old grant).session (entry new grant).session
  pub going : stands_at new grant ≡ Stand.Going
  pub reply : (session_at new grant).reply ≡ []
  pub fit : (session_at new grant).spent ≡ false
  pub closed : (session_at old grant).tap.scan_open ≡ false
  pub shut : (session_at new grant).tap.scan_open ≡ false

-- it shows the seat that the connection opened
abbrev pub ShowsOpened : (grant conn : ℕ) → Seats → Seats → Type 0
ShowsOpened grant conn old new = (seat : SessionSeat) (given : List ℕ) → types_of seat.chain ≡ (entry old grant).session.parts → Shows (session_at old grant) false seat given → Shows (session_at new grant) false (opened conn seat) []

-- whether a grant's session is ready
pub record SetsReady (grant : ℕ) (flag : Bool) (old new : Seats) : Type 0 where
  pub else_same : NothingElse old new
  pub ended : new.ended ≡ old.ended
  pub list : new.list ≡ old.list
  pub ready : new.ready.items ≡ slice_set old.ready.items grant flag

-- nothing but which sessions are ready
pub record OnlyReady (old new : Seats) : Type 0 where
  pub else_same : NothingElse old new
  pub ended : new.ended ≡ old.ended
  pub list : new.list ≡ old.list
  pub flags : length new.ready.items ≡ length old.ready.items

-- a grant's session went on, and those in line that the chain was handed on to
pub record SeatsWent (grant : ℕ) (gone : Bool) (old new : Seats) : Type 0 where
  pub own : is_taken (stands_at new grant) ≡ true → is_leaving (stands_at new grant) ≡ gone
  pub line : (other : ℕ) → other ≢ grant → StaysSo (stands_at old other) (stands_at new other)
  pub others : (other : ℕ) → other ≢ grant → is_in_line (stands_at old other) ≡ false → session_at new other ≡ session_at old other
  pub ends : EndsMore old new
  pub ready : (other : ℕ) → other ≢ grant → stands_at new other ≡ Stand.Going → ReadyThere old new other
