-- The sessions of all grants at one desk of the shared chain, and the play that they stand for.
use Rattle.std.specs.Prelude.{ℕ, ◌*◌, ◌≡◌, ◌≢◌, ◌≤◌, ◌<◌, ◌⊎◌, ◌==◌, Bool, true, false, List, [], ◌∷◌, ◌++◌, map, drop, length, slice_set, if◌then◌else◌}
use Rattle.std.specs.List.{slice_index_or}
use Rattle.std.specs.declared.option.Option.{Option}
use Rattle.std.specs.declared.option.Option.TheVariants.{None, Some}
use Rattle.base_types.specs.Counts.{raised}
use Rattle.tap_states.specs.declared.Tap.TheVariants.{TestLogicReset}
use Rattle.chain_model.specs.Chains.{ChainState}
use Rattle.grant_table.specs.declared.Protocol.TheVariants.{Xvc}
use Rattle.grant_table.specs.Layouts.{group_of}
use Rattle.scan_share.specs.PrivateChains.{entries_at, nets_within}
use Rattle.scan_share.specs.Scans.{IsWhole, IsWithin}
use Rattle.client_session.specs.declared.Stand.{Stand}
use Rattle.client_session.specs.Seats.{Seat, IsFinished, finished, most_bytes, opens_next, replies_now, taken}
use Rattle.client_session.specs.Private.{opened}
use Rattle.client_session.specs.Paces.{IsSeatOver}
use Rattle.client_session.specs.Sessions.{IsPrefix, Shows, is_in_line, is_leaving, is_taken}
use Rattle.plays.specs.Plays.{Setting, Play, SeatChange, SessionEnd, seat_at, with_seat, is_waiting, is_holder, next_in_line, after_change}
use Rattle.plays.specs.Alone.{Holds}
use Rattle.plays.specs.Outcomes.{OnceEach}
use Rattle.plays.specs.Schedule.{went_on, with_ready}
use Rattle.plays.specs.Stands.{SeatView, HubView, ChainStands}

-- what a table of sessions shows, and the cable of its desk
pub record TableView (C : Type 0) : Type 0 where
  pub hub : HubView
  pub cable : C

-- what the session of a grant shows that is not there
abbrev pub no_view : SeatView
no_view = record {
  session = record {
    protocol = Xvc;
    uses_trst = false;
    vector = 0;
    stand = Stand.Free;
    tap = record { state = TestLogicReset; tdo = true; codes = []; ir_stages = []; scan_open = false; register = None };
    tck = false;
    trst = false;
    unused = [];
    used = 0;
    acts = [];
    sampled = [];
    reply = [];
    spent = false;
  };
  conn = 0;
}

-- what a grant's session shows, with its connection
abbrev pub view_at : HubView → ℕ → SeatView
view_at hub grant = slice_index_or hub.seats grant no_view

-- how a grant's session stands
abbrev pub stand_at : HubView → ℕ → Stand
stand_at hub grant = (view_at hub grant).session.stand

-- the reply of a grant's session that is left to give
abbrev pub reply_at : HubView → ℕ → List ℕ
reply_at hub grant = (view_at hub grant).session.reply

-- the table with another reply left to give of a grant's session
abbrev pub with_reply : ℕ → List ℕ → HubView → HubView
with_reply grant reply hub = record hub { seats = slice_set hub.seats grant (record (view_at hub grant) { session = record (view_at hub grant).session { reply = reply } }) }

-- of what was given to the peers, or was thrown away: these bytes to a grant's
abbrev pub with_given : ℕ → List ℕ → (ℕ → List ℕ) → ℕ → List ℕ
with_given grant bytes given other = if other == grant then bytes else given other

-- ---- a play between two steps

-- no more acts are left than the bytes that were used can have made, and no more bytes were taken than one session may take
pub record IsFew (seat : Seat) : Type 0 where
  pub acts : length seat.acts ≤ 32 * seat.used
  pub bytes : taken seat ≤ most_bytes

-- what holds of a play at any time: each seat is over its group's chain, with its protocol's edges left; and a grant holds the chain exactly where
-- its seat has a scan open
pub record IsUnderWay (setting : Setting) (play : Play) : Type 0 where
  pub seats : length play.seats ≡ length setting.layout.grants
  pub over : (grant : ℕ) → IsSeatOver (seat_at play grant).protocol (entries_at setting.layout.parts (group_of setting.layout.grants grant)) (nets_within (group_of setting.layout.grants grant) setting.layout.nets) (seat_at play grant)
  pub few : (grant : ℕ) → IsFew (seat_at play grant)
  pub scans : (grant : ℕ) → is_holder play.holder grant ≡ (seat_at play grant).chain.scan_open

-- who waits is about to open a scan, and nobody else has anything left to do
pub record IsCalm (play : Play) : Type 0 where
  pub waits : (grant : ℕ) → is_waiting play grant ≡ true → opens_next (seat_at play grant) ≡ true
  pub rests : (grant : ℕ) → IsFinished (seat_at play grant) ⊎ (is_waiting play grant ≡ true)

-- a play between two steps: nobody waits for a chain that nobody holds
pub record IsBetweenSteps (setting : Setting) (play : Play) : Type 0 where
  pub under_way : IsUnderWay setting play
  pub calm : IsCalm play
  pub none : next_in_line play.holder play.waiting ≡ None

-- ---- the table stands for a play

-- a session shows the seat of its grant, and has its connection where it is going
pub record SeatShown (view : SeatView) (waits : Bool) (seat : Seat) (given : List ℕ) : Type 0 where
  pub shows : Shows view.session waits seat given
  pub conn : seat.going ≡ true → view.conn ≡ seat.conn

-- the table and the shared chain stand for the play; this was given to each grant's peer, or was thrown away, of the replies of its last session
pub record TableStands (setting : Setting) (table : HubView) (given : ℕ → List ℕ) (chain : ChainState) (play : Play) : Type 0 where
  pub layout : table.layout ≡ setting.layout
  pub vector : table.vector ≡ setting.vector
  pub trst : table.uses_trst ≡ setting.uses_trst
  pub fit : table.broken ≡ false
  pub holder : table.holder ≡ play.holder
  pub waiting : table.waiting ≡ play.waiting
  pub joins : table.joins ≡ play.joins
  pub seats : (grant : ℕ) → grant < length setting.layout.grants → SeatShown (view_at table grant) (is_waiting play grant) (seat_at play grant) (given grant)
  pub holds : Holds setting chain play
  pub whole : IsWhole setting.layout chain
  pub made : IsWithin chain.made (raised play.cost 0)
  pub scan : ChainStands setting play play.holder chain
  pub between : IsBetweenSteps setting play

-- over a cable that tells its chain
abbrev pub StandsOn : Setting → HubView → (ℕ → List ℕ) → Option ChainState → Play → Type 0
StandsOn setting table given None play = ⊥
StandsOn setting table given (Some chain) play = TableStands setting table given chain play

-- ---- what an event of a grant's session does

-- the sessions that are ready, after some went on and some ended
abbrev pub ready_then : List ℕ → List SessionEnd → List Bool → List Bool
ready_then went ends ready = with_ready false (map (λ ended. ended.grant) ends) (with_ready true went ready)

-- the table follows a change of a play: it stands for the play after it, and tells the sessions that ended by it, and those that went on
pub record FollowsPlay (setting : Setting) (old new : HubView) (given : ℕ → List ℕ) (after : Option ChainState) (play : Play) (change : SeatChange) : Type 0 where
  pub stands : StandsOn setting new given after (after_change setting play (Some change))
  pub ended : new.ended ≡ old.ended ++ drop (length play.ends) (after_change setting play (Some change)).ends
  pub ready : new.ready ≡ ready_then (went_on setting play (Some change)) (drop (length play.ends) (after_change setting play (Some change)).ends) old.ready

-- it does so in every play that it stands for, by the chains that are told before and after the call
abbrev pub FollowsPlays : HubView → HubView → (before after : Option ChainState) → (Play → SeatChange) → Type 0
FollowsPlays old new before after change = (setting : Setting) (given : ℕ → List ℕ) (play : Play) → StandsOn setting old given before play → FollowsPlay setting old new given after play (change play)

-- the cable failed: each session's replies are a front of those that its seat comes to by itself after the change
abbrev pub RepliesFronts : HubView → HubView → (before : Option ChainState) → (Play → SeatChange) → Type 0
RepliesFronts old new before change = (setting : Setting) (given : ℕ → List ℕ) (play : Play) → StandsOn setting old given before play
    → (grant : ℕ) → grant < length setting.layout.grants → IsPrefix (given grant ++ reply_at new grant) (replies_now (finished (seat_at (with_seat (change play).grant (change play).seat play) grant)))

-- ---- the same over every cable

-- what no event of a session changes: what the table was made with, how many sessions it has, and whose they are
pub record KeepsTable (old new : HubView) : Type 0 where
  pub layout : new.layout ≡ old.layout
  pub vector : new.vector ≡ old.vector
  pub trst : new.uses_trst ≡ old.uses_trst
  pub conns : map (λ view. view.conn) new.seats ≡ map (λ view. view.conn) old.seats
  pub ready : length new.ready ≡ length old.ready

-- a session that is still open has its peer, or is leaving, as before
abbrev pub StaysSo : Stand → Stand → Type 0
StaysSo old new = is_taken new ≡ true → (is_taken old ≡ true) × (is_leaving new ≡ is_leaving old)

-- a session ended that was open
pub record HasEndedNow (old new : HubView) (ended : SessionEnd) : Type 0 where
  pub there : ended.grant < length old.seats
  pub open_before : is_taken (stand_at old ended.grant) ≡ true
  pub free : stand_at new ended.grant ≡ Stand.Free
  pub conn : ended.conn ≡ (view_at old ended.grant).conn

abbrev pub EachHasEnded : HubView → HubView → List SessionEnd → Type 0
EachHasEnded old new [] = Unit {0}
EachHasEnded old new (ended ∷ more) = HasEndedNow old new ended × EachHasEnded old new more

-- a session that is going is ready where it was in line before, and else as ready as it was
pub record ReadyAsWent (old new : HubView) (grant : ℕ) : Type 0 where
  pub went : is_in_line (stand_at old grant) ≡ true → slice_index_or new.ready grant false ≡ true
  pub stayed : is_in_line (stand_at old grant) ≡ false → slice_index_or new.ready grant false ≡ slice_index_or old.ready grant false

-- a grant's session went on, and those in line that the chain was handed on to; all others are as they were
pub record WentOn (grant : ℕ) (gone : Bool) (old new : HubView) : Type 0 where
  pub own : is_taken (stand_at new grant) ≡ true → is_leaving (stand_at new grant) ≡ gone
  pub line : (other : ℕ) → other ≢ grant → StaysSo (stand_at old other) (stand_at new other)
  pub others : (other : ℕ) → other ≢ grant → is_in_line (stand_at old other) ≡ false → view_at new other ≡ view_at old other
  pub ends : List SessionEnd
  pub ended : new.ended ≡ old.ended ++ ends
  pub each : EachHasEnded old new ends
  pub once : OnceEach (map (λ ended. ended.grant) ends)
  pub ready : (other : ℕ) → other ≢ grant → stand_at new other ≡ Stand.Going → ReadyAsWent old new other

-- ---- a session begins

-- a connection opened at a grant: the table stands for the play after it, in which that session has no replies yet, and none ended by it
pub record FollowsOpening (setting : Setting) (old new : HubView) (given : ℕ → List ℕ) (chain : Option ChainState) (play : Play) (grant conn : ℕ) : Type 0 where
  pub free : (seat_at play grant).going ≡ false
  pub stands : StandsOn setting new (with_given grant [] given) chain (after_change setting play (Some (record { grant = grant; seat = opened conn (seat_at play grant) })))
  pub none : (after_change setting play (Some (record { grant = grant; seat = opened conn (seat_at play grant) }))).ends ≡ play.ends
  pub rests : went_on setting play (Some (record { grant = grant; seat = opened conn (seat_at play grant) })) ≡ []
