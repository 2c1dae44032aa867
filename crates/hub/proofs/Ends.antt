-- The sessions that ended: in the play of the wire's steps, those that ended before, and then those that the hub's list has.
use Rattle.std.proofs.Common.{◌≡◌, ℕ, ◌+◌, ◌<◌, Bool, true, List, [], ◌∷◌, ◌++◌, length, drop, ap, sym, subst, ◌∙◌, arith, append_assoc}
use Rattle.std.proofs.lemmas.List.{append-nil}
use Rattle.std.proofs.Math.Seq.{drop-append_seam}
use Rattle.std.specs.List.{slice_set}
use Rattle.std.specs.Result.{OnOk}
use Rattle.std.specs.declared.result.Result.{Result}
use Rattle.std.specs.declared.result.Result.TheVariants.{Ok, Err}
use Rattle.std.specs.declared.option.Option.{Option}
use Rattle.std.specs.declared.option.Option.TheVariants.{None, Some}
use Rattle.base_types.specs.Tellings.{Told, Both}
use Rattle.chain_model.specs.Chains.{ChainState}
use Rattle.grant_table.specs.Layouts.{grant_of}
use Rattle.client_session.specs.declared.Stand.{Stand}
use Rattle.client_session.specs.Seats.{Seat}
use Rattle.client_session.specs.Private.{received}
use Rattle.client_session.specs.Sessions.{is_here}
use Rattle.wire_port.specs.Steps.{opens_once}
use Rattle.wire_port.specs.Offers.{Answer}
use Rattle.wire_port.specs.Wires.{WireView}
use Rattle.wire_port.specs.Calls.{IsWire, after_give, after_shut, after_take, steps_of_give}
use Rattle.wire_port.specs.declared.wire.Found.{Found}
use Rattle.wire_port.specs.declared.wire.Found.TheVariants as found
use Rattle.plays.specs.Plays.{Setting, Play, SessionEnd, moved, played, seat_at, with_seat}
use Rattle.plays.specs.Stands.{HubView}
use Rattle.plays.proofs.Lists.{false_true}
use Rattle.plays.proofs.Since.{Since, since_moved}
use Rattle.session_table.specs.Tables.{FollowsOpening, FollowsPlay, FollowsPlays, StandsOn, TableView, reply_at, stand_at, view_at}
use Rattle.hub.specs.Served.{AreLeft, AreWhole, ConnsAreOpen, admitted_at, conn_at, ready_as}
use Rattle.hub.specs.Standing.{EndsFollow, EndsSince, FollowsEvent, FoundNow, GoneNow, IsGoneNow, KeepsEnds, KeepsPlay, LastGaveShut, StandsOnBut, TookNow, opens_none}
use Rattle.hub.proofs.Events.{SeatEvent, gone_now, took_now}
use Rattle.hub.proofs.Giving.{keeps_forgot, lost_one}
use Rattle.hub.proofs.LettingGo.{left_readied, open_readied, shut_play, untold}
use Rattle.hub.proofs.Openings.{away_play, begun_by, begun_ends, polled_on}

-- ---- where the play stays nobody ended

pub follow_none : (setting : Setting) (left : List SessionEnd) (hub : HubView) (chain : Option ChainState) (wire : Option WireView) → StandsOnBut setting left hub chain wire → EndsFollow setting wire wire []
follow_none setting left hub chain None s = untold setting left hub chain s
follow_none setting left hub chain (Some wire) s = sym (append-nil (played setting wire.steps).ends)

follow_then : (setting : Setting) (a b d : Option WireView) → EndsFollow setting a b [] → EndsFollow setting b d [] → EndsFollow setting a d []
follow_then setting None None d one two = absurd one
follow_then setting None (Some between) d one two = absurd one
follow_then setting (Some before) None d one two = absurd one
follow_then setting (Some before) (Some between) None one two = absurd two
follow_then setting (Some before) (Some between) (Some now) one two = two ∙ append-nil (played setting between.steps).ends ∙ one

-- a session that ended is let go
let_go_ends : (setting : Setting) (left : List SessionEnd) (hub : HubView) (gone : List Bool) (ended : SessionEnd) (chain : Option ChainState) (a b : Option WireView) → Both a b (LastGaveShut ended.conn (reply_at hub ended.grant))
    → AreLeft hub (ended ∷ left) → Told a (ConnsAreOpen hub gone (ended ∷ left)) → StandsOnBut setting (ended ∷ left) hub chain a → EndsFollow setting a b []
let_go_ends setting left hub gone ended chain None b gave are conns s = untold setting (ended ∷ left) hub chain s
let_go_ends setting left hub gone ended None (Some old) b gave are conns s = absurd s
let_go_ends setting left hub gone ended (Some chain) (Some old) None gave are conns s = absurd gave
let_go_ends setting left hub gone ended (Some chain) (Some old) (Some new) gave are conns s =
    ap (λ play. play.ends) (shut_play setting left hub gone chain ended old are conns s new gave) ∙ sym (append-nil (played setting old.steps).ends)

pub told_ends : {C : Type 0} (chain : C → Option ChainState) (setting : Setting) (left : List SessionEnd) (table now : TableView C) (gone ready : List Bool) (ended : SessionEnd) (a b : Option WireView)
    → now ≡ ready_as ready table → Both a b (LastGaveShut ended.conn (reply_at now.hub ended.grant)) → AreLeft table.hub (ended ∷ left) → Told a (ConnsAreOpen table.hub gone (ended ∷ left))
    → StandsOnBut setting (ended ∷ left) table.hub (chain table.cable) a → EndsFollow setting a b []
told_ends chain setting left table now gone ready ended a b same gave are conns s =
    let_go_ends setting left table.hub gone ended (chain table.cable) a b (subst (λ t. Both a b (LastGaveShut ended.conn (reply_at t.hub ended.grant))) same gave) are conns s

-- and one more
pub more_ends : {C : Type 0} (chain : C → Option ChainState) (setting : Setting) (first now : TableView C) (flags gone gone_now : List Bool) (at : ℕ) (ended : SessionEnd) (a b d : Option WireView)
    → now ≡ ready_as flags first → gone_now ≡ gone → drop at first.hub.ended ≡ ended ∷ drop (at + 1) first.hub.ended → AreLeft first.hub (drop at first.hub.ended) → Told b (ConnsAreOpen first.hub gone (drop at first.hub.ended))
    → ((left : List SessionEnd) → AreLeft now.hub (ended ∷ left) → Told b (ConnsAreOpen now.hub gone_now (ended ∷ left)) → StandsOnBut setting (ended ∷ left) now.hub (chain now.cable) b → EndsFollow setting b d [])
    → StandsOnBut setting (drop at first.hub.ended) now.hub (chain now.cable) b → EndsFollow setting a b [] → EndsFollow setting a d []
more_ends chain setting first now flags gone gone_now at ended a b d same gone_same there are conns lets s ends =
    follow_then setting a b d ends (lets (drop (at + 1) first.hub.ended) (left_readied first now flags _ same (subst (AreLeft first.hub) there are))
    (subst (λ flags. Told b (ConnsAreOpen now.hub flags (ended ∷ drop (at + 1) first.hub.ended))) (sym gone_same) (open_readied first now gone flags _ b same (subst (λ list. Told b (ConnsAreOpen first.hub gone list)) there conns)))
    (subst (λ list. StandsOnBut setting list now.hub (chain now.cable) b) there s))

-- ---- what calls keep

pub ends_then : (first second third : HubView) (one two : Option ChainState) (a b d : Option WireView) → KeepsPlay first second one two a b → KeepsEnds first second one a b → KeepsEnds second third two b d → KeepsEnds first third one a d
ends_then first second third one two a b d plays before after = λ setting earlier s since. after setting earlier (plays setting s) (before setting earlier s since)

pub ends_then_ok : {T E : Type 0} (first second third : HubView) (one two : Option ChainState) (a b d : Option WireView) (result : Result T E) → KeepsPlay first second one two a b → KeepsEnds first second one a b
    → OnOk result (KeepsEnds second third two b d) → OnOk result (KeepsEnds first third one a d)
ends_then_ok first second third one two a b d (Ok x) plays before after = ends_then first second third one two a b d plays before after
ends_then_ok first second third one two a b d (Err e) plays before after = tt

pub event_ends_ok : {T E : Type 0} (result : Result T E) (event : Option WireView → Option WireView → Type 0) (first second third : HubView) (one two : Option ChainState) (a b d : Option WireView)
    → FollowsEvent event first second one two a b → ((before : Option WireView) → event before a → KeepsEnds first second one before b) → OnOk result (KeepsEnds second third two b d)
    → OnOk result ((before : Option WireView) → event before a → KeepsEnds first third one before d)
event_ends_ok (Ok x) event first second third one two a b d plays ends more = λ before is. ends_then first second third one two before b d (plays before is) (ends before is) more
event_ends_ok (Err e) event first second third one two a b d plays ends more = tt

-- the list is the same
pub same_list : (setting : Setting) (earlier : List SessionEnd) (old new : HubView) (wire : Option WireView) → new.ended ≡ old.ended → EndsSince setting earlier old wire → EndsSince setting earlier new wire
same_list setting earlier old new None same since = since
same_list setting earlier old new (Some wire) same since = since ∙ ap (λ list. earlier ++ list) (sym same)

pub ends_ready : {C : Type 0} (chain : Option ChainState) (table now : TableView C) (ready : List Bool) (wire : Option WireView) → now ≡ ready_as ready table → KeepsEnds table.hub now.hub chain wire wire
ends_ready chain table now ready wire is = λ setting earlier s since. same_list setting earlier table.hub now.hub wire (ap (λ t. t.hub.ended) is) since

-- the same was told
same_steps : (old new : HubView) (chain : Option ChainState) (before now : WireView) → now.steps ≡ before.steps → new.ended ≡ old.ended → KeepsEnds old new chain (Some before) (Some now)
same_steps old new chain before now steps same = λ setting earlier s since. ap (λ list. (played setting list).ends) steps ∙ same_list setting earlier old new (Some before) same since

pub given_ends : (conn whole : ℕ) (answer : Answer) (old new : HubView) (chain : Option ChainState) (a b : Option WireView) → steps_of_give conn answer ≡ [] → new.ended ≡ old.ended
    → Both a b (λ before now. now ≡ after_give conn whole answer before) → KeepsEnds old new chain a b
given_ends conn whole answer old new chain None b none same gave = λ setting earlier s since. absurd since
given_ends conn whole answer old new chain (Some before) None none same gave = absurd gave
given_ends conn whole answer old new chain (Some before) (Some now) none same gave =
    same_steps old new chain before now (ap (λ wire. wire.steps) gave ∙ ap (λ more. before.steps ++ more) none ∙ append-nil before.steps) same

-- the peer is gone
pub lost_ends : (hub new : HubView) (grant conn whole : ℕ) (chain : Option ChainState) (a b d : Option WireView) → conn ≡ conn_at hub grant → Both a b (λ old now. now ≡ after_give conn whole Answer.Gone old)
    → ((before : Option WireView) → GoneNow (conn_at hub grant) before b → KeepsEnds hub new chain before d) → KeepsEnds hub new chain a d
lost_ends hub new grant conn whole chain None b d same_conn gave ends = λ setting earlier s since. absurd since
lost_ends hub new grant conn whole chain (Some before) None d same_conn gave ends = absurd gave
lost_ends hub new grant conn whole chain (Some before) (Some now) d same_conn gave ends =
    ends (Some before) (subst (λ one. IsGoneNow one before now) same_conn (subst (IsGoneNow conn before) (sym gave) (lost_one conn whole before)))

-- ---- a step of a session's connection

-- the play has those of before, and then more
grown : (setting : Setting) (grant : ℕ) (seat : Seat) (play : Play) → (moved setting grant (with_seat grant seat play)).ends ≡ play.ends ++ drop (length play.ends) (moved setting grant (with_seat grant seat play)).ends
grown setting grant seat play = by (since_moved setting (with_seat grant seat play) grant)
  where
    by : Since (with_seat grant seat play) (moved setting grant (with_seat grant seat play)) → (moved setting grant (with_seat grant seat play)).ends ≡ play.ends ++ drop (length play.ends) (moved setting grant (with_seat grant seat play)).ends
    by s = sym s.is ∙ ap (λ list. play.ends ++ list) (sym (drop-append_seam play.ends s.more) ∙ ap (drop (length play.ends)) s.is)

-- the list grows by those that ended by it
stepped : (setting : Setting) (earlier : List SessionEnd) (old new : HubView) (given : ℕ → List ℕ) (chain : Option ChainState) (grant : ℕ) (seat : Seat) (before now : WireView) → SeatEvent setting old grant seat before now
    → FollowsPlay setting old new given chain (played setting before.steps) (record { grant = grant; seat = seat }) → EndsSince setting earlier old (Some before) → EndsSince setting earlier new (Some now)
stepped setting earlier old new given chain grant seat before now event follows since =
    ap (λ play. play.ends) event.play ∙ grown setting grant seat (played setting before.steps)
    ∙ ap (λ list. list ++ drop (length (played setting before.steps).ends) (moved setting grant (with_seat grant seat (played setting before.steps))).ends) since
    ∙ append_assoc earlier old.ended (drop (length (played setting before.steps).ends) (moved setting grant (with_seat grant seat (played setting before.steps))).ends)
    ∙ ap (λ list. earlier ++ list) (sym follows.ended)

pub took_ends : (setting : Setting) (earlier : List SessionEnd) (old new : HubView) (gone : List Bool) (grant : ℕ) (bytes : List ℕ) (old_chain new_chain : Option ChainState) (before now : Option WireView)
    → AreWhole old gone → grant < length old.seats → stand_at old grant ≡ Stand.Going → FollowsPlays old new old_chain new_chain (λ play. record { grant = grant; seat = received bytes (seat_at play grant) })
    → TookNow (conn_at old grant) bytes before now → StandsOnBut setting [] old old_chain before → EndsSince setting earlier old before → EndsSince setting earlier new now
took_ends setting earlier old new gone grant bytes old_chain new_chain None now whole there going follows took s since = absurd since
took_ends setting earlier old new gone grant bytes old_chain new_chain (Some before) None whole there going follows took s since = absurd took
took_ends setting earlier old new gone grant bytes None new_chain (Some before) (Some now) whole there going follows took s since = absurd s
took_ends setting earlier old new gone grant bytes (Some chain) new_chain (Some before) (Some now) whole there going follows took s since =
    stepped setting earlier old new s.given new_chain grant (received bytes (seat_at (played setting before.steps) grant)) before now (took_now setting old gone grant bytes chain before now whole there going took s)
    (follows setting s.given (played setting before.steps) s.table) since

pub gone_ends : (setting : Setting) (earlier : List SessionEnd) (old new : HubView) (gone : List Bool) (grant : ℕ) (old_chain new_chain : Option ChainState) (before now : Option WireView)
    → AreWhole old gone → grant < length old.seats → is_here (stand_at old grant) ≡ true → FollowsPlays old new old_chain new_chain (λ play. record { grant = grant; seat = record (seat_at play grant) { gone = true } })
    → GoneNow (conn_at old grant) before now → StandsOnBut setting [] old old_chain before → EndsSince setting earlier old before → EndsSince setting earlier new now
gone_ends setting earlier old new gone grant old_chain new_chain None now whole there here follows lost s since = absurd since
gone_ends setting earlier old new gone grant old_chain new_chain (Some before) None whole there here follows lost s since = absurd lost
gone_ends setting earlier old new gone grant None new_chain (Some before) (Some now) whole there here follows lost s since = absurd s
gone_ends setting earlier old new gone grant (Some chain) new_chain (Some before) (Some now) whole there here follows lost s since =
    stepped setting earlier old new s.given new_chain grant (record (seat_at (played setting before.steps) grant) { gone = true }) before now (gone_now setting old gone grant chain before now whole there here lost s)
    (follows setting s.given (played setting before.steps) s.table) since

-- and then those that ended are let go
pub settled_ends : (setting : Setting) (earlier : List SessionEnd) (old new : HubView) (a b : Option WireView) → new.ended ≡ old.ended → EndsFollow setting a b [] → EndsSince setting earlier old a → EndsSince setting earlier new b
settled_ends setting earlier old new None b same follow since = absurd since
settled_ends setting earlier old new (Some before) None same follow since = absurd follow
settled_ends setting earlier old new (Some before) (Some now) same follow since = follow ∙ append-nil (played setting before.steps).ends ∙ same_list setting earlier old new (Some before) same since

-- ---- one take

pub came_ends : {T E : Type 0} (result : Result T E) (conn : ℕ) (bytes : List ℕ) (old new : HubView) (chain : Option ChainState) (a b d : Option WireView) → Both a b (λ before now. now ≡ after_take conn (Answer.Bytes bytes) before)
    → OnOk result ((before : Option WireView) → TookNow conn bytes before b → KeepsEnds old new chain before d) → OnOk result (KeepsEnds old new chain a d)
came_ends (Err fault) conn bytes old new chain a b d took ends = tt
came_ends (Ok done) conn bytes old new chain None b d took ends = λ setting earlier s since. absurd since
came_ends (Ok done) conn bytes old new chain (Some before) None d took ends = absurd took
came_ends (Ok done) conn bytes old new chain (Some before) (Some now) d took ends = ends (Some before) took

pub left_ends : {T E : Type 0} (result : Result T E) (conn : ℕ) (old new : HubView) (chain : Option ChainState) (a b d : Option WireView) → Both a b (λ before now. now ≡ after_take conn Answer.Gone before)
    → OnOk result ((before : Option WireView) → GoneNow conn before b → KeepsEnds old new chain before d) → OnOk result (KeepsEnds old new chain a d)
left_ends (Err fault) conn old new chain a b d took ends = tt
left_ends (Ok done) conn old new chain None b d took ends = λ setting earlier s since. absurd since
left_ends (Ok done) conn old new chain (Some before) None d took ends = absurd took
left_ends (Ok done) conn old new chain (Some before) (Some now) d took ends =
    ends (Some before) (record { steps = ap (λ wire. wire.steps) took; given = λ other. ap (λ wire. wire.given other) took; last = λ other. ap (λ wire. wire.last other) took })

pub untaken_ends : (conn : ℕ) (old new : HubView) (chain : Option ChainState) (a b : Option WireView) → new.ended ≡ old.ended → Both a b (λ before now. now ≡ after_take conn Answer.NotNow before) → KeepsEnds old new chain a b
untaken_ends conn old new chain None b same took = λ setting earlier s since. absurd since
untaken_ends conn old new chain (Some before) None same took = absurd took
untaken_ends conn old new chain (Some before) (Some now) same took = same_steps old new chain before now (ap (λ wire. wire.steps) took ∙ append-nil before.steps) same

-- ---- a connection opened

pub begin_ends : {C : Type 0} (chain : C → Option ChainState) (table now : TableView C) (gone : List Bool) (grant conn port : ℕ) (wire : Option WireView) → AreWhole table.hub gone → grant < length table.hub.seats
    → (stand_at now.hub grant ≡ Stand.Going) × (reply_at now.hub grant ≡ []) × ((view_at now.hub grant).conn ≡ conn)
    → now ≡ record table { hub = record table.hub { seats = slice_set table.hub.seats grant (view_at now.hub grant); ready = slice_set table.hub.ready grant true } }
    → ((setting : Setting) (given : ℕ → List ℕ) (told : Option ChainState) (play : Play) → StandsOn setting table.hub given told play → FollowsOpening setting table.hub now.hub given told play grant conn)
    → Told wire IsWire → grant_of table.hub.layout port ≡ Some grant → (before : Option WireView) → FoundNow (found.Opened conn port) before wire → KeepsEnds table.hub now.hub (chain table.cable) before wire
begin_ends chain table now gone grant conn port wire whole lt goes kept opens_play wires granted = by (chain table.cable) wire wires
  where
    by : (told : Option ChainState) (a : Option WireView) → Told a IsWire → (before : Option WireView) → FoundNow (found.Opened conn port) before a → KeepsEnds table.hub now.hub told before a
    by told a is None event = λ setting earlier s since. absurd since
    by told None is (Some before) event = absurd event
    by None (Some after) is (Some before) event = λ setting earlier s since. absurd s
    by (Some told) (Some after) is (Some before) event = λ setting earlier s since.
        begun_ends setting table.hub gone told before conn port whole s (ap (λ (w : WireView). opens_once w.steps) (sym event) ∙ is.once) now.hub grant (omega (arith, lt, whole.seats)) granted (begun_by table now grant conn goes.2 kept) goes.0 goes.1
        (opens_play setting s.given (Some told) (played setting before.steps) s.table) after event
        ∙ same_list setting earlier table.hub now.hub (Some before) (ap (λ t. t.hub.ended) kept) since

pub away_ends : (hub : HubView) (gone : List Bool) (chain : Option ChainState) (conn port : ℕ) (a b : Option WireView) → AreWhole hub gone → None ≡ admitted_at hub port → Told a IsWire → Both a b (λ old now. now ≡ after_shut conn old)
    → (before : Option WireView) → FoundNow (found.Opened conn port) before a → KeepsEnds hub hub chain before b
away_ends hub gone chain conn port a b whole none first shut None event = λ setting earlier s since. absurd since
away_ends hub gone chain conn port None b whole none first shut (Some before) event = absurd event
away_ends hub gone chain conn port (Some old) None whole none first shut (Some before) event = absurd shut
away_ends hub gone None conn port (Some old) (Some now) whole none first shut (Some before) event = λ setting earlier s since. absurd s
away_ends hub gone (Some chain) conn port (Some old) (Some now) whole none first shut (Some before) event = λ setting earlier s since.
    ap (λ play. play.ends) (away_play setting hub gone chain before conn port whole s (ap (λ (w : WireView). opens_once w.steps) (sym event) ∙ first.once) (sym none) now (shut ∙ ap (after_shut conn) event)) ∙ since

-- ---- a poll that opened nothing, and what follows

polled_ends : (setting : Setting) (earlier : List SessionEnd) (hub : HubView) (find : Found) (a b : Option WireView) → opens_none find ≡ true → FoundNow find a b → EndsSince setting earlier hub a → EndsSince setting earlier hub b
polled_ends setting earlier hub find None b none event since = absurd since
polled_ends setting earlier hub find (Some before) None none event since = absurd event
polled_ends setting earlier hub (found.Opened conn port) (Some before) (Some now) none event since = false_true none
polled_ends setting earlier hub (found.Ready conn) (Some before) (Some now) none event since = ap (λ wire. (played setting wire.steps).ends) event ∙ since
polled_ends setting earlier hub (found.Room conn) (Some before) (Some now) none event since = ap (λ wire. (played setting wire.steps).ends) event ∙ since
polled_ends setting earlier hub found.Nothing (Some before) (Some now) none event since = ap (λ wire. (played setting wire.steps).ends) event ∙ since
polled_ends setting earlier hub found.End (Some before) (Some now) none event since = ap (λ wire. (played setting wire.steps).ends) event ∙ since

pub found_ends : (find : Found) (hub new : HubView) (chain : Option ChainState) (a b : Option WireView) → opens_none find ≡ true → KeepsEnds hub new chain a b → (before : Option WireView) → FoundNow find before a → KeepsEnds hub new chain before b
found_ends find hub new chain a b none keeps = λ before event setting earlier s since. keeps setting earlier (polled_on setting hub chain find before a none event s) (polled_ends setting earlier hub find before a none event since)

pub found_ends_ok : {T E : Type 0} (find : Found) (hub new : HubView) (chain : Option ChainState) (a b : Option WireView) (result : Result T E) → opens_none find ≡ true → OnOk result (KeepsEnds hub new chain a b)
    → OnOk result ((before : Option WireView) → FoundNow find before a → KeepsEnds hub new chain before b)
found_ends_ok find hub new chain a b (Ok x) none keeps = found_ends find hub new chain a b none keeps
found_ends_ok find hub new chain a b (Err e) none keeps = tt

-- ---- the list is emptied before it

since_emptied : (setting : Setting) (hub new : HubView) (chain : Option ChainState) (a b : Option WireView) → hub.ended ≡ [] → StandsOnBut setting [] hub chain a → KeepsEnds hub new chain a b → EndsFollow setting a b new.ended
since_emptied setting hub new chain None b none s keeps = untold setting [] hub chain s
since_emptied setting hub new chain (Some before) None none s keeps =
    absurd (keeps setting (played setting before.steps).ends s (sym (append-nil (played setting before.steps).ends) ∙ ap (λ list. (played setting before.steps).ends ++ list) (sym none)))
since_emptied setting hub new chain (Some before) (Some now) none s keeps =
    keeps setting (played setting before.steps).ends s (sym (append-nil (played setting before.steps).ends) ∙ ap (λ list. (played setting before.steps).ends ++ list) (sym none))

pub turn_ends : {C T E : Type 0} (chain : C → Option ChainState) (find : Found) (table mid : TableView C) (new : HubView) (a b : Option WireView) (result : Result T E) → mid ≡ record table { hub = record table.hub { ended = [] } }
    → OnOk result ((before : Option WireView) → FoundNow find before a → KeepsEnds mid.hub new (chain mid.cable) before b)
    → OnOk result ((setting : Setting) (before : Option WireView) → FoundNow find before a → StandsOnBut setting [] table.hub (chain table.cable) before → EndsFollow setting before b new.ended)
turn_ends chain find table mid new a b (Ok x) is ends = λ setting before event s. since_emptied setting mid.hub new (chain mid.cable) before b (ap (λ t. t.hub.ended) is) (keeps_forgot chain table mid before is setting s) (ends before event)
turn_ends chain find table mid new a b (Err e) is ends = tt

pub round_ends : {C T E : Type 0} (chain : C → Option ChainState) (table mid : TableView C) (new : HubView) (a b : Option WireView) (result : Result T E) → mid ≡ record table { hub = record table.hub { ended = [] } }
    → OnOk result (KeepsEnds mid.hub new (chain mid.cable) a b)
    → OnOk result ((setting : Setting) → StandsOnBut setting [] table.hub (chain table.cable) a → EndsFollow setting a b new.ended)
round_ends chain table mid new a b (Ok x) is ends = λ setting s. since_emptied setting mid.hub new (chain mid.cable) a b (ap (λ t. t.hub.ended) is) (keeps_forgot chain table mid a is setting s) ends
round_ends chain table mid new a b (Err e) is ends = tt
