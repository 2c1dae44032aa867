-- What calls do to sessions that rest.
use Rattle.std.proofs.Common.{◌≡◌, ◌≢◌, ◌==◌, ◌&&◌, ℕ, ◌<◌, Bool, true, false, List, [], ◌∷◌, length, map, take, refl, ap, sym, subst, ◌∙◌, arith, inl, inr, ◌⊎◌, length-take}
use Rattle.std.specs.List.{slice_index_or, slice_set}
use Rattle.std.specs.declared.option.Option.{Option}
use Rattle.std.specs.declared.option.Option.TheVariants.{None, Some}
use Rattle.std.specs.Result.{OnOk}
use Rattle.std.specs.declared.result.Result.{Result}
use Rattle.std.specs.declared.result.Result.TheVariants.{Ok, Err}
use Rattle.std.proofs.lemmas.Bool.{eqb-true, eq-eqb}
use Rattle.std.proofs.lemmas.List.{get_or-set_same, get_or-set_other}
use Rattle.base_types.specs.Tellings.{Told, Both}
use Rattle.base_types.proofs.TellingLaws.{both_joined}
use Rattle.client_session.specs.declared.Stand.{Stand}
use Rattle.client_session.specs.declared.Stand.TheVariants as stand
use Rattle.client_session.specs.Sessions.{is_here, is_in_line, is_leaving, is_taken}
use Rattle.grant_table.specs.Layouts.{first_place}
use Rattle.wire_port.specs.declared.wire.Found.{Found}
use Rattle.wire_port.specs.Offers.{Answer}
use Rattle.wire_port.specs.Wires.{WireView, Last, last_of_give}
use Rattle.wire_port.specs.Calls.{after_give, after_take, after_shut}
use Rattle.plays.specs.Plays.{SessionEnd}
use Rattle.plays.specs.Stands.{HubView}
use Rattle.plays.proofs.Lists.{not_eq, false_true}
use Rattle.session_table.specs.Tables.{TableView, KeepsTable, WentOn, no_view, stand_at, view_at}
use Rattle.hub.specs.Served.{AreLeft, ConnsAreOpen, HasBegun, OnlyOf, OpensNow, SameSessions, conn_at, quieted, ready_as, serves_conn, settled, with_seats}
use Rattle.hub.specs.Resting.{ComesToRest, HasNoMore, KeepsRest, OthersRest, OthersStay, Rests, RestsAt, RestsBut, names}
use Rattle.hub.proofs.AfterCalls.{keeps_conn, quiet_same, settled_same}
use Rattle.hub.specs.Rounds.{IsUntouched}
use Rattle.hub.proofs.Giving.{last_own}
use Rattle.hub.proofs.Rounds.{here_not_going, set_untouched, untouched_none, untouched_same, untouched_then, went_untouched}
use Rattle.hub.proofs.Places.{place_fails, place_passes}
use Rattle.hub.proofs.OnTheWire.{both_by, both_map, same_or}

-- ---- how a session stands

going_not_free : stand.Going ≢ stand.Free
going_not_free same = false_true (sym (ap is_taken same))

leaving_not_here : (now : Stand) → (is_taken now ≡ true → is_leaving now ≡ true) → is_here now ≡ false
leaving_not_here stand.Free leaves = refl
leaving_not_here stand.Leaving leaves = refl
leaving_not_here stand.Going leaves = false_true (leaves refl)
leaving_not_here stand.Waits leaves = false_true (leaves refl)

-- who does not go on has nothing more to do
no_more : (hub : HubView) (grant : ℕ) (wire : WireView) → stand_at hub grant ≢ stand.Going → HasNoMore hub grant wire
no_more hub grant wire away = record { last = λ going. absurd (away going) }

-- ---- the same sessions

same_rest : (old new : HubView) (wire : WireView) (grant : ℕ) → SameSessions old new → slice_index_or new.ready grant false ≡ slice_index_or old.ready grant false → RestsAt old wire grant → RestsAt new wire grant
same_rest old new wire grant same ready rests going unready =
    subst (λ conn. wire.last conn ≢ Last.Other) (sym (same.conns grant)) (rests (sym (same.stands grant) ∙ going) (sym ready ∙ unready))

pub keep_none : (hub : HubView) (a : Option WireView) → Both a a (KeepsRest hub hub)
keep_none hub None = tt
keep_none hub (Some wire) = record { each = λ grant rests. rests; untouched = untouched_none hub }

pub keep_then : (first second third : HubView) (a b d : Option WireView) → Both a b (KeepsRest first second) → Both b d (KeepsRest second third) → Both a d (KeepsRest first third)
keep_then first second third = both_joined (KeepsRest first second) (KeepsRest second third) (KeepsRest first third) (λ old between new one two. record {
  each = λ grant rests. two.each grant (one.each grant rests);
  untouched = λ grant. untouched_then first second third grant (one.untouched grant) (two.untouched grant);
})

-- ---- a session that ended is let go

let_rest : (hub : HubView) (gone : List Bool) (ended : SessionEnd) (left : List SessionEnd) (flags : List Bool) (old new : WireView)
    → AreLeft hub (ended ∷ left) → ConnsAreOpen hub gone (ended ∷ left) old → OnlyOf ended.conn old new
    → KeepsRest (record hub { ready = flags }) (record hub { ready = slice_set flags ended.grant false }) old new
let_rest hub gone ended left flags old new are conns only = record { each = one; untouched = still }
  where
    other : (grant : ℕ) → stand_at hub grant ≡ stand.Going → grant ≢ ended.grant
    other grant going same = going_not_free (sym going ∙ ap (stand_at hub) same ∙ are.free.0.free)

    apart : (grant : ℕ) → stand_at hub grant ≡ stand.Going → conn_at hub grant ≢ ended.conn
    apart grant going same = other grant going (conns.once grant ended.grant (inl (ap is_taken going)) (inr (rw (eq-eqb ended.grant ended.grant refl) refl)) (same ∙ are.free.0.conn))

    still : (grant : ℕ) → IsUntouched (record hub { ready = flags }) (record hub { ready = slice_set flags ended.grant false }) grant
    still grant = untouched_same (record hub { ready = flags }) (record hub { ready = slice_set flags ended.grant false }) grant (record { stands = λ g. refl; conns = λ g. refl; line = refl })
        (λ going. get_or-set_other flags ended.grant grant false false (other grant going))

    one : (grant : ℕ) → RestsAt (record hub { ready = flags }) old grant → RestsAt (record hub { ready = slice_set flags ended.grant false }) new grant
    one grant rests going unready = subst (λ last. last ≢ Last.Other) (sym (only.last (conn_at hub grant) (apart grant going)))
        (rests going (sym (get_or-set_other flags ended.grant grant false false (other grant going)) ∙ unready))

pub let_rests : {C : Type 0} (first now next : TableView C) (flags gone : List Bool) (list left : List SessionEnd) (ended : SessionEnd) (a b : Option WireView)
    → now ≡ ready_as flags first → next ≡ ready_as (slice_set now.hub.ready ended.grant false) now → list ≡ ended ∷ left → AreLeft first.hub list
    → Told a (ConnsAreOpen first.hub gone list) → Both a b (OnlyOf ended.conn) → Both a b (KeepsRest now.hub next.hub)
let_rests first now next flags gone list left ended a b now_is next_is list_is are conns only =
    subst (λ table. Both a b (KeepsRest table.hub next.hub)) (sym now_is) (subst (λ table. Both a b (KeepsRest (ready_as flags first).hub table.hub)) (sym then)
    (both_by a b (subst (λ l. Told a (ConnsAreOpen first.hub gone l)) list_is conns) only (λ old new open_now one. let_rest first.hub gone ended left flags old new (subst (AreLeft first.hub) list_is are) open_now one)))
  where
    then : next ≡ ready_as (slice_set flags ended.grant false) first
    then = subst (λ table. next ≡ ready_as (slice_set table.hub.ready ended.grant false) table) now_is next_is

-- replies are thrown away
pub quiet_rests : {C : Type 0} (first between new : TableView C) (a b : Option WireView) → new ≡ with_seats (map quieted between.hub.seats) between → Both a b (KeepsRest first.hub between.hub) → Both a b (KeepsRest first.hub new.hub)
quiet_rests first between new a b is keeps = subst (λ table. Both a b (KeepsRest first.hub table.hub)) (sym is) (both_map a b keeps (λ old now one. record {
  each = λ grant rests. same_rest between.hub (with_seats (map quieted between.hub.seats) between).hub now grant (quiet_same between) refl (one.each grant rests);
  untouched = λ grant. untouched_then first.hub between.hub (with_seats (map quieted between.hub.seats) between).hub grant (one.untouched grant)
      (untouched_same between.hub (with_seats (map quieted between.hub.seats) between).hub grant (quiet_same between) (λ going. refl));
}))

-- ---- a call of the table

went_rest : (grant : ℕ) (flag : Bool) (old new : HubView) (wire : WireView) → KeepsTable old new → WentOn grant flag old new → OthersRest grant old wire → OthersRest grant new wire
went_rest grant flag old new wire kept went rests other ne going unready = by (is_in_line (stand_at old other)) refl
  where
    by : (b : Bool) → is_in_line (stand_at old other) ≡ b → wire.last (conn_at new other) ≢ Last.Other
    by true line = false_true (sym unready ∙ (went.ready other ne going).went line)
    by false line = subst (λ conn. wire.last conn ≢ Last.Other) (sym (keeps_conn old new kept other))
        (rests other ne (sym (ap (λ view. view.session.stand) (went.others other ne line)) ∙ going) (sym ((went.ready other ne going).stayed line) ∙ unready))

pub went_stay : (grant : ℕ) (flag : Bool) (old between new : HubView) (a b : Option WireView) → KeepsTable old between → WentOn grant flag old between → Both a b (KeepsRest between new) → Both a b (OthersStay grant old new)
went_stay grant flag old between new a b kept went keeps = both_map a b keeps (λ before now one. record {
  others = λ rests other ne. one.each other (went_rest grant flag old between before kept went rests other ne);
  untouched = λ other ne. untouched_then old between new other (went_untouched grant flag old between other kept went ne) (one.untouched other);
})

-- whose peer is gone is not here any more
pub gone_away : {C : Type 0} (grant earlier : ℕ) (old : HubView) (table now : TableView C) → WentOn grant true old table.hub → now ≡ settled earlier table → is_here (stand_at now.hub grant) ≡ false
gone_away grant earlier old table now went is = leaving_not_here (stand_at now.hub grant) (subst (λ t. is_taken (stand_at t.hub grant) ≡ true → is_leaving (stand_at t.hub grant) ≡ true) (sym is)
    (λ taken. ap is_leaving ((settled_same table earlier).stands grant) ∙ went.own (sym (ap is_taken ((settled_same table earlier).stands grant)) ∙ taken)))

-- ---- a session is said to be ready, or not to be

set_others : {C : Type 0} (now next : TableView C) (grant : ℕ) (flag : Bool) (wire : WireView) → next ≡ ready_as (slice_set now.hub.ready grant flag) now → OthersRest grant now.hub wire → OthersRest grant next.hub wire
set_others now next grant flag wire is rests = subst (λ table. OthersRest grant table.hub wire) (sym is) (λ other ne going unready. rests other ne going (sym (get_or-set_other now.hub.ready grant other flag false ne) ∙ unready))

pub set_stay : {C : Type 0} (old : HubView) (now next : TableView C) (grant : ℕ) (flag : Bool) (a b : Option WireView) → next ≡ ready_as (slice_set now.hub.ready grant flag) now
    → Both a b (OthersStay grant old now.hub) → Both a b (OthersStay grant old next.hub)
set_stay old now next grant flag a b is stay = both_map a b stay (λ before after one. record {
  others = λ rests. set_others now next grant flag after is (one.others rests);
  untouched = λ other ne. untouched_then old now.hub next.hub other (one.untouched other ne) (set_untouched now next grant other flag is ne);
})

all_rest : (hub : HubView) (grant : ℕ) (wire : WireView) → OthersRest grant hub wire → RestsAt hub wire grant → Rests hub wire
all_rest hub grant wire others own other = by (same_or other grant)
  where
    by : (other ≡ grant) ⊎ (other ≢ grant) → RestsAt hub wire other
    by (inl is) = subst (RestsAt hub wire) (sym is) own
    by (inr ne) = others other ne

set_rest : {C : Type 0} (now next : TableView C) (grant : ℕ) (flag : Bool) (wire : WireView) → next ≡ ready_as (slice_set now.hub.ready grant flag) now → grant < length now.hub.ready
    → OthersRest grant now.hub wire → (flag ≡ false → HasNoMore now.hub grant wire) → Rests next.hub wire
set_rest now next grant flag wire is lt others own = all_rest next.hub grant wire (set_others now next grant flag wire is others) (subst (λ table. RestsAt table.hub wire grant) (sym is) (by flag refl))
  where
    by : (b : Bool) → flag ≡ b → RestsAt (ready_as (slice_set now.hub.ready grant flag) now).hub wire grant
    by true set going unready = false_true (sym unready ∙ get_or-set_same now.hub.ready grant flag false lt ∙ set)
    by false set going unready = (own set).last going

-- all rest, where this one has nothing more to do or is ready
pub set_comes : {C : Type 0} (old : HubView) (now next : TableView C) (grant : ℕ) (flag : Bool) (a b : Option WireView) → next ≡ ready_as (slice_set now.hub.ready grant flag) now → grant < length now.hub.ready
    → Both a b (OthersStay grant old now.hub) → (flag ≡ false → Told b (HasNoMore now.hub grant)) → Both a b (ComesToRest grant old next.hub)
set_comes old now next grant flag None None is lt stay own = tt
set_comes old now next grant flag None (Some new) is lt stay own = stay
set_comes old now next grant flag (Some before) None is lt stay own = stay
set_comes old now next grant flag (Some before) (Some new) is lt stay own = record {
  all = λ rests. set_rest now next grant flag new is lt (stay.others rests) own;
  untouched = λ other ne. untouched_then old now.hub next.hub other (stay.untouched other ne) (set_untouched now next grant other flag is ne);
}

pub told_no_more : (hub : HubView) (grant : ℕ) (a : Option WireView) → stand_at hub grant ≢ stand.Going → Told a (HasNoMore hub grant)
told_no_more hub grant None away = tt
told_no_more hub grant (Some wire) away = no_more hub grant wire away

-- where this one has nothing more to do, all rest
stay_comes : (old new : HubView) (grant : ℕ) (a b : Option WireView) → Both a b (OthersStay grant old new) → Told b (HasNoMore new grant) → Both a b (ComesToRest grant old new)
stay_comes old new grant None None stay own = tt
stay_comes old new grant None (Some now) stay own = stay
stay_comes old new grant (Some before) None stay own = stay
stay_comes old new grant (Some before) (Some now) stay own = record { all = λ rests. all_rest new grant now (stay.others rests) (λ going unready. own.last going); untouched = stay.untouched }

-- ---- one call after another

pub stay_then : (grant : ℕ) (first second third : HubView) (a b d : Option WireView) → Both a b (OthersStay grant first second) → Both b d (OthersStay grant second third) → Both a d (OthersStay grant first third)
stay_then grant first second third = both_joined (OthersStay grant first second) (OthersStay grant second third) (OthersStay grant first third) (λ old between new one two. record {
  others = λ rests. two.others (one.others rests);
  untouched = λ other ne. untouched_then first second third other (one.untouched other ne) (two.untouched other ne);
})

comes_then : (grant : ℕ) (first second third : HubView) (a b d : Option WireView) → Both a b (OthersStay grant first second) → Both b d (ComesToRest grant second third) → Both a d (ComesToRest grant first third)
comes_then grant first second third = both_joined (OthersStay grant first second) (ComesToRest grant second third) (ComesToRest grant first third) (λ old between new one two. record {
  all = λ rests. two.all (one.others rests);
  untouched = λ other ne. untouched_then first second third other (one.untouched other ne) (two.untouched other ne);
})

pub comes_then_ok : {T E : Type 0} (grant : ℕ) (first second third : HubView) (a b d : Option WireView) (result : Result T E) → Both a b (OthersStay grant first second)
    → OnOk result (Both b d (ComesToRest grant second third)) → OnOk result (Both a d (ComesToRest grant first third))
comes_then_ok grant first second third a b d (Ok x) one two = comes_then grant first second third a b d one two
comes_then_ok grant first second third a b d (Err e) one two = tt

-- ---- a call on the connection of an open session

only_rest : (grant conn : ℕ) (old new : HubView) (gone : List Bool) (before now : WireView) → is_taken (stand_at old grant) ≡ true → conn ≡ conn_at old grant → SameSessions old new
    → ((other : ℕ) → other ≢ grant → slice_index_or new.ready other false ≡ slice_index_or old.ready other false) → ConnsAreOpen old gone [] before → OnlyOf conn before now → OthersRest grant old before → OthersRest grant new now
only_rest grant conn old new gone before now taken conn_is same ready conns only rests other ne going unready =
    let was : stand_at old other ≡ stand.Going = sym (same.stands other) ∙ going in
    let apart : conn_at old other ≢ conn = λ is. ne (conns.once other grant (inl (ap is_taken was)) (inl taken) (is ∙ conn_is)) in
    subst (λ c. now.last c ≢ Last.Other) (sym (same.conns other)) (subst (λ last. last ≢ Last.Other) (sym (only.last (conn_at old other) apart)) (rests other ne was (sym (ready other ne) ∙ unready)))

pub only_stay : (grant conn : ℕ) (old new : HubView) (gone : List Bool) (a b : Option WireView) → is_taken (stand_at old grant) ≡ true → conn ≡ conn_at old grant → SameSessions old new
    → ((other : ℕ) → other ≢ grant → slice_index_or new.ready other false ≡ slice_index_or old.ready other false) → Told a (ConnsAreOpen old gone []) → Both a b (OnlyOf conn) → Both a b (OthersStay grant old new)
only_stay grant conn old new gone a b taken conn_is same ready conns only = both_by a b conns only (λ before now open_now one. record {
  others = only_rest grant conn old new gone before now taken conn_is same ready open_now one;
  untouched = λ other ne. untouched_same old new other same (λ going. ready other ne);
})

pub same_none : (hub : HubView) → SameSessions hub hub
same_none hub = record { stands = λ grant. refl; conns = λ grant. refl; line = refl }

short_not_other : Last.Short ≢ Last.Other
short_not_other same = absurd (let q : Last.Short ≡ Last.Other = same in cc)

none_not_other : Last.NotNow ≢ Last.Other
none_not_other same = absurd (let q : Last.NotNow ≡ Last.Other = same in cc)

-- the connection of a grant answered so last
answered : (grant conn : ℕ) (old new : HubView) (last : Last) (wire : WireView) → conn ≡ conn_at old grant → SameSessions old new → last ≢ Last.Other → wire.last conn ≡ last → HasNoMore new grant wire
answered grant conn old new last wire conn_is same ne is = record { last = λ going. subst (λ c. wire.last c ≢ Last.Other) (conn_is ∙ sym (same.conns grant)) (subst (λ l. l ≢ Last.Other) (sym is) ne) }

told_answered : (grant conn : ℕ) (old new : HubView) (last : Last) (next : WireView → WireView) (a b : Option WireView) → conn ≡ conn_at old grant → SameSessions old new → last ≢ Last.Other → ((wire : WireView) → (next wire).last conn ≡ last)
    → Both a b (λ before now. now ≡ next before) → Told b (HasNoMore new grant)
told_answered grant conn old new last next a None conn_is same ne answers r = tt
told_answered grant conn old new last next None (Some now) conn_is same ne answers r = absurd r
told_answered grant conn old new last next (Some before) (Some now) conn_is same ne answers r = answered grant conn old new last now conn_is same ne (ap (λ wire. wire.last conn) r ∙ answers before)

-- not all bytes went
pub gave_short : (grant conn count : ℕ) (reply : List ℕ) (old new : HubView) (a b : Option WireView) → conn ≡ conn_at old grant → SameSessions old new → count < length reply
    → Both a b (λ before now. now ≡ after_give conn (length reply) (Answer.Bytes (take count reply)) before) → Told b (HasNoMore new grant)
gave_short grant conn count reply old new a b conn_is same less = told_answered grant conn old new Last.Short (after_give conn (length reply) (Answer.Bytes (take count reply))) a b conn_is same short_not_other
    (λ wire. last_own conn (last_of_give (length reply) (Answer.Bytes (take count reply))) wire.last ∙ is_short)
  where
    is_short : last_of_give (length reply) (Answer.Bytes (take count reply)) ≡ Last.Short
    is_short = rw (not_eq (length (take count reply)) (length reply) (λ same. absurd (omega (arith, length-take count reply, same, less)))) refl

-- none went
pub gave_not : (grant conn whole : ℕ) (old new : HubView) (a b : Option WireView) → conn ≡ conn_at old grant → SameSessions old new → Both a b (λ before now. now ≡ after_give conn whole Answer.NotNow before) → Told b (HasNoMore new grant)
gave_not grant conn whole old new a b conn_is same = told_answered grant conn old new Last.Short (after_give conn whole Answer.NotNow) a b conn_is same short_not_other (λ wire. last_own conn Last.Short wire.last)

-- none came
pub took_not : (grant conn : ℕ) (old new : HubView) (a b : Option WireView) → conn ≡ conn_at old grant → SameSessions old new → Both a b (λ before now. now ≡ after_take conn Answer.NotNow before) → Told b (HasNoMore new grant)
took_not grant conn old new a b conn_is same = told_answered grant conn old new Last.NotNow (after_take conn Answer.NotNow) a b conn_is same none_not_other (λ wire. last_own conn Last.NotNow wire.last)

pub set_same : {C : Type 0} (now next : TableView C) (flags : List Bool) → next ≡ ready_as flags now → SameSessions now.hub next.hub
set_same now next flags is = subst (λ table. SameSessions now.hub table.hub) (sym is) (record { stands = λ grant. refl; conns = λ grant. refl; line = refl })

-- ---- the peer is gone

pub lost_comes_ok : {T E : Type 0} (grant : ℕ) (first second third : HubView) (a b d : Option WireView) (result : Result T E) → Both a b (OthersStay grant first second)
    → OnOk result (Both b d (OthersStay grant second third)) → OnOk result (is_here (stand_at third grant) ≡ false) → OnOk result (Both a d (ComesToRest grant first third))
lost_comes_ok grant first second third a b d (Ok x) one two away = stay_comes first third grant a d (stay_then grant first second third a b d one two) (told_no_more third grant d (here_not_going (stand_at third grant) away))
lost_comes_ok grant first second third a b d (Err e) one two away = tt

-- ---- all sessions

pub rests_none : (hub : HubView) (a : Option WireView) → Both a a (λ before now. Rests hub before → Rests hub now)
rests_none hub None = tt
rests_none hub (Some wire) = λ rests. rests

pub rests_then : (first second third : HubView) (a b d : Option WireView) → Both a b (λ before now. Rests first before → Rests second now) → Both b d (λ before now. Rests second before → Rests third now)
    → Both a d (λ before now. Rests first before → Rests third now)
rests_then first second third = both_joined (λ before now. Rests first before → Rests second now) (λ before now. Rests second before → Rests third now) (λ before now. Rests first before → Rests third now) (λ old between new one two rests. two (one rests))

pub comes_rests_ok : {T E : Type 0} (grant : ℕ) (old new : HubView) (a b : Option WireView) (result : Result T E) → OnOk result (Both a b (ComesToRest grant old new)) → OnOk result (Both a b (λ before now. Rests old before → Rests new now))
comes_rests_ok grant old new a b (Ok x) comes = both_map a b comes (λ before now one rests. one.all (λ other ne. rests other))
comes_rests_ok grant old new a b (Err e) comes = tt

-- ---- the session of a connection is served

serves_both : (taken : Bool) (one other : ℕ) → (taken && (one == other)) ≡ true → (taken ≡ true) × (one ≡ other)
serves_both true one other is = (refl, eqb-true one other is)
serves_both false one other is = false_true is

-- no other open session has the connection
conn_elsewhere : (hub : HubView) (gone : List Bool) (grant conn : ℕ) (wire : WireView) → ConnsAreOpen hub gone [] wire → first_place (serves_conn conn) hub.seats ≡ Some grant → RestsBut (λ other. conn == other) hub wire → OthersRest grant hub wire
conn_elsewhere hub gone grant conn wire conns found rests other ne going = rests other (not_eq conn (conn_at hub other) (λ same. ne (conns.once other grant (inl (ap is_taken going)) (inl (serves.0)) (sym same ∙ sym serves.1)))) going
  where
    serves : (is_taken (stand_at hub grant) ≡ true) × (conn_at hub grant ≡ conn)
    serves = serves_both (is_taken (stand_at hub grant)) (conn_at hub grant) conn (place_passes (serves_conn conn) hub.seats grant no_view found)

pub served_ok : {T E : Type 0} (old new : HubView) (gone : List Bool) (grant conn : ℕ) (a b : Option WireView) (result : Result T E) → Told a (ConnsAreOpen old gone []) → first_place (serves_conn conn) old.seats ≡ Some grant
    → OnOk result (Both a b (ComesToRest grant old new)) → OnOk result (Both a b (λ before now. RestsBut (λ other. conn == other) old before → Rests new now))
served_ok old new gone grant conn a b (Ok x) conns found comes = both_by a b conns comes (λ before now open_now one rests. one.all (conn_elsewhere old gone grant conn before open_now found rests))
served_ok old new gone grant conn a b (Err e) conns found comes = tt

-- no open session has it
pub unserved : (hub : HubView) (conn : ℕ) (a : Option WireView) → first_place (serves_conn conn) hub.seats ≡ None → Both a a (λ before now. RestsBut (λ other. conn == other) hub before → Rests hub now)
unserved hub conn None none = tt
unserved hub conn (Some wire) none = λ rests grant going. rests grant (not_eq conn (conn_at hub grant) (λ same. absurd (false_true (sym (place_fails (serves_conn conn) hub.seats grant no_view refl none) ∙ serves grant going same)))) going
  where
    serves : (grant : ℕ) → stand_at hub grant ≡ stand.Going → conn ≡ conn_at hub grant → serves_conn conn (view_at hub grant) ≡ true
    serves grant going same = ap (λ now. is_taken now && (conn_at hub grant == conn)) going ∙ eq-eqb (conn_at hub grant) conn (sym same)

-- ---- a connection opened

new_rest : (grant conn port : ℕ) (old new : HubView) (wire : WireView) → grant < length old.ready → HasBegun grant conn old new → new.ready ≡ slice_set old.ready grant true → OpensNow conn port old wire
    → RestsBut (λ other. conn == other) old wire → Rests new wire
new_rest grant conn port old new wire lt has ready now rests = all_rest new grant wire others own
  where
    own : RestsAt new wire grant
    own going unready = false_true (sym unready ∙ ap (λ flags. slice_index_or flags grant false) ready ∙ get_or-set_same old.ready grant true false lt)

    others : OthersRest grant new wire
    others other ne going unready =
        let was : stand_at old other ≡ stand.Going = sym (ap (λ view. view.session.stand) (has.others other ne)) ∙ going in
        subst (λ c. wire.last c ≢ Last.Other) (sym (ap (λ view. view.conn) (has.others other ne)))
        (rests other (not_eq conn (conn_at old other) (λ same. now.elsewhere other (ap is_taken was) (sym same))) was
        (sym (get_or-set_other old.ready grant other true false ne) ∙ sym (ap (λ flags. slice_index_or flags other false) ready) ∙ unready))

pub new_rests : (grant conn port : ℕ) (old new : HubView) (a : Option WireView) → grant < length old.ready → HasBegun grant conn old new → new.ready ≡ slice_set old.ready grant true → Told a (OpensNow conn port old)
    → Both a a (λ before now. RestsBut (λ other. conn == other) old before → Rests new now)
new_rests grant conn port old new None lt has ready now = tt
new_rests grant conn port old new (Some wire) lt has ready now = new_rest grant conn port old new wire lt has ready now

pub away_rests : (conn port : ℕ) (hub : HubView) (a b : Option WireView) → Told a (OpensNow conn port hub) → Both a b (λ before now. now ≡ after_shut conn before) → Both a b (λ before now. RestsBut (λ other. conn == other) hub before → Rests hub now)
away_rests conn port hub a b now r = both_by a b now r (λ before after opens is rests grant going unready. subst (λ wire. wire.last (conn_at hub grant) ≢ Last.Other) (sym is)
    (rests grant (not_eq conn (conn_at hub grant) (λ same. opens.elsewhere grant (ap is_taken going) (sym same))) going unready))

-- ---- what was found

pub found_rests : (found : Found) (but : ℕ → Bool) (old new : HubView) (a b : Option WireView) → ((conn : ℕ) → but conn ≡ names found conn) → Both a b (λ before now. RestsBut but old before → Rests new now)
    → Both a b (λ before now. RestsBut (names found) old before → Rests new now)
found_rests found but old new a b same rests = both_map a b rests (λ before now one all. one (λ grant other. all grant (sym (same (conn_at old grant)) ∙ other)))

pub found_rests_ok : {T E : Type 0} (found : Found) (but : ℕ → Bool) (old new : HubView) (a b : Option WireView) (result : Result T E) → ((conn : ℕ) → but conn ≡ names found conn)
    → OnOk result (Both a b (λ before now. RestsBut but old before → Rests new now)) → OnOk result (Both a b (λ before now. RestsBut (names found) old before → Rests new now))
found_rests_ok found but old new a b (Ok x) same rests = found_rests found but old new a b same rests
found_rests_ok found but old new a b (Err e) same rests = tt

-- it names nobody
pub none_found : (found : Found) (hub : HubView) (a : Option WireView) → ((conn : ℕ) → names found conn ≡ false) → Both a a (λ before now. RestsBut (names found) hub before → Rests hub now)
none_found found hub None none = tt
none_found found hub (Some wire) none = λ rests grant. rests grant (none (conn_at hub grant))
