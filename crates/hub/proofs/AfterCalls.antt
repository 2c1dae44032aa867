-- The sessions after a call of the table, and after what follows on it.
use Rattle.std.proofs.Common.{◌≡◌, ◌≢◌, ℕ, ◌<◌, Bool, true, false, ◌||◌, cond, List, [], ◌∷◌, ◌++◌, length, map, drop, refl, ap, sym, subst, ◌∙◌, arith, inl, inr, ◌⊎◌}
use Rattle.std.specs.List.{slice_index_or, slice_set}
use Rattle.std.specs.declared.option.Option.{Option}
use Rattle.std.specs.declared.option.Option.TheVariants.{None, Some}
use Rattle.std.proofs.lemmas.List.{length-map, get_or-set_other}
use Rattle.std.proofs.Math.ListN.{get_or-map}
use Rattle.base_types.specs.Tellings.{Told}
use Rattle.client_session.specs.declared.Stand.{Stand}
use Rattle.client_session.specs.declared.Stand.TheVariants as stand
use Rattle.client_session.specs.Sessions.{is_here, is_taken, is_leaving}
use Rattle.wire_port.specs.Wires.{WireView}
use Rattle.wire_port.specs.Calls.{IsOpen}
use Rattle.plays.specs.Plays.{SessionEnd, is_among}
use Rattle.plays.specs.Stands.{SeatView, HubView}
use Rattle.plays.specs.Schedule.{with_ready}
use Rattle.plays.proofs.Lists.{not_eq, false_true, own_or_same}
use Rattle.session_table.specs.Tables.{TableView, with_reply, KeepsTable, WentOn, EachHasEnded, no_view, stand_at, view_at, reply_at}
use Rattle.hub.proofs.SeatLists.{length-set}
use Rattle.hub.proofs.OnTheWire.{same_or}
use Rattle.hub.specs.Served.{AreWhole, AreCalm, settled, AreFlagged, AreQuiet, AreLeft, AreFree, ConnIsOpen, ConnsAreOpen, IsInUse, SameSessions, conn_at, grants_of, is_gone, quieted, with_seats, ready_as}

-- ---- what a call of the table keeps

pub keeps_conn : (old new : HubView) → KeepsTable old new → (grant : ℕ) → conn_at new grant ≡ conn_at old grant
keeps_conn old new kept grant = sym (get_or-map (λ view. view.conn) new.seats grant no_view) ∙ ap (λ conns. slice_index_or conns grant no_view.conn) kept.conns ∙ get_or-map (λ view. view.conn) old.seats grant no_view

pub keeps_length : (old new : HubView) → KeepsTable old new → length new.seats ≡ length old.seats
keeps_length old new kept = sym (length-map new.seats (λ view. view.conn)) ∙ ap length kept.conns ∙ length-map old.seats (λ view. view.conn)

pub keeps_whole : (old new : HubView) (gone : List Bool) → KeepsTable old new → AreWhole old gone → AreWhole new gone
keeps_whole old new gone kept is = record {
  seats = keeps_length old new kept ∙ is.seats ∙ ap (λ layout. length layout.grants) (sym kept.layout);
  ready = kept.ready ∙ is.ready ∙ ap (λ layout. length layout.grants) (sym kept.layout);
  flags = is.flags ∙ ap (λ layout. length layout.grants) (sym kept.layout);
}

-- ---- the sessions that ended in it

dropped_front : {A : Type 0} (xs ys : List A) → drop (length xs) (xs ++ ys) ≡ ys
dropped_front [] ys = refl
dropped_front (x ∷ xs) ys = dropped_front xs ys

pub ends_are : (grant : ℕ) (gone : Bool) (old new : HubView) (went : WentOn grant gone old new) → drop (length old.ended) new.ended ≡ went.ends
ends_are grant gone old new went = ap (drop (length old.ended)) went.ended ∙ dropped_front old.ended went.ends

are_free : (old new : HubView) (ends : List SessionEnd) → KeepsTable old new → EachHasEnded old new ends → AreFree new ends
are_free old new [] kept each = tt
are_free old new (ended ∷ more) kept each = (record { there = subst (λ n. ended.grant < n) (sym (keeps_length old new kept)) each.0.there; free = each.0.free; conn = each.0.conn ∙ sym (keeps_conn old new kept ended.grant) }, are_free old new more kept each.1)

pub went_left : (grant : ℕ) (gone : Bool) (old new : HubView) → KeepsTable old new → WentOn grant gone old new → AreLeft new (drop (length old.ended) new.ended)
went_left grant gone old new kept went = subst (AreLeft new) (sym (ends_are grant gone old new went)) (record { free = are_free old new went.ends kept went.each; once = went.once })

-- ---- the flags

pub went_flagged : (grant : ℕ) (flag : Bool) (old new : HubView) (gone : List Bool) → WentOn grant flag old new → is_gone gone grant ≡ flag
    → ((other : ℕ) → other ≢ grant → is_taken (stand_at old other) ≡ true → is_leaving (stand_at old other) ≡ is_gone gone other) → AreFlagged new gone
went_flagged grant flag old new gone went own others other taken = by (same_or other grant)
  where
    by : (other ≡ grant) ⊎ (other ≢ grant) → is_leaving (stand_at new other) ≡ is_gone gone other
    by (inl is) = subst (λ g. is_leaving (stand_at new g) ≡ is_gone gone g) (sym is) (went.own (subst (λ g. is_taken (stand_at new g) ≡ true) is taken) ∙ sym own)
    by (inr ne) = (went.line other ne taken).1 ∙ others other ne (went.line other ne taken).0

-- ---- the connections in use

among_open : (old new : HubView) (ends : List SessionEnd) (grant : ℕ) → EachHasEnded old new ends → is_among grant (grants_of ends) ≡ true → is_taken (stand_at old grant) ≡ true
among_open old new [] grant each among = false_true among
among_open old new (ended ∷ more) grant each among = by (same_or ended.grant grant) (among_open old new more grant each.1)
  where
    by : (ended.grant ≡ grant) ⊎ (ended.grant ≢ grant) → (is_among grant (grants_of more) ≡ true → is_taken (stand_at old grant) ≡ true) → is_taken (stand_at old grant) ≡ true
    by (inl is) later = subst (λ g. is_taken (stand_at old g) ≡ true) is each.0.open_before
    by (inr ne) later = later (sym (ap (λ b. b || is_among grant (grants_of more)) (not_eq ended.grant grant ne)) ∙ among)

pub went_used : (grant : ℕ) (flag : Bool) (old new : HubView) (went : WentOn grant flag old new) → is_taken (stand_at old grant) ≡ true → (other : ℕ) → IsInUse new went.ends other → IsInUse old [] other
went_used grant flag old new went open_now other (inl taken) = by (same_or other grant)
  where
    by : (other ≡ grant) ⊎ (other ≢ grant) → IsInUse old [] other
    by (inl is) = inl (subst (λ g. is_taken (stand_at old g) ≡ true) (sym is) open_now)
    by (inr ne) = inl (went.line other ne taken).0
went_used grant flag old new went open_now other (inr among) = inl (among_open old new went.ends other went.each among)

pub went_open : (grant : ℕ) (flag : Bool) (old new : HubView) (gone : List Bool) (wire : WireView) → KeepsTable old new → WentOn grant flag old new → is_taken (stand_at old grant) ≡ true
    → ConnsAreOpen old gone [] wire → ConnsAreOpen new gone (drop (length old.ended) new.ended) wire
went_open grant flag old new gone wire kept went open_now conns = subst (λ ends. ConnsAreOpen new gone ends wire) (sym (ends_are grant flag old new went)) (record {
  each = λ other used. subst (λ conn. ConnIsOpen wire conn (is_gone gone other)) (sym (keeps_conn old new kept other)) (conns.each other (went_used grant flag old new went open_now other used));
  once = λ one other used_one used_other same. conns.once one other (went_used grant flag old new went open_now one used_one) (went_used grant flag old new went open_now other used_other)
      (sym (keeps_conn old new kept one) ∙ same ∙ keeps_conn old new kept other);
})

pub told_went_open : (grant : ℕ) (flag : Bool) (old new : HubView) (gone : List Bool) (a : Option WireView) → KeepsTable old new → WentOn grant flag old new → is_taken (stand_at old grant) ≡ true
    → Told a (ConnsAreOpen old gone []) → Told a (ConnsAreOpen new gone (drop (length old.ended) new.ended))
told_went_open grant flag old new gone None kept went open_now conns = tt
told_went_open grant flag old new gone (Some wire) kept went open_now conns = went_open grant flag old new gone wire kept went open_now conns

-- ---- the same sessions

pub same_flagged : (old new : HubView) (gone : List Bool) → SameSessions old new → AreFlagged old gone → AreFlagged new gone
same_flagged old new gone same flagged grant taken = ap is_leaving (same.stands grant) ∙ flagged grant (sym (ap is_taken (same.stands grant)) ∙ taken)

same_used : (old new : HubView) (left : List SessionEnd) (grant : ℕ) → SameSessions old new → IsInUse new left grant → IsInUse old left grant
same_used old new left grant same (inl taken) = inl (sym (ap is_taken (same.stands grant)) ∙ taken)
same_used old new left grant same (inr among) = inr among

pub same_open : (old new : HubView) (gone : List Bool) (left : List SessionEnd) (a : Option WireView) → SameSessions old new → Told a (ConnsAreOpen old gone left) → Told a (ConnsAreOpen new gone left)
same_open old new gone left None same conns = tt
same_open old new gone left (Some wire) same conns = record {
  each = λ grant used. subst (λ conn. ConnIsOpen wire conn (is_gone gone grant)) (sym (same.conns grant)) (conns.each grant (same_used old new left grant same used));
  once = λ one other used_one used_other is. conns.once one other (same_used old new left one same used_one) (same_used old new left other same used_other) (sym (same.conns one) ∙ is ∙ same.conns other);
}

-- ---- all that are not there are quiet

quiet_stand : (view : SeatView) → (quieted view).session.stand ≡ view.session.stand
quiet_stand view = go (is_here view.session.stand)
  where
    go : (b : Bool) → (cond b view (record view { session = record view.session { reply = [] } })).session.stand ≡ view.session.stand
    go true = refl
    go false = refl

quiet_conn : (view : SeatView) → (quieted view).conn ≡ view.conn
quiet_conn view = go (is_here view.session.stand)
  where
    go : (b : Bool) → (cond b view (record view { session = record view.session { reply = [] } })).conn ≡ view.conn
    go true = refl
    go false = refl

quiet_reply : (view : SeatView) → is_here view.session.stand ≡ false → (quieted view).session.reply ≡ []
quiet_reply view h = rw h refl

pub quiet_view : {C : Type 0} (table : TableView C) (grant : ℕ) → view_at (with_seats (map quieted table.hub.seats) table).hub grant ≡ quieted (view_at table.hub grant)
quiet_view table grant = get_or-map quieted table.hub.seats grant no_view

pub quiet_same : {C : Type 0} (table : TableView C) → SameSessions table.hub (with_seats (map quieted table.hub.seats) table).hub
quiet_same table = record {
  stands = λ grant. ap (λ view. view.session.stand) (quiet_view table grant) ∙ quiet_stand (view_at table.hub grant);
  conns = λ grant. ap (λ view. view.conn) (quiet_view table grant) ∙ quiet_conn (view_at table.hub grant);
  line = refl;
}

pub all_quiet : {C : Type 0} (table : TableView C) → AreQuiet (with_seats (map quieted table.hub.seats) table).hub
all_quiet table grant away = ap (λ view. view.session.reply) (quiet_view table grant)
    ∙ quiet_reply (view_at table.hub grant) (sym (ap is_here (ap (λ view. view.session.stand) (quiet_view table grant) ∙ quiet_stand (view_at table.hub grant))) ∙ away)

-- ---- what follows on a call of the table

pub settled_same : {C : Type 0} (table : TableView C) (earlier : ℕ) → SameSessions table.hub (settled earlier table).hub
settled_same table earlier = record { stands = (quiet_same table).stands; conns = (quiet_same table).conns; line = refl }

pub told_settled : {C : Type 0} (table : TableView C) (earlier : ℕ) (gone : List Bool) (a : Option WireView) → Told a (ConnsAreOpen table.hub gone []) → Told a (ConnsAreOpen (settled earlier table).hub gone [])
told_settled table earlier gone a = same_open table.hub (settled earlier table).hub gone [] a (settled_same table earlier)

length-readied : (flag : Bool) (grants : List ℕ) (ready : List Bool) → length (with_ready flag grants ready) ≡ length ready
length-readied flag [] ready = refl
length-readied flag (grant ∷ grants) ready = length-readied flag grants (slice_set ready grant flag) ∙ length-set ready grant flag

pub ready_whole : {C : Type 0} (table : TableView C) (grants : List ℕ) (gone : List Bool) → AreWhole table.hub gone → AreWhole (ready_as (with_ready false grants table.hub.ready) table).hub gone
ready_whole table grants gone is = record { seats = is.seats; ready = length-readied false grants table.hub.ready ∙ is.ready; flags = is.flags }

pub settled_whole : {C : Type 0} (table : TableView C) (earlier : ℕ) (gone : List Bool) → AreWhole table.hub gone → AreWhole (settled earlier table).hub gone
settled_whole table earlier gone is = record { seats = length-map table.hub.seats quieted ∙ is.seats; ready = length-readied false (grants_of (drop earlier table.hub.ended)) table.hub.ready ∙ is.ready; flags = is.flags }

pub settled_calm : {C : Type 0} (table : TableView C) (earlier : ℕ) (gone : List Bool) → table.hub.broken ≡ false → AreFlagged table.hub gone → AreCalm (settled earlier table).hub gone
settled_calm table earlier gone fit flagged = record {
  fit = fit;
  flagged = same_flagged table.hub (settled earlier table).hub gone (settled_same table earlier) flagged;
  quiet = all_quiet table;
}

-- one session more is ready, or is not: nothing else changes
pub set_whole : {C : Type 0} (table : TableView C) (grant : ℕ) (flag : Bool) (gone : List Bool) → AreWhole table.hub gone → AreWhole (ready_as (slice_set table.hub.ready grant flag) table).hub gone
set_whole table grant flag gone is = record { seats = is.seats; ready = length-set table.hub.ready grant flag ∙ is.ready; flags = is.flags }

pub set_calm : {C : Type 0} (table : TableView C) (ready : List Bool) (gone : List Bool) → AreCalm table.hub gone → AreCalm (ready_as ready table).hub gone
set_calm table ready gone is = record { fit = is.fit; flagged = is.flagged; quiet = is.quiet }

pub set_open : {C : Type 0} (table : TableView C) (ready : List Bool) (gone : List Bool) (a : Option WireView) → Told a (ConnsAreOpen table.hub gone []) → Told a (ConnsAreOpen (ready_as ready table).hub gone [])
set_open table ready gone a = same_open table.hub (ready_as ready table).hub gone [] a (record { stands = λ grant. refl; conns = λ grant. refl; line = refl })

-- a session that is going has its peer
pub going_flagged : (hub : HubView) (gone : List Bool) (grant : ℕ) → AreFlagged hub gone → stand_at hub grant ≡ stand.Going → is_gone gone grant ≡ false
going_flagged hub gone grant flagged is = sym (flagged grant (ap is_taken is)) ∙ ap is_leaving is

here_taken : (now : Stand) → is_here now ≡ true → is_taken now ≡ true
here_taken stand.Free h = h
here_taken stand.Going h = refl
here_taken stand.Waits h = refl
here_taken stand.Leaving h = refl

pub here_open : (hub : HubView) (grant : ℕ) → is_here (stand_at hub grant) ≡ true → is_taken (stand_at hub grant) ≡ true
here_open hub grant = here_taken (stand_at hub grant)

-- ---- all of it in one

pub left_from : (grant : ℕ) (flag : Bool) (old new : HubView) (earlier : ℕ) → earlier ≡ length old.ended → KeepsTable old new → WentOn grant flag old new → AreLeft new (drop earlier new.ended)
left_from grant flag old new earlier is kept went = subst (λ n. AreLeft new (drop n new.ended)) (sym is) (went_left grant flag old new kept went)

pub open_from : (grant : ℕ) (flag : Bool) (old new : HubView) (gone : List Bool) (a : Option WireView) (earlier : ℕ) → earlier ≡ length old.ended → KeepsTable old new → WentOn grant flag old new
    → is_taken (stand_at old grant) ≡ true → Told a (ConnsAreOpen old gone []) → Told a (ConnsAreOpen new gone (drop earlier new.ended))
open_from grant flag old new gone a earlier is kept went open_now conns = subst (λ n. Told a (ConnsAreOpen new gone (drop n new.ended))) (sym is) (told_went_open grant flag old new gone a kept went open_now conns)

pub whole_then : {C : Type 0} (table now : TableView C) (earlier : ℕ) (gone : List Bool) → now ≡ settled earlier table → AreWhole table.hub gone → AreWhole now.hub gone
whole_then table now earlier gone is whole = subst (λ t. AreWhole t.hub gone) (sym is) (settled_whole table earlier gone whole)

pub calm_then : {C : Type 0} (table now : TableView C) (earlier : ℕ) (gone : List Bool) → now ≡ settled earlier table → table.hub.broken ≡ false → AreFlagged table.hub gone → AreCalm now.hub gone
calm_then table now earlier gone is fit flagged = subst (λ t. AreCalm t.hub gone) (sym is) (settled_calm table earlier gone fit flagged)

pub whole_set : {C : Type 0} (table now : TableView C) (grant : ℕ) (flag : Bool) (gone : List Bool) → now ≡ ready_as (slice_set table.hub.ready grant flag) table → AreWhole table.hub gone → AreWhole now.hub gone
whole_set table now grant flag gone is whole = subst (λ t. AreWhole t.hub gone) (sym is) (set_whole table grant flag gone whole)

pub calm_set : {C : Type 0} (table now : TableView C) (ready gone : List Bool) → now ≡ ready_as ready table → AreCalm table.hub gone → AreCalm now.hub gone
calm_set table now ready gone is calm = subst (λ t. AreCalm t.hub gone) (sym is) (set_calm table ready gone calm)

pub open_set : {C : Type 0} (table now : TableView C) (ready gone : List Bool) (a : Option WireView) → now ≡ ready_as ready table → Told a (ConnsAreOpen table.hub gone []) → Told a (ConnsAreOpen now.hub gone [])
open_set table now ready gone a is conns = subst (λ t. Told a (ConnsAreOpen t.hub gone [])) (sym is) (set_open table ready gone a conns)

pub flags_whole : (hub : HubView) (gone : List Bool) (grant : ℕ) (flag : Bool) → AreWhole hub gone → AreWhole hub (slice_set gone grant flag)
flags_whole hub gone grant flag is = record { seats = is.seats; ready = is.ready; flags = length-set gone grant flag ∙ is.flags }

-- ---- a reply was given

reply_stand : (hub : HubView) (at : ℕ) (reply : List ℕ) (grant : ℕ) → (stand_at (with_reply at reply hub) grant ≡ stand_at hub grant) × (conn_at (with_reply at reply hub) grant ≡ conn_at hub grant)
reply_stand hub at reply grant = by (own_or_same hub.seats at (record (view_at hub at) { session = record (view_at hub at).session { reply = reply } }) no_view) (same_or grant at)
  where
    view : SeatView
    view = record (view_at hub at) { session = record (view_at hub at).session { reply = reply } }

    by : (slice_index_or (slice_set hub.seats at view) at no_view ≡ view) ⊎ (slice_index_or (slice_set hub.seats at view) at no_view ≡ view_at hub at) → (grant ≡ at) ⊎ (grant ≢ at)
        → (stand_at (with_reply at reply hub) grant ≡ stand_at hub grant) × (conn_at (with_reply at reply hub) grant ≡ conn_at hub grant)
    by own (inr ne) = (ap (λ v. v.session.stand) (get_or-set_other hub.seats at grant view no_view ne), ap (λ v. v.conn) (get_or-set_other hub.seats at grant view no_view ne))
    by (inl own) (inl is) = subst (λ g. (stand_at (with_reply at reply hub) g ≡ stand_at hub g) × (conn_at (with_reply at reply hub) g ≡ conn_at hub g)) (sym is) (ap (λ v. v.session.stand) own, ap (λ v. v.conn) own)
    by (inr own) (inl is) = subst (λ g. (stand_at (with_reply at reply hub) g ≡ stand_at hub g) × (conn_at (with_reply at reply hub) g ≡ conn_at hub g)) (sym is) (ap (λ v. v.session.stand) own, ap (λ v. v.conn) own)

pub reply_same : (hub : HubView) (at : ℕ) (reply : List ℕ) → SameSessions hub (with_reply at reply hub)
reply_same hub at reply = record { stands = λ grant. (reply_stand hub at reply grant).0; conns = λ grant. (reply_stand hub at reply grant).1; line = refl }

-- ---- a reply that is left to give is left to a peer that is there

pub reply_here : (hub : HubView) (gone : List Bool) (grant : ℕ) → AreCalm hub gone → 0 < length (reply_at hub grant) → is_here (stand_at hub grant) ≡ true
reply_here hub gone grant calm some = by (is_here (stand_at hub grant)) refl
  where
    by : (b : Bool) → is_here (stand_at hub grant) ≡ b → b ≡ true
    by true is = refl
    by false is = absurd (omega (arith, ap length (calm.quiet grant is)))

here_stays : (now : Stand) → is_here now ≡ true → is_leaving now ≡ false
here_stays stand.Free h = refl
here_stays stand.Going h = refl
here_stays stand.Waits h = refl
here_stays stand.Leaving h = false_true h

pub here_is_open : (hub : HubView) (gone : List Bool) (grant conn : ℕ) (a : Option WireView) → AreCalm hub gone → is_here (stand_at hub grant) ≡ true → conn ≡ conn_at hub grant
    → Told a (ConnsAreOpen hub gone []) → Told a (IsOpen conn)
here_is_open hub gone grant conn None calm here is conns = tt
here_is_open hub gone grant conn (Some wire) calm here is conns =
    let open_now : ConnIsOpen wire (conn_at hub grant) (is_gone gone grant) = conns.each grant (inl (here_open hub grant here)) in
    subst (λ c. IsOpen c wire) (sym is) (record { opened = open_now.opened; not_gone = open_now.gone_is ∙ sym (calm.flagged grant (here_open hub grant here)) ∙ here_stays (stand_at hub grant) here; not_shut = open_now.not_shut })
