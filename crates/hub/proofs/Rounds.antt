-- A round serves the sessions that are ready.
use Rattle.std.proofs.Common.{◌≡◌, ◌≢◌, ℕ, ◌+◌, ◌≤◌, ◌<◌, Bool, true, false, List, [], ◌∷◌, length, take, refl, ap, sym, subst, ◌∙◌, arith, inl, inr, ◌⊎◌, length-take}
use Rattle.std.specs.List.{slice_index_or, slice_set}
use Rattle.std.specs.declared.option.Option.{Option}
use Rattle.std.specs.declared.option.Option.TheVariants.{None, Some}
use Rattle.std.specs.Result.{OnOk}
use Rattle.std.specs.declared.result.Result.{Result}
use Rattle.std.specs.declared.result.Result.TheVariants.{Ok, Err}
use Rattle.std.proofs.lemmas.Bool.{eq-eqb}
use Rattle.std.proofs.lemmas.List.{get_or-set_same, get_or-set_other}
use Rattle.base_types.specs.Tellings.{Both}
use Rattle.base_types.proofs.TellingLaws.{both_joined}
use Rattle.client_session.specs.declared.Stand.{Stand}
use Rattle.client_session.specs.declared.Stand.TheVariants as stand
use Rattle.client_session.specs.Sessions.{is_here, is_in_line, is_taken}
use Rattle.wire_port.specs.Steps.{Step, taken_from}
use Rattle.wire_port.specs.Offers.{Answer}
use Rattle.wire_port.specs.Wires.{WireView}
use Rattle.wire_port.specs.Calls.{after_take}
use Rattle.wire_port.proofs.Stepping.{taken_behind}
use Rattle.plays.specs.Stands.{HubView}
use Rattle.plays.proofs.Lists.{false_true}
use Rattle.session_table.specs.Tables.{TableView, KeepsTable, StaysSo, WentOn, stand_at}
use Rattle.hub.specs.Served.{AreWhole, OnlyOpened, SameSessions, conn_at, ready_as}
use Rattle.hub.specs.Rounds.{HasDone, IsGoing, IsUntouched, ServesNext, ServesOne, ServesReady, TookFrom, WasServed}
use Rattle.hub.proofs.AfterCalls.{keeps_conn}
use Rattle.hub.proofs.Giving.{inside}
use Rattle.hub.proofs.OnTheWire.{both_map, same_or}

-- ---- how a session stands

pub here_not_going : (now : Stand) → is_here now ≡ false → now ≢ stand.Going
here_not_going now away is = false_true (sym away ∙ ap is_here is)

-- ---- sessions that are not touched

pub untouched_none : (hub : HubView) (grant : ℕ) → IsUntouched hub hub grant
untouched_none hub grant = record { going = λ ready is. is; conn = refl; away = λ away. away }

pub untouched_then : (first second third : HubView) (grant : ℕ) → IsUntouched first second grant → IsUntouched second third grant → IsUntouched first third grant
untouched_then first second third grant one two = record { going = λ ready is. two.going ready (one.going ready is); conn = two.conn ∙ one.conn; away = λ away. two.away (one.away away) }

pub untouched_same : (old new : HubView) (grant : ℕ) → SameSessions old new → (stand_at old grant ≡ stand.Going → slice_index_or new.ready grant false ≡ slice_index_or old.ready grant false) → IsUntouched old new grant
untouched_same old new grant same ready = record {
  going = λ flag is. record { stand = same.stands grant ∙ is.stand; flag = ready is.stand ∙ is.flag };
  conn = same.conns grant;
  away = λ away. ap is_here (same.stands grant) ∙ away;
}

away_stays : (old new : Stand) → StaysSo old new → is_here old ≡ false → is_here new ≡ false
away_stays old stand.Free stays away = refl
away_stays old stand.Leaving stays away = refl
away_stays stand.Free stand.Going stays away = false_true ((stays refl).0)
away_stays stand.Free stand.Waits stays away = false_true ((stays refl).0)
away_stays stand.Leaving stand.Going stays away = false_true ((stays refl).1)
away_stays stand.Leaving stand.Waits stays away = false_true ((stays refl).1)
away_stays stand.Going new stays away = false_true (sym away)
away_stays stand.Waits new stays away = false_true (sym away)

-- while a session goes on
pub went_untouched : (grant : ℕ) (flag : Bool) (old new : HubView) (other : ℕ) → KeepsTable old new → WentOn grant flag old new → other ≢ grant → IsUntouched old new other
went_untouched grant flag old new other kept went ne = record {
  going = going;
  conn = keeps_conn old new kept other;
  away = away_stays (stand_at old other) (stand_at new other) (went.line other ne);
}
  where
    going : (ready : Bool) → IsGoing old other ready → IsGoing new other ready
    going ready is =
        let line : is_in_line (stand_at old other) ≡ false = ap is_in_line is.stand in
        let now : stand_at new other ≡ stand.Going = ap (λ view. view.session.stand) (went.others other ne line) ∙ is.stand in
        record { stand = now; flag = (went.ready other ne now).stayed line ∙ is.flag }

-- a session is said to be ready, or not to be
pub set_untouched : {C : Type 0} (now next : TableView C) (grant other : ℕ) (flag : Bool) → next ≡ ready_as (slice_set now.hub.ready grant flag) now → other ≢ grant → IsUntouched now.hub next.hub other
set_untouched now next grant other flag is ne = subst (λ table. IsUntouched now.hub table.hub other) (sym is)
    (untouched_same now.hub (ready_as (slice_set now.hub.ready grant flag) now).hub other (record { stands = λ grant. refl; conns = λ grant. refl; line = refl }) (λ going. get_or-set_other now.hub.ready grant other flag false ne))

-- ---- a session that has nothing more to do

pub done_set : {C : Type 0} (now next : TableView C) (grant : ℕ) → next ≡ ready_as (slice_set now.hub.ready grant false) now → grant < length now.hub.ready → stand_at now.hub grant ≡ stand.Going → HasDone next.hub grant
done_set now next grant is lt going = subst (λ table. HasDone table.hub grant) (sym is) (inr (record { stand = going; flag = get_or-set_same now.hub.ready grant false false lt }))

pub done_same : (old new : HubView) (grant : ℕ) → SameSessions old new → slice_index_or new.ready grant false ≡ false → stand_at old grant ≡ stand.Going → HasDone new grant
done_same old new grant same ready going = inr (record { stand = same.stands grant ∙ going; flag = ready })

pub done_still : (old new : HubView) (grant : ℕ) → IsUntouched old new grant → HasDone old grant → HasDone new grant
done_still old new grant still (inl away) = inl (still.away away)
done_still old new grant still (inr is) = inr (still.going false is)

-- ---- one session is served

-- one that waits, or is not open, was not to be served
pub none_due : (grant : ℕ) (old new : HubView) (a b : Option WireView) → Both a b OnlyOpened → stand_at old grant ≢ stand.Going → Both a b (ServesOne grant old new)
none_due grant old new None None known away = tt
none_due grant old new None (Some now) known away = known
none_due grant old new (Some before) None known away = known
none_due grant old new (Some before) (Some now) known away = record { own = λ going. absurd (away going) }

pub served_done : (grant : ℕ) (old new : HubView) (a b : Option WireView) → Both a b OnlyOpened → (stand_at old grant ≡ stand.Going → HasDone new grant) → Both a b (ServesOne grant old new)
served_done grant old new None None known done = tt
served_done grant old new None (Some now) known done = known
served_done grant old new (Some before) None known done = known
served_done grant old new (Some before) (Some now) known done = record { own = λ going. inr (done going) }

pub served_done_ok : {T E : Type 0} (grant : ℕ) (old new : HubView) (a b : Option WireView) (result : Result T E) → OnOk result (Both a b OnlyOpened) → OnOk result (stand_at old grant ≡ stand.Going → HasDone new grant) → OnOk result (Both a b (ServesOne grant old new))
served_done_ok grant old new a b (Ok x) known done = served_done grant old new a b known done
served_done_ok grant old new a b (Err e) known done = tt

pub lost_done : {T E : Type 0} (grant : ℕ) (old new : HubView) (result : Result T E) → OnOk result (is_here (stand_at new grant) ≡ false) → OnOk result (stand_at old grant ≡ stand.Going → HasDone new grant)
lost_done grant old new (Ok x) away = λ going. inl away
lost_done grant old new (Err e) away = tt

more_taken : (grant : ℕ) (first second third : HubView) (before between now : WireView) → conn_at second grant ≡ conn_at first grant → OnlyOpened before between → WasServed grant second third between now → WasServed grant first third before now
more_taken grant first second third before between now conn known (inl took) = inl (subst (λ c. TookFrom c before now) conn (omega (arith, known.taken (conn_at second grant), took)))
more_taken grant first second third before between now conn known (inr done) = inr done

-- after the pending replies were given
serves_after : (grant : ℕ) (first second third : HubView) (a b d : Option WireView) → SameSessions first second → Both a b OnlyOpened → Both b d (ServesOne grant second third) → Both a d (ServesOne grant first third)
serves_after grant first second third a b d same = both_joined OnlyOpened (ServesOne grant second third) (ServesOne grant first third)
    (λ before between now known one. record { own = λ going. more_taken grant first second third before between now (same.conns grant) known (one.own (same.stands grant ∙ going)) }) a b d

pub serves_after_ok : {T E : Type 0} (grant : ℕ) (first second third : HubView) (a b d : Option WireView) (result : Result T E) → SameSessions first second → Both a b OnlyOpened
    → OnOk result (Both b d (ServesOne grant second third)) → OnOk result (Both a d (ServesOne grant first third))
serves_after_ok grant first second third a b d (Ok x) same known one = serves_after grant first second third a b d same known one
serves_after_ok grant first second third a b d (Err e) same known one = tt

-- bytes came
came : (conn count : ℕ) (buffer : List ℕ) (before between now : WireView) → 1 ≤ count → count ≤ length buffer → between ≡ after_take conn (Answer.Bytes (take count buffer)) before → OnlyOpened between now → TookFrom conn before now
came conn count buffer before between now some most is known = omega (arith, known.taken conn, ap (λ wire. taken_from conn wire.steps) is, taken_behind conn before.steps (Step.Took conn (take count buffer)), own, length-take count buffer, some, most)
  where
    own : taken_from conn (Step.Took conn (take count buffer) ∷ []) ≡ length (take count buffer) + 0
    own = rw (eq-eqb conn conn refl) refl

pub came_served_ok : {T E : Type 0} (grant conn count : ℕ) (buffer : List ℕ) (old new : HubView) (a b d : Option WireView) (result : Result T E) → conn ≡ conn_at old grant → 1 ≤ count → count ≤ length buffer
    → Both a b (λ before now. now ≡ after_take conn (Answer.Bytes (take count buffer)) before) → OnOk result (Both b d OnlyOpened) → OnOk result (Both a d (ServesOne grant old new))
came_served_ok grant conn count buffer old new a b d (Ok x) conn_is some most took known = both_joined (λ before now. now ≡ after_take conn (Answer.Bytes (take count buffer)) before) OnlyOpened (ServesOne grant old new)
    (λ before between now is one. record { own = λ going. inl (subst (λ c. TookFrom c before now) conn_is (came conn count buffer before between now some most is one)) }) a b d took known
came_served_ok grant conn count buffer old new a b d (Err e) conn_is some most took known = tt

-- ---- the next session is served, where it is ready

pub next_unready : (grant : ℕ) (hub : HubView) (a : Option WireView) → slice_index_or hub.ready grant false ≡ false → Both a a (ServesNext grant hub hub)
next_unready grant hub None unready = tt
next_unready grant hub (Some wire) unready = record { own = λ is. false_true (sym unready ∙ is.flag); others = λ other ne. untouched_none hub other }

-- ---- all sessions, in order

-- those below a grant were served, those from it on were not touched
pub record ServesBelow (grant : ℕ) (old new : HubView) (before now : WireView) : Type 0 where
  pub below : (other : ℕ) → other < grant → IsGoing old other true → WasServed other old new before now
  pub above : (other : ℕ) → grant ≤ other → IsGoing old other true → IsGoing new other true × (conn_at new other ≡ conn_at old other)

pub below_none : (hub : HubView) (a : Option WireView) → Both a a (ServesBelow 0 hub hub)
below_none hub None = tt
below_none hub (Some wire) = record { below = λ other lt. absurd (omega (arith, lt)); above = λ other le is. (is, refl) }

next_below : (grant : ℕ) (first second third : HubView) (before between now : WireView) → ServesBelow grant first second before between → OnlyOpened before between → OnlyOpened between now → ServesNext grant second third between now
    → ServesBelow (grant + 1) first third before now
next_below grant first second third before between now served known still next = record { below = below; above = above }
  where
    earlier : (other : ℕ) → other ≢ grant → WasServed other first second before between → WasServed other first third before now
    earlier other ne (inl took) = inl (omega (arith, took, still.taken (conn_at first other)))
    earlier other ne (inr done) = inr (done_still second third other (next.others other ne) done)

    below : (other : ℕ) → other < grant + 1 → IsGoing first other true → WasServed other first third before now
    below other lt is = by (same_or other grant)
      where
        by : (other ≡ grant) ⊎ (other ≢ grant) → WasServed other first third before now
        by (inl same) = subst (λ g. WasServed g first third before now) (sym same)
            (let there : IsGoing second grant true × (conn_at second grant ≡ conn_at first grant) = served.above grant (omega arith) (subst (λ g. IsGoing first g true) same is) in
            more_taken grant first second third before between now there.1 known (next.own there.0))
        by (inr ne) = earlier other ne (served.below other (omega (arith, lt, ne)) is)

    above : (other : ℕ) → grant + 1 ≤ other → IsGoing first other true → IsGoing third other true × (conn_at third other ≡ conn_at first other)
    above other le is =
        let ne : other ≢ grant = λ same. absurd (omega (arith, le, same)) in
        let there : IsGoing second other true × (conn_at second other ≡ conn_at first other) = served.above other (omega (arith, le)) is in
        ((next.others other ne).going true there.0, (next.others other ne).conn ∙ there.1)

pub below_more : (grant : ℕ) (first second third : HubView) (a b d : Option WireView) → Both a b (ServesBelow grant first second) → Both a b OnlyOpened → Both b d OnlyOpened → Both b d (ServesNext grant second third)
    → Both a d (ServesBelow (grant + 1) first third)
below_more grant first second third None None None served known still next = tt
below_more grant first second third None None (Some now) served known still next = next
below_more grant first second third None (Some between) d served known still next = absurd served
below_more grant first second third (Some before) None d served known still next = absurd served
below_more grant first second third (Some before) (Some between) None served known still next = absurd next
below_more grant first second third (Some before) (Some between) (Some now) served known still next = next_below grant first second third before between now served known still next

-- all grants of a layout
pub below_all : (count : ℕ) (old new : HubView) (gone : List Bool) (a b : Option WireView) → AreWhole old gone → length old.layout.grants ≤ count → Both a b (ServesBelow count old new) → Both a b (ServesReady old new)
below_all count old new gone a b whole most served = both_map a b served (λ before now one grant is. one.below grant (omega (arith, most, inside old gone grant whole (ap is_taken is.stand))) is)
