-- Each grant's seat, once it has finished, is what the grant's own events make of a private chain alone.
use Rattle.std.proofs.Common.{◌≡◌, ◌≢◌, ℕ, zero, suc, ◌<◌, Bool, true, false, not, ◌&&◌, ◌||◌, cond, List, [], ◌∷◌, ◌++◌, length, refl, ap, sym, ◌∙◌, arith, inl, inr, ◌⊎◌, nat_eq, subst, Some, None, map, append_assoc}
use Rattle.std.specs.Option.{option_map}
use Rattle.std.specs.declared.option.Option.{Option}
use Rattle.std.specs.List.{slice_index_or, list_any, filter_map, cons_option}
use Rattle.std.proofs.lemmas.Bool.{eqb-true, eq-eqb}
use Rattle.std.proofs.lemmas.Bool.Decides.{eqb_tells}
use Rattle.std.proofs.lemmas.List.{append-nil, get_or-set_same, get_or-set_other, length-set}
use Rattle.std.proofs.lemmas.List.Elements.{filter_map-append}
use Rattle.std.proofs.lemmas.List.Folds.{list_any-append}
use Rattle.grant_table.specs.Layouts.{GrantShape, first_place, grant_of}
use Rattle.client_session.specs.Seats.{Seat, steps_left, finished, IsFinished, opens_next, rises_next}
use Rattle.client_session.specs.Acts.{Act}
use Rattle.client_session.specs.Acts.Act.{Rise}
use Rattle.tap_states.specs.States.{is_capture_dr}
use Rattle.client_session.specs.Private.{Event, opened, is_live, received, took, dropped, after_event, Replies, all_replies}
use Rattle.client_session.proofs.Later.{finished_stays, finished-advanced, took_early, dropped_early}
use Rattle.client_session.proofs.Joins.{after_events-append}
use Rattle.client_session.proofs.Growth.{IsShut, shut_advanced, Grow, replies_grow}
use Rattle.wire_port.specs.Steps.{Step, opens, opens_once}
use Rattle.wire_port.specs.Steps.Step.{Opened, Took, Gone, Shut}
use Rattle.plays.specs.Plays.{Setting, Play, seat_at, no_seat, with_seat, seat_of, start, is_among, is_waiting, moved, change_by_opening, change_of_live, after_change, live_grant, after_step, after_steps, played}
use Rattle.plays.specs.Alone.{conns_of, event_of, events, private, replies_in, replies_to, IsPrefix}
use Rattle.plays.specs.Laws.{IsAsAlone, WaitsBehind}
use Rattle.plays.proofs.Lists.{false_true, not_eq, among-append}
use Rattle.client_session.proofs.Opening.{opens_is}
use Rattle.plays.proofs.Waiting.{Ordered}
use Rattle.plays.proofs.Serving.{Settled, settled_moved, keeps_moved, length_moved, behind_another}
use Rattle.plays.proofs.Moving.{holds_moved}
use Rattle.plays.proofs.Admitted.{conns_advanced, live_among, took_dead, dropped_dead, Unopened, unheard, took_conns, dropped_conns}

-- what holds between two steps, after these steps
pub record Isolated (setting : Setting) (steps : List Step) (play : Play) : Type 0 where
  pub settled : Settled play
  pub count : length play.seats ≡ length setting.layout.grants
  pub alone : (g : ℕ) → finished (seat_at play g) ≡ private setting g (events play g steps)
  pub known : (g c : ℕ) → is_among c (conns_of (seat_at play g)) ≡ true → list_any (opens c) steps ≡ true
  pub apart : (g k c : ℕ) → is_among c (conns_of (seat_at play g)) ≡ true → is_among c (conns_of (seat_at play k)) ≡ true → g ≡ k
  pub shut : (g : ℕ) → IsShut (seat_at play g)

-- ---- the seats before any step

pub record Free (seat : Seat) : Type 0 where
  pub going : seat.going ≡ false
  pub conns : conns_of seat ≡ []
  pub shut : seat.chain.scan_open ≡ false

free_at : (setting : Setting) (grants : List GrantShape) (g : ℕ) → Free (slice_index_or (map (seat_of setting) grants) g no_seat)
free_at setting [] g = record { going = refl; conns = refl; shut = refl }
free_at setting (shape ∷ grants) zero = record { going = refl; conns = refl; shut = refl }
free_at setting (shape ∷ grants) (suc g) = free_at setting grants g

pub start_free : (setting : Setting) (g : ℕ) → Free (seat_at (start setting) g)
start_free setting g = free_at setting setting.layout.grants g

pub idle_finished : (seat : Seat) → seat.going ≡ false → IsFinished seat
idle_finished seat h = rw h refl

length_map : (setting : Setting) (grants : List GrantShape) → length (map (seat_of setting) grants) ≡ length grants
length_map setting [] = refl
length_map setting (shape ∷ grants) = ap suc (length_map setting grants)

events_none : (steps : List Step) → filter_map (event_of []) steps ≡ []
events_none [] = refl
events_none (Opened c port ∷ steps) = events_none steps
events_none (Took c b ∷ steps) = events_none steps
events_none (Gone c ∷ steps) = events_none steps
events_none (Shut c ∷ steps) = events_none steps

start_isolated : (setting : Setting) → Isolated setting [] (start setting)
start_isolated setting = record {
  settled = record {
    calm = record {
      ordered = record { waits = λ g h. false_true h; holds = λ g h. false_true h };
      rest = λ g. inl (idle_finished (seat_at (start setting) g) (start_free setting g).going);
    };
    none = refl;
  };
  count = length_map setting setting.layout.grants;
  alone = λ g. finished_stays (seat_at (start setting) g) (idle_finished (seat_at (start setting) g) (start_free setting g).going);
  known = λ g c h. false_true (subst (λ conns. is_among c conns ≡ true) (start_free setting g).conns h);
  apart = λ g k c h i. false_true (subst (λ conns. is_among c conns ≡ true) (start_free setting g).conns h);
  shut = λ g h. (start_free setting g).shut;
}

-- ---- what a step brings a grant

private-snoc : (setting : Setting) (g : ℕ) (es : List Event) (event : Event) → private setting g (es ++ event ∷ []) ≡ finished (after_event event (private setting g es))
private-snoc setting g es event = after_events-append es (event ∷ []) (seat_at (start setting) g)

-- the events after one more step
abbrev heard_as : List ℕ → List Step → Step → List Event
heard_as conns steps step = filter_map (event_of conns) (steps ++ step ∷ [])

heard-snoc : (conns : List ℕ) (steps : List Step) (step : Step) → heard_as conns steps step ≡ filter_map (event_of conns) steps ++ cons_option (event_of conns step) []
heard-snoc conns steps step = filter_map-append (event_of conns) steps (step ∷ [])

heard_none : (conns : List ℕ) (steps : List Step) (step : Step) → event_of conns step ≡ None → heard_as conns steps step ≡ filter_map (event_of conns) steps
heard_none conns steps step e = heard-snoc conns steps step ∙ ap (λ o. filter_map (event_of conns) steps ++ cons_option o []) e ∙ append-nil (filter_map (event_of conns) steps)

heard_one : (conns : List ℕ) (steps : List Step) (step : Step) (event : Event) → event_of conns step ≡ Some event → heard_as conns steps step ≡ filter_map (event_of conns) steps ++ event ∷ []
heard_one conns steps step event e = heard-snoc conns steps step ∙ ap (λ o. filter_map (event_of conns) steps ++ cons_option o []) e

known_more : (steps : List Step) (step : Step) (c : ℕ) → list_any (opens c) steps ≡ true → list_any (opens c) (steps ++ step ∷ []) ≡ true
known_more steps step c h = list_any-append (opens c) steps (step ∷ []) ∙ rw h refl

-- a step that brings no grant anything, and does nothing
nothing_brought : (setting : Setting) (steps : List Step) (step : Step) (play : Play) → Isolated setting steps play → ((g : ℕ) → event_of (conns_of (seat_at play g)) step ≡ None) → Isolated setting (steps ++ step ∷ []) play
nothing_brought setting steps step play i none = record {
  settled = i.settled;
  count = i.count;
  alone = λ g. i.alone g ∙ ap (private setting g) (sym (heard_none (conns_of (seat_at play g)) steps step (none g)));
  known = λ g c h. known_more steps step c (i.known g c h);
  apart = i.apart;
  shut = i.shut;
}

-- ---- bytes and drops

-- what is needed of bytes or a drop of a connection
pub record Brought (c : ℕ) (event : Event) (change : Seat → Seat) : Type 0 where
  pub told_is : (seat : Seat) → after_event event seat ≡ change seat
  pub early : (seat : Seat) → finished (change (finished seat)) ≡ finished (change seat)
  pub dead : (seat : Seat) → is_live c seat ≡ false → change seat ≡ seat
  pub conns : (seat : Seat) → conns_of (change seat) ≡ conns_of seat
  pub opening : (seat : Seat) → opens_next (change seat) ≡ opens_next seat
  pub scan : (seat : Seat) → (change seat).chain.scan_open ≡ seat.chain.scan_open
  pub going : (seat : Seat) → (change seat).going ≡ seat.going

rises_given : (b : List ℕ) (seat : Seat) (acts : List Act) → rises_next acts (received b seat) ≡ rises_next acts seat
rises_given b seat [] = refl
rises_given b seat (Rise tms tdi ∷ acts) = refl
rises_given b seat (act ∷ acts) = refl

rises_marked : (seat : Seat) (acts : List Act) → rises_next acts (record seat { gone = true }) ≡ rises_next acts seat
rises_marked seat [] = refl
rises_marked seat (Rise tms tdi ∷ acts) = refl
rises_marked seat (act ∷ acts) = refl

pub took_is_brought : (c : ℕ) (b : List ℕ) → Brought c (Event.Took c b) (took c b)
took_is_brought c b = record {
  told_is = λ seat. refl;
  early = took_early c b;
  dead = took_dead c b;
  conns = took_conns c b;
  opening = λ seat. a seat (is_live c seat && not seat.gone);
  scan = λ seat. d seat (is_live c seat && not seat.gone);
  going = λ seat. e seat (is_live c seat && not seat.gone);
}
  where
    a : (seat : Seat) (t : Bool) → opens_next (cond t (received b seat) seat) ≡ opens_next seat
    a seat true = ap (λ r. seat.going && (is_capture_dr seat.chain.state && (not seat.chain.scan_open && r))) (rises_given b seat seat.acts)
    a seat false = refl

    d : (seat : Seat) (t : Bool) → (cond t (received b seat) seat).chain.scan_open ≡ seat.chain.scan_open
    d seat true = refl
    d seat false = refl

    e : (seat : Seat) (t : Bool) → (cond t (received b seat) seat).going ≡ seat.going
    e seat true = refl
    e seat false = refl

pub dropped_is_brought : (c : ℕ) → Brought c (Event.Gone c) (dropped c)
dropped_is_brought c = record {
  told_is = λ seat. refl;
  early = dropped_early c;
  dead = dropped_dead c;
  conns = dropped_conns c;
  opening = λ seat. a seat (is_live c seat);
  scan = λ seat. d seat (is_live c seat);
  going = λ seat. e seat (is_live c seat);
}
  where
    a : (seat : Seat) (t : Bool) → opens_next (cond t (record seat { gone = true }) seat) ≡ opens_next seat
    a seat true = ap (λ r. seat.going && (is_capture_dr seat.chain.state && (not seat.chain.scan_open && r))) (rises_marked seat seat.acts)
    a seat false = refl

    d : (seat : Seat) (t : Bool) → (cond t (record seat { gone = true }) seat).chain.scan_open ≡ seat.chain.scan_open
    d seat true = refl
    d seat false = refl

    e : (seat : Seat) (t : Bool) → (cond t (record seat { gone = true }) seat).going ≡ seat.going
    e seat true = refl
    e seat false = refl

-- the first place at which a test passes
pub first_place-some : (test : Seat → Bool) (seats : List Seat) (g : ℕ) → first_place test seats ≡ Some g → (g < length seats) × (test (slice_index_or seats g no_seat) ≡ true)
first_place-some test [] g e = absurd (let q : None ≡ Some g = e in cc)
first_place-some test (seat ∷ seats) g e = by (test seat) (first_place test seats) refl refl e (λ k h. first_place-some test seats k h)
  where
    by : (t : Bool) (o : Option ℕ) → test seat ≡ t → first_place test seats ≡ o → cond t (Some 0) (option_map suc o) ≡ Some g
        → ((k : ℕ) → first_place test seats ≡ Some k → (k < length seats) × (test (slice_index_or seats k no_seat) ≡ true)) → (g < suc (length seats)) × (test (slice_index_or (seat ∷ seats) g no_seat) ≡ true)
    by true o h k q more = let z : 0 ≡ g = cc in rw (← z) (omega arith, h)
    by false None h k q more = absurd (let r : None ≡ Some g = q in cc)
    by false (Some n) h k q more = let z : suc n ≡ g = cc in let m = more n k in rw (← z) (omega (arith, m.0), m.1)

pub first_place-none : (test : Seat → Bool) (seats : List Seat) (g : ℕ) → test no_seat ≡ false → first_place test seats ≡ None → test (slice_index_or seats g no_seat) ≡ false
first_place-none test [] g z e = z
first_place-none test (seat ∷ seats) g z e = by (test seat) (first_place test seats) refl refl e g (λ k h. first_place-none test seats k z h)
  where
    by : (t : Bool) (o : Option ℕ) → test seat ≡ t → first_place test seats ≡ o → cond t (Some 0) (option_map suc o) ≡ None → (k : ℕ)
        → ((n : ℕ) → first_place test seats ≡ None → test (slice_index_or seats n no_seat) ≡ false) → test (slice_index_or (seat ∷ seats) k no_seat) ≡ false
    by true o h i q k more = absurd (let r : Some 0 ≡ None = q in cc)
    by false (Some n) h i q k more = absurd (let r : Some (suc n) ≡ None = q in cc)
    by false None h i q zero more = h
    by false None h i q (suc k) more = more k i

module _ (setting : Setting) (steps : List Step) (step : Step) (play : Play) (i : Isolated setting steps play) (c : ℕ) (event : Event) (change : Seat → Seat) (brings : Brought c event change)
    (is_for : (conns : List ℕ) → event_of conns step ≡ cond (is_among c conns) (Some event) None) where
  -- a grant whose live session is not the connection's
  dead_alone : (g : ℕ) → is_live c (seat_at play g) ≡ false → finished (seat_at play g) ≡ private setting g (events play g (steps ++ step ∷ []))
  dead_alone g dead = by (is_among c (conns_of (seat_at play g))) refl
    where
      conns : List ℕ
      conns = conns_of (seat_at play g)

      by : (t : Bool) → is_among c (conns_of (seat_at play g)) ≡ t → finished (seat_at play g) ≡ private setting g (events play g (steps ++ step ∷ []))
      by false h = i.alone g ∙ ap (private setting g) (sym (heard_none (conns_of (seat_at play g)) steps step (is_for (conns_of (seat_at play g)) ∙ rw h refl)))
      by true h =
          sym (
          ap (private setting g) (heard_one (conns_of (seat_at play g)) steps step event (is_for (conns_of (seat_at play g)) ∙ rw h refl))
          ∙ private-snoc setting g (events play g steps) event
          ∙ ap (λ s. finished (after_event event s)) (sym (i.alone g))
          ∙ ap finished (brings.told_is (finished (seat_at play g)))
          ∙ brings.early (seat_at play g)
          ∙ ap finished (brings.dead (seat_at play g) dead))

  -- the grant whose live session is
  live_alone : (g : ℕ) → is_live c (seat_at play g) ≡ true → finished (change (seat_at play g)) ≡ private setting g (heard_as (conns_of (seat_at play g)) steps step)
  live_alone g live =
      sym (
      ap (private setting g) (heard_one (conns_of (seat_at play g)) steps step event (is_for (conns_of (seat_at play g)) ∙ rw (live_among c (seat_at play g) live) refl))
      ∙ private-snoc setting g (events play g steps) event
      ∙ ap (λ s. finished (after_event event s)) (sym (i.alone g))
      ∙ ap finished (brings.told_is (finished (seat_at play g)))
      ∙ brings.early (seat_at play g))

  nobody : live_grant c play.seats ≡ None → Isolated setting (steps ++ step ∷ []) play
  nobody e = record {
    settled = i.settled;
    count = i.count;
    alone = λ g. dead_alone g (first_place-none (is_live c) play.seats g refl e);
    known = λ g d h. known_more steps step d (i.known g d h);
    apart = i.apart;
    shut = i.shut;
  }

  module _ (g0 : ℕ) (there : g0 < length play.seats) (live : is_live c (seat_at play g0) ≡ true) where
    changed : Play
    changed = with_seat g0 (change (seat_at play g0)) play

    own : seat_at (with_seat g0 (change (seat_at play g0)) play) g0 ≡ change (seat_at play g0)
    own = get_or-set_same play.seats g0 (change (seat_at play g0)) no_seat there

    other : (g : ℕ) → g ≢ g0 → seat_at (with_seat g0 (change (seat_at play g0)) play) g ≡ seat_at play g
    other g n = get_or-set_other play.seats g0 g (change (seat_at play g0)) no_seat n

    -- what the change keeps of its seat, it keeps of each
    same_of : {A : Type 0} (f : Seat → A) → f (change (seat_at play g0)) ≡ f (seat_at play g0) → (g : ℕ) → f (seat_at (with_seat g0 (change (seat_at play g0)) play) g) ≡ f (seat_at play g)
    same_of f h g = elim (eqb_tells g g0) [ inl e ↦ rw e.1 (ap f own ∙ h) | inr n ↦ ap f (other g n.1) ]

    conns_same : (g : ℕ) → conns_of (seat_at (moved setting g0 (with_seat g0 (change (seat_at play g0)) play)) g) ≡ conns_of (seat_at play g)
    conns_same g = keeps_moved setting conns_of conns_advanced g0 (with_seat g0 (change (seat_at play g0)) play) g ∙ same_of conns_of (brings.conns (seat_at play g0)) g

    not_other : (g : ℕ) → g ≢ g0 → is_live c (seat_at play g) ≡ false
    not_other g n = by (is_live c (seat_at play g)) refl
      where
        by : (t : Bool) → is_live c (seat_at play g) ≡ t → t ≡ false
        by true h = absurd (n (i.apart g g0 c (live_among c (seat_at play g) h) (live_among c (seat_at play g0) live)))
        by false h = refl

    alone_after : (g : ℕ) → finished (seat_at (with_seat g0 (change (seat_at play g0)) play) g) ≡ private setting g (events play g (steps ++ step ∷ []))
    alone_after g = elim (eqb_tells g g0) [
      | inl e ↦ rw e.1 (ap finished own ∙ live_alone g0 live)
      | inr n ↦ ap finished (other g n.1) ∙ dead_alone g (not_other g n.1)
    ]

    order_after : Ordered (with_seat g0 (change (seat_at play g0)) play)
    order_after = record {
      waits = λ g h. same_of opens_next (brings.opening (seat_at play g0)) g ∙ i.settled.calm.ordered.waits g h;
      holds = λ g h. same_of (λ s. s.chain.scan_open) (brings.scan (seat_at play g0)) g ∙ i.settled.calm.ordered.holds g h;
    }

    shut_after : (g : ℕ) → IsShut (seat_at (with_seat g0 (change (seat_at play g0)) play) g)
    shut_after g h =
        same_of (λ s. s.chain.scan_open) (brings.scan (seat_at play g0)) g ∙ i.shut g (sym (same_of (λ s. s.going) (brings.going (seat_at play g0)) g) ∙ h)

    brought_isolated : Isolated setting (steps ++ step ∷ []) (moved setting g0 (with_seat g0 (change (seat_at play g0)) play))
    brought_isolated = record {
      settled = settled_moved setting g0 (with_seat g0 (change (seat_at play g0)) play)
          (subst (λ n. g0 < n) (sym (length-set play.seats g0 (change (seat_at play g0)))) there) order_after
          (λ g n. elim (i.settled.calm.rest g) [ inl d ↦ inl (subst IsFinished (sym (other g n)) d) | inr w ↦ inr w ]);
      count = length_moved setting g0 (with_seat g0 (change (seat_at play g0)) play) ∙ length-set play.seats g0 (change (seat_at play g0)) ∙ i.count;
      alone = λ g. keeps_moved setting finished finished-advanced g0 (with_seat g0 (change (seat_at play g0)) play) g ∙ alone_after g
          ∙ ap (λ conns. private setting g (heard_as conns steps step)) (sym (conns_same g));
      known = λ g d h. known_more steps step d (i.known g d (subst (λ conns. is_among d conns ≡ true) (conns_same g) h));
      apart = λ g k d h l. i.apart g k d (subst (λ conns. is_among d conns ≡ true) (conns_same g) h) (subst (λ conns. is_among d conns ≡ true) (conns_same k) l);
      shut = holds_moved setting (λ g. IsShut) (λ g. shut_advanced) g0 (with_seat g0 (change (seat_at play g0)) play) shut_after;
    }

  brought_by : (o : Option ℕ) → live_grant c play.seats ≡ o → Isolated setting (steps ++ step ∷ []) (after_change setting play (change_of_live o change play))
  brought_by None e = nobody e
  brought_by (Some g0) e = let h = first_place-some (is_live c) play.seats g0 e in brought_isolated g0 h.0 h.1

-- ---- a connection opens

not_known : (setting : Setting) (steps : List Step) (play : Play) → Isolated setting steps play → (c : ℕ) → Unopened c steps → (g : ℕ) → is_among c (conns_of (seat_at play g)) ≡ false
not_known setting steps play i c fresh g = by (is_among c (conns_of (seat_at play g))) refl
  where
    by : (t : Bool) → is_among c (conns_of (seat_at play g)) ≡ t → t ≡ false
    by true h = false_true (sym fresh ∙ i.known g c h)
    by false h = refl

turned_away : (setting : Setting) (steps : List Step) (play : Play) → Isolated setting steps play → (c port : ℕ) → Unopened c steps → Isolated setting (steps ++ Opened c port ∷ []) play
turned_away setting steps play i c port fresh =
    nothing_brought setting steps (Opened c port) play i (λ g. rw (not_known setting steps play i c fresh g) refl)

conns_idle : (seat : Seat) → seat.going ≡ false → conns_of (opened 0 seat) ≡ conns_of seat ++ 0 ∷ []
conns_idle seat h = rw (h, append-nil (map (λ p. p.conn) seat.past)) refl

conns_opened : (c : ℕ) (seat : Seat) → seat.going ≡ false → conns_of (opened c seat) ≡ conns_of seat ++ c ∷ []
conns_opened c seat h = rw (h, append-nil (map (λ p. p.conn) seat.past)) refl

among_last : (d c : ℕ) (conns : List ℕ) → is_among d (conns ++ c ∷ []) ≡ true → (is_among d conns ≡ true) ⊎ (c ≡ d)
among_last d c conns h = by (is_among d conns) (nat_eq c d) refl refl (sym (among-append d conns (c ∷ [])) ∙ h)
  where
    by : (s t : Bool) → is_among d conns ≡ s → nat_eq c d ≡ t → (s || (t || false)) ≡ true → (is_among d conns ≡ true) ⊎ (c ≡ d)
    by true t e f k = inl e
    by false true e f k = inr (eqb-true c d f)
    by false false e f k = false_true k

opens_last : (c port : ℕ) (steps : List Step) → list_any (opens c) (steps ++ Opened c port ∷ []) ≡ true
opens_last c port steps = list_any-append (opens c) steps (Opened c port ∷ []) ∙ rw (eq-eqb c c refl) (or_true (list_any (opens c) steps))
  where
    or_true : (a : Bool) → (a || true) ≡ true
    or_true true = refl
    or_true false = refl

module _ (setting : Setting) (steps : List Step) (play : Play) (i : Isolated setting steps play) (c port : ℕ) (fresh : Unopened c steps)
    (g0 : ℕ) (there : g0 < length play.seats) (free : (seat_at play g0).going ≡ false) where
  own_o : seat_at (with_seat g0 (opened c (seat_at play g0)) play) g0 ≡ opened c (seat_at play g0)
  own_o = get_or-set_same play.seats g0 (opened c (seat_at play g0)) no_seat there

  other_o : (g : ℕ) → g ≢ g0 → seat_at (with_seat g0 (opened c (seat_at play g0)) play) g ≡ seat_at play g
  other_o g n = get_or-set_other play.seats g0 g (opened c (seat_at play g0)) no_seat n

  conns_moved : (g : ℕ) → conns_of (seat_at (moved setting g0 (with_seat g0 (opened c (seat_at play g0)) play)) g) ≡ conns_of (seat_at (with_seat g0 (opened c (seat_at play g0)) play) g)
  conns_moved g = keeps_moved setting conns_of conns_advanced g0 (with_seat g0 (opened c (seat_at play g0)) play) g

  conns_own : conns_of (seat_at (with_seat g0 (opened c (seat_at play g0)) play) g0) ≡ conns_of (seat_at play g0) ++ c ∷ []
  conns_own = ap conns_of own_o ∙ conns_opened c (seat_at play g0) free

  idle : IsFinished (seat_at play g0)
  idle = idle_finished (seat_at play g0) free

  -- what the grant heard before is the same with the new connection among its own
  heard_before : private setting g0 (filter_map (event_of (conns_of (seat_at play g0) ++ c ∷ [])) steps) ≡ seat_at play g0
  heard_before =
      unheard c (conns_of (seat_at play g0)) (not_known setting steps play i c fresh g0) steps (seat_at (start setting) g0) fresh
      (idle_finished (seat_at (start setting) g0) (start_free setting g0).going) (ap (is_among c) (start_free setting g0).conns)
      ∙ sym (i.alone g0) ∙ finished_stays (seat_at play g0) idle

  alone_own : finished (opened c (seat_at play g0)) ≡ private setting g0 (heard_as (conns_of (seat_at play g0) ++ c ∷ []) steps (Opened c port))
  alone_own =
      sym (
      ap (private setting g0) (heard_one (conns_of (seat_at play g0) ++ c ∷ []) steps (Opened c port) (Event.Opened c) (rw (among_it (conns_of (seat_at play g0))) refl))
      ∙ private-snoc setting g0 (filter_map (event_of (conns_of (seat_at play g0) ++ c ∷ [])) steps) (Event.Opened c)
      ∙ ap (λ s. finished (opened c s)) heard_before)
    where
      or_true : (a : Bool) → (a || true) ≡ true
      or_true true = refl
      or_true false = refl

      among_it : (conns : List ℕ) → is_among c (conns ++ c ∷ []) ≡ true
      among_it conns = among-append c conns (c ∷ []) ∙ rw (eq-eqb c c refl) (or_true (is_among c conns))

  alone_opened : (g : ℕ) → finished (seat_at (with_seat g0 (opened c (seat_at play g0)) play) g)
      ≡ private setting g (heard_as (conns_of (seat_at (with_seat g0 (opened c (seat_at play g0)) play) g)) steps (Opened c port))
  alone_opened g = elim (eqb_tells g g0) [
    | inl e ↦ rw e.1 (ap finished own_o ∙ alone_own ∙ ap (λ conns. private setting g0 (heard_as conns steps (Opened c port))) (sym conns_own))
    | inr n ↦ rw (other_o g n.1) (i.alone g
        ∙ ap (private setting g) (sym (heard_none (conns_of (seat_at play g)) steps (Opened c port) (rw (not_known setting steps play i c fresh g) refl))))
  ]

  known_opened : (g d : ℕ) → is_among d (conns_of (seat_at (with_seat g0 (opened c (seat_at play g0)) play) g)) ≡ true → list_any (opens d) (steps ++ Opened c port ∷ []) ≡ true
  known_opened g d h = elim (eqb_tells g g0) [
    | inl e ↦ elim (among_last d c (conns_of (seat_at play g0)) (subst (λ conns. is_among d conns ≡ true) (ap (λ k. conns_of (seat_at (with_seat g0 (opened c (seat_at play g0)) play) k)) e.1 ∙ conns_own) h)) [
      | inl old ↦ known_more steps (Opened c port) d (i.known g0 d old)
      | inr new ↦ subst (λ k. list_any (opens k) (steps ++ Opened c port ∷ []) ≡ true) new (opens_last c port steps)
    ]
    | inr n ↦ known_more steps (Opened c port) d (i.known g d (subst (λ s. is_among d (conns_of s) ≡ true) (other_o g n.1) h))
  ]

  -- a connection of a grant is the new one of this grant, or an old one
  old_or_new : (g d : ℕ) → is_among d (conns_of (seat_at (with_seat g0 (opened c (seat_at play g0)) play) g)) ≡ true → (is_among d (conns_of (seat_at play g)) ≡ true) ⊎ ((c ≡ d) × (g ≡ g0))
  old_or_new g d h = elim (eqb_tells g g0) [
    | inl e ↦ elim (among_last d c (conns_of (seat_at play g0)) (subst (λ conns. is_among d conns ≡ true) (ap (λ k. conns_of (seat_at (with_seat g0 (opened c (seat_at play g0)) play) k)) e.1 ∙ conns_own) h)) [
      | inl old ↦ inl (rw e.1 old)
      | inr new ↦ inr (new, e.1)
    ]
    | inr n ↦ inl (subst (λ s. is_among d (conns_of s) ≡ true) (other_o g n.1) h)
  ]

  not_new : (g d : ℕ) → c ≡ d → is_among d (conns_of (seat_at play g)) ≡ true → ⊥
  not_new g d e h = let q : false ≡ true = sym (not_known setting steps play i c fresh g) ∙ rw e h in cc

  apart_opened : (g k d : ℕ) → is_among d (conns_of (seat_at (with_seat g0 (opened c (seat_at play g0)) play) g)) ≡ true → is_among d (conns_of (seat_at (with_seat g0 (opened c (seat_at play g0)) play) k)) ≡ true → g ≡ k
  apart_opened g k d h l = by (old_or_new g d h) (old_or_new k d l)
    where
      by : (is_among d (conns_of (seat_at play g)) ≡ true) ⊎ ((c ≡ d) × (g ≡ g0)) → (is_among d (conns_of (seat_at play k)) ≡ true) ⊎ ((c ≡ d) × (k ≡ g0)) → g ≡ k
      by (inl a) (inl b) = i.apart g k d a b
      by (inl a) (inr b) = absurd (not_new g d b.0 a)
      by (inr a) (inl b) = absurd (not_new k d a.0 b)
      by (inr a) (inr b) = a.1 ∙ sym b.1

  order_opened : Ordered (with_seat g0 (opened c (seat_at play g0)) play)
  order_opened = record {
    waits = λ g h. elim (eqb_tells g g0) [
      | inl e ↦ false_true (sym free ∙ (opens_is (seat_at play g0) (subst (λ k. opens_next (seat_at play k) ≡ true) e.1 (i.settled.calm.ordered.waits g h))).going)
      | inr n ↦ rw (other_o g n.1) (i.settled.calm.ordered.waits g h)
    ];
    holds = λ g h. elim (eqb_tells g g0) [
      | inl e ↦ false_true (sym (i.shut g0 free) ∙ subst (λ k. (seat_at play k).chain.scan_open ≡ true) e.1 (i.settled.calm.ordered.holds g h))
      | inr n ↦ rw (other_o g n.1) (i.settled.calm.ordered.holds g h)
    ];
  }

  shut_opened : (g : ℕ) → IsShut (seat_at (with_seat g0 (opened c (seat_at play g0)) play) g)
  shut_opened g = elim (eqb_tells g g0) [
    | inl e ↦ rw (e.1, own_o) (λ h. absurd (let q : true ≡ false = h in cc))
    | inr n ↦ rw (other_o g n.1) (i.shut g)
  ]

  pub opened_isolated : Isolated setting (steps ++ Opened c port ∷ []) (moved setting g0 (with_seat g0 (opened c (seat_at play g0)) play))
  opened_isolated = record {
    settled = settled_moved setting g0 (with_seat g0 (opened c (seat_at play g0)) play)
        (subst (λ n. g0 < n) (sym (length-set play.seats g0 (opened c (seat_at play g0)))) there) order_opened
        (λ g n. elim (i.settled.calm.rest g) [ inl d ↦ inl (subst IsFinished (sym (other_o g n)) d) | inr w ↦ inr w ]);
    count = length_moved setting g0 (with_seat g0 (opened c (seat_at play g0)) play) ∙ length-set play.seats g0 (opened c (seat_at play g0)) ∙ i.count;
    alone = λ g. keeps_moved setting finished finished-advanced g0 (with_seat g0 (opened c (seat_at play g0)) play) g ∙ alone_opened g
        ∙ ap (λ conns. private setting g (heard_as conns steps (Opened c port))) (sym (conns_moved g));
    known = λ g d h. known_opened g d (subst (λ conns. is_among d conns ≡ true) (conns_moved g) h);
    apart = λ g k d h l. apart_opened g k d (subst (λ conns. is_among d conns ≡ true) (conns_moved g) h) (subst (λ conns. is_among d conns ≡ true) (conns_moved k) l);
    shut = holds_moved setting (λ g. IsShut) (λ g. shut_advanced) g0 (with_seat g0 (opened c (seat_at play g0)) play) shut_opened;
  }

-- ---- every play

pub first_place-within : {X : Type 0} (test : X → Bool) (xs : List X) (g : ℕ) → first_place test xs ≡ Some g → g < length xs
first_place-within test [] g e = absurd (let q : None ≡ Some g = e in cc)
first_place-within test (x ∷ xs) g e = by (test x) (first_place test xs) refl e (λ k h. first_place-within test xs k h)
  where
    by : (t : Bool) (o : Option ℕ) → first_place test xs ≡ o → cond t (Some 0) (option_map suc o) ≡ Some g → ((k : ℕ) → first_place test xs ≡ Some k → k < length xs) → g < suc (length xs)
    by true o k q more = let z : 0 ≡ g = cc in omega arith
    by false None k q more = absurd (let r : None ≡ Some g = q in cc)
    by false (Some n) k q more = let z : suc n ≡ g = cc in let m = more n k in omega (arith, m, z)

admitted_isolated : (setting : Setting) (steps : List Step) (play : Play) → Isolated setting steps play → (c port : ℕ) → Unopened c steps → (o : Option ℕ) → grant_of setting.layout port ≡ o → Isolated setting (steps ++ Opened c port ∷ []) (after_change setting play (change_by_opening o c play))
admitted_isolated setting steps play i c port fresh None e = turned_away setting steps play i c port fresh
admitted_isolated setting steps play i c port fresh (Some g0) e = by (seat_at play g0).going refl
  where
    there : g0 < length play.seats
    there = rw i.count (first_place-within (λ shape. nat_eq shape.port port) setting.layout.grants g0 e)

    by : (t : Bool) → (seat_at play g0).going ≡ t → Isolated setting (steps ++ Opened c port ∷ []) (after_change setting play (cond t None (Some (record { grant = g0; seat = opened c (seat_at play g0) }))))
    by true h = turned_away setting steps play i c port fresh
    by false h = opened_isolated setting steps play i c port fresh g0 there h

-- a step opens nothing that was opened
abbrev pub Fresh : Step → List Step → Type 0
Fresh (Opened c port) steps = Unopened c steps
Fresh (Took c b) steps = Unit {0}
Fresh (Gone c) steps = Unit {0}
Fresh (Shut c) steps = Unit {0}

step_isolated : (setting : Setting) (steps : List Step) (step : Step) (play : Play) → Isolated setting steps play → Fresh step steps → Isolated setting (steps ++ step ∷ []) (after_step setting play step)
step_isolated setting steps (Opened c port) play i fresh = admitted_isolated setting steps play i c port fresh (grant_of setting.layout port) refl
step_isolated setting steps (Took c b) play i fresh = brought_by setting steps (Took c b) play i c (Event.Took c b) (took c b) (took_is_brought c b) (λ conns. refl) (live_grant c play.seats) refl
step_isolated setting steps (Gone c) play i fresh = brought_by setting steps (Gone c) play i c (Event.Gone c) (dropped c) (dropped_is_brought c) (λ conns. refl) (live_grant c play.seats) refl
step_isolated setting steps (Shut c) play i fresh = nothing_brought setting steps (Shut c) play i (λ g. refl)

and_both : (a b : Bool) → (a && b) ≡ true → (a ≡ true) × (b ≡ true)
and_both true b h = (refl, h)
and_both false b h = false_true h

not_so : (a : Bool) → not a ≡ true → a ≡ false
not_so true h = false_true h
not_so false h = refl

or_none : (a b : Bool) → (a || b) ≡ false → (a ≡ false) × (b ≡ false)
or_none true b h = absurd (let q : true ≡ false = h in cc)
or_none false b h = (refl, h)

eq_sym : (a b : ℕ) → nat_eq a b ≡ false → nat_eq b a ≡ false
eq_sym a b h = not_eq b a (λ e. let q : false ≡ true = sym h ∙ eq-eqb a b (sym e) in false_true q)

once_fresh : (c port : ℕ) (steps rest : List Step) → opens_once (steps ++ Opened c port ∷ rest) ≡ true → Unopened c steps
once_fresh c port [] rest h = refl
once_fresh c port (Opened d p ∷ steps) rest h =
    let a = and_both (not (list_any (opens d) (steps ++ Opened c port ∷ rest))) (opens_once (steps ++ Opened c port ∷ rest)) h in
    let b = or_none (list_any (opens d) steps) (list_any (opens d) (Opened c port ∷ rest)) (sym (list_any-append (opens d) steps (Opened c port ∷ rest)) ∙ not_so (list_any (opens d) (steps ++ Opened c port ∷ rest)) a.0) in
    let e = or_none (nat_eq d c) (list_any (opens d) rest) b.1 in
    rw (eq_sym d c e.0) (once_fresh c port steps rest a.1)
once_fresh c port (Took d b ∷ steps) rest h = once_fresh c port steps rest h
once_fresh c port (Gone d ∷ steps) rest h = once_fresh c port steps rest h
once_fresh c port (Shut d ∷ steps) rest h = once_fresh c port steps rest h

fresh_step : (step : Step) (steps rest : List Step) → opens_once (steps ++ step ∷ rest) ≡ true → Fresh step steps
fresh_step (Opened c port) steps rest h = once_fresh c port steps rest h
fresh_step (Took c b) steps rest h = tt
fresh_step (Gone c) steps rest h = tt
fresh_step (Shut c) steps rest h = tt

steps_isolated : (setting : Setting) (rest steps : List Step) (play : Play) → opens_once (steps ++ rest) ≡ true → Isolated setting steps play → Isolated setting (steps ++ rest) (after_steps setting rest play)
steps_isolated setting [] steps play once i = subst (λ all. Isolated setting all play) (sym (append-nil steps)) i
steps_isolated setting (step ∷ rest) steps play once i =
    let all : (steps ++ step ∷ []) ++ rest ≡ steps ++ step ∷ rest = append_assoc steps (step ∷ []) rest in
    subst (λ s. Isolated setting s (after_steps setting rest (after_step setting play step))) all
    (steps_isolated setting rest (steps ++ step ∷ []) (after_step setting play step) (subst (λ s. opens_once s ≡ true) (sym all) once)
    (step_isolated setting steps step play i (fresh_step step steps rest once)))

pub played_isolated : (setting : Setting) (steps : List Step) → opens_once steps ≡ true → Isolated setting steps (played setting steps)
played_isolated setting steps once = steps_isolated setting steps [] (start setting) once (start_isolated setting)

-- ---- the laws

prefix_in : (old new : List Replies) → Grow old new → (c : ℕ) → IsPrefix (replies_in old c) (replies_in new c)
prefix_in [] new h c = (replies_in new c, refl)
prefix_in (x ∷ old) [] h c = absurd h
prefix_in (x ∷ old) (y ∷ new) h c = rw h.0 (by (nat_eq y.conn c) (prefix_in old new h.2 c))
  where
    by : (t : Bool) → IsPrefix (replies_in old c) (replies_in new c) → IsPrefix (cond t x.bytes (replies_in old c)) (cond t y.bytes (replies_in new c))
    by true more = h.1
    by false more = more

whole_alone : (setting : Setting) (steps : List Step) (play : Play) → Isolated setting steps play → (g : ℕ) → is_waiting play g ≡ false → seat_at play g ≡ private setting g (events play g steps)
whole_alone setting steps play i g h = elim (i.settled.calm.rest g) [
  | inl done ↦ sym (finished_stays (seat_at play g) done) ∙ i.alone g
  | inr waits ↦ false_true (sym h ∙ waits)
]

pub as_alone : (setting : Setting) (steps : List Step) (g : ℕ) → opens_once steps ≡ true → IsAsAlone setting steps (played setting steps) g
as_alone setting steps g once =
    let i = played_isolated setting steps once in
    let play = played setting steps in
    record {
      replies = λ c. subst (λ seat. IsPrefix (replies_to (seat_at play g) c) (replies_to seat c)) (i.alone g)
          (prefix_in (all_replies (seat_at play g)) (all_replies (finished (seat_at play g))) (replies_grow (steps_left (seat_at play g)) (seat_at play g)) c);
      later = i.alone g;
      whole = whole_alone setting steps play i g;
    }

pub waits_behind : (setting : Setting) (steps : List Step) (g : ℕ) → opens_once steps ≡ true → is_waiting (played setting steps) g ≡ true → WaitsBehind setting steps (played setting steps) g
waits_behind setting steps g once behind =
    let i = played_isolated setting steps once in
    let b = behind_another (played setting steps) g i.settled behind in
    record {
      other = b.other;
      holds = b.holds;
      another = b.not_itself;
      not_waiting = b.not_waiting;
      scanning = subst (λ seat. seat.chain.scan_open ≡ true) (whole_alone setting steps (played setting steps) i b.other b.not_waiting) b.scanning;
    }
