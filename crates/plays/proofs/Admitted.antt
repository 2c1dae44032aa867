-- The connections that a grant has admitted, and what they bring it.
use Rattle.std.proofs.Common.{◌≡◌, ℕ, zero, suc, Bool, true, false, not, ◌&&◌, ◌||◌, cond, List, [], ◌∷◌, ◌++◌, refl, ap, sym, ◌∙◌, inl, inr, nat_eq, Some, None, map}
use Rattle.std.specs.List.{list_any, filter_map, cons_option}
use Rattle.std.proofs.lemmas.Bool.{eq-eqb}
use Rattle.std.proofs.lemmas.Bool.Decides.{eqb_tells}
use Rattle.client_session.specs.Seats.{Seat, EndedSession, advanced, advanced_by, steps_left, finished, IsFinished}
use Rattle.client_session.specs.Private.{Event, opened, is_live, received, took, dropped, after_event, after_events}
use Rattle.client_session.proofs.Later.{finished_stays}
use Rattle.client_session.proofs.Steps.{finished_finished}
use Rattle.client_session.proofs.Growth.{Kind, advanced_kind}
use Rattle.wire_port.specs.Steps.{Step, opens}
use Rattle.wire_port.specs.Steps.Step.{Opened, Took, Gone, Shut}
use Rattle.plays.specs.Plays.{is_among}
use Rattle.plays.specs.Alone.{conns_of, event_of}
use Rattle.plays.proofs.Lists.{false_true, among-append, not_eq}

abbrev conn_in : EndedSession → ℕ
conn_in past = past.conn

past_conns : (past : List EndedSession) (last : EndedSession) → map (λ p. p.conn) (past ++ last ∷ []) ++ [] ≡ map (λ p. p.conn) past ++ last.conn ∷ []
past_conns [] last = refl
past_conns (x ∷ past) last = ap (λ rest. x.conn ∷ rest) (past_conns past last)

kind_conns : (new old : Seat) → Kind new old → conns_of new ≡ conns_of old
kind_conns new old (inl on) = rw (on.past, on.going, on.conn) refl
kind_conns new old (inr ends) = rw (ends.new_is, ends.went) (past_conns old.past (record { conn = old.conn; replies = old.replies; end = ends.how }))

pub conns_advanced : (seat : Seat) → conns_of (advanced seat) ≡ conns_of seat
conns_advanced seat = kind_conns (advanced seat) seat (advanced_kind seat)

pub conns_by : (n : ℕ) (seat : Seat) → conns_of (advanced_by n seat) ≡ conns_of seat
conns_by zero seat = refl
conns_by (suc n) seat = conns_by n (advanced seat) ∙ conns_advanced seat

-- the live connection is among those admitted
pub live_among : (c : ℕ) (seat : Seat) → is_live c seat ≡ true → is_among c (conns_of seat) ≡ true
live_among c seat h = by seat.going refl
  where
    or_true : (a : Bool) → (a || true) ≡ true
    or_true true = refl
    or_true false = refl

    by : (t : Bool) → seat.going ≡ t → is_among c (map (λ p. p.conn) seat.past ++ cond t (seat.conn ∷ []) []) ≡ true
    by true g =
        let same : nat_eq seat.conn c ≡ true = (rw g at h) in
        among-append c (map (λ p. p.conn) seat.past) (seat.conn ∷ []) ∙ rw same (or_true (is_among c (map (λ p. p.conn) seat.past)))
    by false g = false_true (let k = rw g at h in k)

pub not_live : (c : ℕ) (seat : Seat) → is_among c (conns_of seat) ≡ false → is_live c seat ≡ false
not_live c seat h = by (is_live c seat) refl
  where
    by : (t : Bool) → is_live c seat ≡ t → t ≡ false
    by true e = false_true (sym h ∙ live_among c seat e)
    by false e = refl

-- what comes from a connection that is not live changes nothing
pub took_dead : (c : ℕ) (b : List ℕ) (seat : Seat) → is_live c seat ≡ false → took c b seat ≡ seat
took_dead c b seat h = rw h refl

pub dropped_dead : (c : ℕ) (seat : Seat) → is_live c seat ≡ false → dropped c seat ≡ seat
dropped_dead c seat h = rw h refl

-- no step opens the connection
abbrev pub Unopened : ℕ → List Step → Type 0
Unopened c steps = list_any (opens c) steps ≡ false

or_both : (a b : Bool) → (a || b) ≡ false → (a ≡ false) × (b ≡ false)
or_both true b h = absurd (let q : true ≡ false = h in cc)
or_both false b h = (refl, h)

-- one more connection
among_more : (c d : ℕ) (conns : List ℕ) → nat_eq c d ≡ false → is_among d (conns ++ c ∷ []) ≡ is_among d conns
among_more c d conns h = among-append d conns (c ∷ []) ∙ rw h (or_false (is_among d conns))
  where
    or_false : (t : Bool) → (t || false) ≡ t
    or_false true = refl
    or_false false = refl

among_itself : (c : ℕ) (conns : List ℕ) → is_among c (conns ++ c ∷ []) ≡ true
among_itself c conns = among-append c conns (c ∷ []) ∙ rw (eq-eqb c c refl) (or_true (is_among c conns))
  where
    or_true : (a : Bool) → (a || true) ≡ true
    or_true true = refl
    or_true false = refl

abbrev pub heard : List ℕ → List Step → Seat → Seat
heard conns steps seat = after_events (filter_map (event_of conns) steps) seat

-- an event that is heard or not, and then the rest
abbrev heard_if : Bool → Event → List Event → List Event
heard_if t event rest = cons_option (cond t (Some event) None) rest

pub took_conns : (d : ℕ) (b : List ℕ) (seat : Seat) → conns_of (took d b seat) ≡ conns_of seat
took_conns d b seat = by (is_live d seat && not seat.gone)
  where
    by : (t : Bool) → conns_of (cond t (received b seat) seat) ≡ conns_of seat
    by true = refl
    by false = refl

pub dropped_conns : (d : ℕ) (seat : Seat) → conns_of (dropped d seat) ≡ conns_of seat
dropped_conns d seat = by (is_live d seat)
  where
    by : (t : Bool) → conns_of (cond t (record seat { gone = true }) seat) ≡ conns_of seat
    by true = refl
    by false = refl

pub conns_finished : (seat : Seat) → conns_of (finished seat) ≡ conns_of seat
conns_finished seat = conns_by (steps_left seat) seat

among_apart : (c : ℕ) (xs ys : List ℕ) → is_among c (xs ++ ys) ≡ false → is_among c xs ≡ false
among_apart c xs ys h = (or_both (is_among c xs) (is_among c ys) (sym (among-append c xs ys) ∙ h)).0

-- of a session that is opened on a seat, the seat has admitted the past ones and this one
opened_free : (c d : ℕ) (seat : Seat) → nat_eq d c ≡ false → is_among c (conns_of seat) ≡ false → is_among c (conns_of (finished (opened d seat))) ≡ false
opened_free c d seat h out =
    ap (is_among c) (conns_finished (opened d seat))
    ∙ among_more d c (map (λ p. p.conn) seat.past) h
    ∙ among_apart c (map (λ p. p.conn) seat.past) (cond seat.going (seat.conn ∷ []) []) out

eq_sym : (a b : ℕ) → nat_eq a b ≡ false → nat_eq b a ≡ false
eq_sym a b h = not_eq b a (λ e. let q : true ≡ false = sym (eq-eqb a b (sym e)) ∙ h in (let r : false ≡ true = sym q in false_true r))

-- a connection that a seat hasn't admitted and that no step opens brings it nothing
module _ (c : ℕ) (conns : List ℕ) (out : is_among c conns ≡ false) where
  dead_event : (event : Event) (rest' rest : List Event) (seat : Seat) → IsFinished seat → after_event event seat ≡ seat → after_events rest' seat ≡ after_events rest seat
      → after_events (heard_if true event rest') seat ≡ after_events (heard_if false event rest) seat
  dead_event event rest' rest seat done dead more = ap (λ s. after_events rest' (finished s)) dead ∙ ap (after_events rest') (finished_stays seat done) ∙ more

  live_event : (t : Bool) (event : Event) (rest' rest : List Event) (seat : Seat) → after_events rest' (finished (after_event event seat)) ≡ after_events rest (finished (after_event event seat)) → after_events rest' seat ≡ after_events rest seat
      → after_events (heard_if t event rest') seat ≡ after_events (heard_if t event rest) seat
  live_event true event rest' rest seat h k = h
  live_event false event rest' rest seat h k = k

  -- an event of a connection, this one or another
  some_event : (d : ℕ) (event : Event) (rest' rest : List Event) (seat : Seat) → IsFinished seat → is_among c (conns_of seat) ≡ false
      → (d ≡ c → after_event event seat ≡ seat) → after_events rest' (finished (after_event event seat)) ≡ after_events rest (finished (after_event event seat)) → after_events rest' seat ≡ after_events rest seat
      → after_events (heard_if (is_among d (conns ++ c ∷ [])) event rest') seat ≡ after_events (heard_if (is_among d conns) event rest) seat
  some_event d event rest' rest seat done free dead h k = elim (eqb_tells d c) [
    | inl e ↦ rw (e.1, among_itself c conns, out) (dead_event event rest' rest seat done (dead e.1) k)
    | inr n ↦ rw (among_more c d conns (eq_sym d c n.0)) (live_event (is_among d conns) event rest' rest seat h k)
  ]

  pub unheard : (steps : List Step) (seat : Seat) → Unopened c steps → IsFinished seat → is_among c (conns_of seat) ≡ false → heard (conns ++ c ∷ []) steps seat ≡ heard conns steps seat
  unheard [] seat un done free = refl
  unheard (Opened d port ∷ steps) seat un done free =
      let u = or_both (nat_eq c d) (list_any (opens c) steps) un in
      rw (among_more c d conns u.0)
      (live_event (is_among d conns) (Event.Opened d) (filter_map (event_of (conns ++ c ∷ [])) steps) (filter_map (event_of conns) steps) seat
      (unheard steps (finished (opened d seat)) u.1 (finished_finished (opened d seat)) (opened_free c d seat (eq_sym c d u.0) free))
      (unheard steps seat u.1 done free))
  unheard (Took d b ∷ steps) seat un done free =
      some_event d (Event.Took d b) (filter_map (event_of (conns ++ c ∷ [])) steps) (filter_map (event_of conns) steps) seat done free
      (λ e. took_dead d b seat (rw e (not_live c seat free)))
      (unheard steps (finished (took d b seat)) un (finished_finished (took d b seat)) (ap (is_among c) (conns_finished (took d b seat) ∙ took_conns d b seat) ∙ free))
      (unheard steps seat un done free)
  unheard (Gone d ∷ steps) seat un done free =
      some_event d (Event.Gone d) (filter_map (event_of (conns ++ c ∷ [])) steps) (filter_map (event_of conns) steps) seat done free
      (λ e. dropped_dead d seat (rw e (not_live c seat free)))
      (unheard steps (finished (dropped d seat)) un (finished_finished (dropped d seat)) (ap (is_among c) (conns_finished (dropped d seat) ∙ dropped_conns d seat) ∙ free))
      (unheard steps seat un done free)
  unheard (Shut d ∷ steps) seat un done free = unheard steps seat un done free
