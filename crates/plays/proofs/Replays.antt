-- The play of a replay is the play of the steps that it tells.
use Rattle.std.proofs.Common.{◌≡◌, ◌≢◌, ℕ, zero, suc, ◌<◌, Bool, true, false, not, ◌&&◌, ◌||◌, cond, List, [], ◌∷◌, ◌++◌, length, drop, refl, ap, sym, subst, ◌∙◌, inl, inr, ◌⊎◌, Some, None, nat_eq}
use Rattle.std.specs.Option.{option_map}
use Rattle.std.specs.declared.option.Option.{Option}
use Rattle.std.specs.List.{slice_index_or, slice_set, list_any}
use Rattle.std.proofs.lemmas.Bool.{eqb-true, eq-eqb}
use Rattle.std.proofs.lemmas.Bool.Decides.{eqb_tells}
use Rattle.std.proofs.lemmas.List.{get_or-set_same, get_or-set_other, length-set}
use Rattle.std.proofs.lemmas.List.Folds.{list_any-append}
use Rattle.std.proofs.Math.Seq.{drop-append_seam}
use Rattle.grant_table.specs.Layouts.{first_place, grant_of}
use Rattle.scan_share.proofs.Kept.{Each}
use Rattle.client_session.specs.Seats.{Seat, advanced, IsFinished, opens_next}
use Rattle.client_session.specs.Private.{Event, opened, received, is_live, took, dropped}
use Rattle.client_session.proofs.Drops.{went_before, gone_before, conn_before}
use Rattle.wire_port.specs.Steps.{Step, opens, opens_once, is_gone_step, has_gone}
use Rattle.wire_port.specs.Steps.Step.{Opened, Took, Gone, Shut}
use Rattle.wire_port.specs.Offers.{ScriptLine, peer_of, opens_line, Answer, give_answer}
use Rattle.plays.specs.Plays.{Setting, Play, SessionEnd, SeatChange, seat_at, no_seat, with_seat, is_among, is_holder, go, change_by_opening, change_of_live, change_by, after_change, after_step, after_steps, live_grant, start, played, all_steps_left}
use Rattle.plays.specs.Schedule.{Replay, went_on, with_ready, is_ready, not_ready, shut, is_drop, pending, last_gave, last_given, let_go_by, let_go, all_let_go, told}
use Rattle.plays.proofs.Lists.{false_true, not_eq}
use Rattle.plays.proofs.Moving.{TouchHolds, touch_holds, free_holds, live_holds}
use Rattle.plays.proofs.Going.{Calm, calm_going}
use Rattle.client_session.proofs.Opening.{opens_is}
use Rattle.plays.proofs.Waiting.{Ordered}
use Rattle.plays.proofs.Admitted.{Unopened, live_among}
use Rattle.plays.proofs.Isolation.{Isolated, Fresh, played_isolated, Brought, took_is_brought, dropped_is_brought, first_place-some, first_place-within}
use Rattle.plays.proofs.Since.{Since, since_moved, since_none, EndedIn, grants_in, going_served, going_there, went_if}

-- ---- steps in a row

after_steps-append : (setting : Setting) (first second : List Step) (play : Play) → after_steps setting (first ++ second) play ≡ after_steps setting second (after_steps setting first play)
after_steps-append setting [] second play = refl
after_steps-append setting (step ∷ first) second play = after_steps-append setting first second (after_step setting play step)

pub played-snoc : (setting : Setting) (steps : List Step) (step : Step) → played setting (steps ++ step ∷ []) ≡ after_step setting (played setting steps) step
played-snoc setting steps step = after_steps-append setting steps (step ∷ []) (start setting)

has_gone-snoc : (conn : ℕ) (steps : List Step) (step : Step) → has_gone conn (steps ++ step ∷ []) ≡ (has_gone conn steps || (is_gone_step conn step || false))
has_gone-snoc conn steps step = list_any-append (is_gone_step conn) steps (step ∷ [])

pub gone_stays : (conn : ℕ) (steps : List Step) (step : Step) → has_gone conn steps ≡ true → has_gone conn (steps ++ step ∷ []) ≡ true
gone_stays conn steps step h = has_gone-snoc conn steps step ∙ rw h refl

eq_sym : (a b : ℕ) → nat_eq a b ≡ false → nat_eq b a ≡ false
eq_sym a b h = not_eq b a (λ e. false_true (sym h ∙ eq-eqb a b (sym e)))

neither : (a b : Bool) → (a || b) ≡ false → (a ≡ false) × (b ≡ false)
neither true b h = absurd (let q : true ≡ false = h in cc)
neither false b h = (refl, h)

both : (a b : Bool) → (a && b) ≡ true → (a ≡ true) × (b ≡ true)
both true b h = (refl, h)
both false b h = false_true h

not_so : (a : Bool) → not a ≡ true → a ≡ false
not_so true h = false_true h
not_so false h = refl

or_true : (t : Bool) → (t || true) ≡ true
or_true true = refl
or_true false = refl

-- the step opens no connection
abbrev pub OpensNone : Step → Type 0
OpensNone step = (conn : ℕ) → opens conn step ≡ false

-- a step that opens nothing, after others
once_quiet : (steps : List Step) (step : Step) → OpensNone step → opens_once (step ∷ []) ≡ true → opens_once steps ≡ true → opens_once (steps ++ step ∷ []) ≡ true
once_quiet [] step none last once = last
once_quiet (Opened d port ∷ steps) step none last once =
    let parts = both (not (list_any (opens d) steps)) (opens_once steps) once in
    let apart : list_any (opens d) (steps ++ step ∷ []) ≡ false = list_any-append (opens d) steps (step ∷ []) ∙ rw (not_so (list_any (opens d) steps) parts.0, none d) refl in
    rw apart (once_quiet steps step none last parts.1)
once_quiet (Took d bytes ∷ steps) step none last once = once_quiet steps step none last once
once_quiet (Gone d ∷ steps) step none last once = once_quiet steps step none last once
once_quiet (Shut d ∷ steps) step none last once = once_quiet steps step none last once

-- a connection that opens, after steps that did not open it
once_opened : (steps : List Step) (c port : ℕ) → Unopened c steps → opens_once steps ≡ true → opens_once (steps ++ Opened c port ∷ []) ≡ true
once_opened [] c port fresh once = refl
once_opened (Opened d p ∷ steps) c port fresh once =
    let parts = both (not (list_any (opens d) steps)) (opens_once steps) once in
    let others = neither (nat_eq c d) (list_any (opens c) steps) fresh in
    let apart : list_any (opens d) (steps ++ Opened c port ∷ []) ≡ false = list_any-append (opens d) steps (Opened c port ∷ []) ∙ rw (not_so (list_any (opens d) steps) parts.0, eq_sym c d others.0) refl in
    rw apart (once_opened steps c port others.1 parts.1)
once_opened (Took d bytes ∷ steps) c port fresh once = once_opened steps c port fresh once
once_opened (Gone d ∷ steps) c port fresh once = once_opened steps c port fresh once
once_opened (Shut d ∷ steps) c port fresh once = once_opened steps c port fresh once

once-snoc : (steps : List Step) (step : Step) → opens_once steps ≡ true → Fresh step steps → opens_once (steps ++ step ∷ []) ≡ true
once-snoc steps (Opened c port) once fresh = once_opened steps c port fresh once
once-snoc steps (Took c bytes) once fresh = once_quiet steps (Took c bytes) (λ d. refl) refl once
once-snoc steps (Gone c) once fresh = once_quiet steps (Gone c) (λ d. refl) refl once
once-snoc steps (Shut c) once fresh = once_quiet steps (Shut c) (λ d. refl) refl once

-- ---- what holds of a replay between its parts

-- a session whose peer is gone was told so
abbrev pub ToldGone : List Step → Seat → Type 0
ToldGone steps seat = seat.going ≡ true → seat.gone ≡ true → has_gone seat.conn steps ≡ true

-- of a replay before these lines: its play, its steps, and which sessions are ready
pub record Running (setting : Setting) (lines : List ScriptLine) (play : Play) (steps : List Step) (ready : List Bool) : Type 0 where
  pub play_is : play ≡ played setting steps
  pub once : opens_once steps ≡ true
  pub ahead : (conn : ℕ) → list_any (opens_line conn) lines ≡ true → list_any (opens conn) steps ≡ false
  pub count : length ready ≡ length setting.layout.grants
  pub going : (g : ℕ) → is_ready ready g ≡ true → (seat_at play g).going ≡ true
  pub gone : (g : ℕ) → ToldGone steps (seat_at play g)

abbrev pub Runs : Setting → List ScriptLine → Replay → Type 0
Runs setting lines replay = Running setting lines replay.play replay.steps replay.ready

-- while sessions that ended are closed: no others are ready without a session
record Closing (setting : Setting) (lines : List ScriptLine) (more : List SessionEnd) (play : Play) (steps : List Step) (ready : List Bool) : Type 0 where
  pub play_is : play ≡ played setting steps
  pub once : opens_once steps ≡ true
  pub ahead : (conn : ℕ) → list_any (opens_line conn) lines ≡ true → list_any (opens conn) steps ≡ false
  pub count : length ready ≡ length setting.layout.grants
  pub going : (g : ℕ) → is_ready ready g ≡ true → ((seat_at play g).going ≡ true) ⊎ (is_among g (grants_in more) ≡ true)
  pub gone : (g : ℕ) → ToldGone steps (seat_at play g)
  pub ended : Each (EndedIn play) more

abbrev Closes : Setting → List ScriptLine → List SessionEnd → Replay → Type 0
Closes setting lines more replay = Closing setting lines more replay.play replay.steps replay.ready

pub isolated : (setting : Setting) (play : Play) (steps : List Step) → play ≡ played setting steps → opens_once steps ≡ true → Isolated setting steps play
isolated setting play steps play_is once = subst (Isolated setting steps) (sym play_is) (played_isolated setting steps once)

-- the line's connections are opened by no step
abbrev pub StepApart : List ScriptLine → Step → Type 0
StepApart lines step = (conn : ℕ) → list_any (opens_line conn) lines ≡ true → opens conn step ≡ false

ahead_more : (lines : List ScriptLine) (steps : List Step) (step : Step) → ((conn : ℕ) → list_any (opens_line conn) lines ≡ true → list_any (opens conn) steps ≡ false) → StepApart lines step
    → (conn : ℕ) → list_any (opens_line conn) lines ≡ true → list_any (opens conn) (steps ++ step ∷ []) ≡ false
ahead_more lines steps step ahead apart conn h = list_any-append (opens conn) steps (step ∷ []) ∙ rw (ahead conn h, apart conn h) refl

-- ---- which sessions are ready

pub ready_set_other : (ready : List Bool) (g0 g : ℕ) (flag : Bool) → g ≢ g0 → is_ready (slice_set ready g0 flag) g ≡ is_ready ready g
ready_set_other ready g0 g flag n = get_or-set_other ready g0 g flag false n

-- one that is set not ready is not
pub unset : (ready : List Bool) (g : ℕ) → is_ready (slice_set ready g false) g ≡ false
unset [] g = refl
unset (flag ∷ ready) zero = refl
unset (flag ∷ ready) (suc g) = unset ready g

pub ready_unset : (ready : List Bool) (g0 g : ℕ) → is_ready (slice_set ready g0 false) g ≡ true → (is_ready ready g ≡ true) × (g ≢ g0)
ready_unset ready g0 g h = elim (eqb_tells g g0) [
  | inl e ↦ false_true (sym (unset ready g0) ∙ subst (λ k. is_ready (slice_set ready g0 false) k ≡ true) e.1 h)
  | inr n ↦ (sym (ready_set_other ready g0 g false n.1) ∙ h, n.1)
]

pub ready_set : (ready : List Bool) (g0 g : ℕ) → is_ready (slice_set ready g0 true) g ≡ true → (is_ready ready g ≡ true) ⊎ (g ≡ g0)
ready_set ready g0 g h = elim (eqb_tells g g0) [ inl e ↦ inr e.1 | inr n ↦ inl (sym (ready_set_other ready g0 g true n.1) ∙ h) ]

length-with_ready : (flag : Bool) (grants : List ℕ) (ready : List Bool) → length (with_ready flag grants ready) ≡ length ready
length-with_ready flag [] ready = refl
length-with_ready flag (g ∷ grants) ready = length-with_ready flag grants (slice_set ready g flag) ∙ length-set ready g flag

first_or : (x g : ℕ) (rest : Bool) → x ≡ g → (nat_eq x g || rest) ≡ true
first_or x g rest e = rw (eq-eqb x g e) refl

rest_or : (first rest : Bool) → rest ≡ true → (first || rest) ≡ true
rest_or first rest h = rw h (or_true first)

-- ready are those that went on, and those before
with_ready_true : (grants : List ℕ) (ready : List Bool) (g : ℕ) → is_ready (with_ready true grants ready) g ≡ true → (is_ready ready g ≡ true) ⊎ (is_among g grants ≡ true)
with_ready_true [] ready g h = inl h
with_ready_true (x ∷ grants) ready g h = elim (with_ready_true grants (slice_set ready x true) g h) [
  | inl here ↦ elim (ready_set ready x g here) [ inl before ↦ inl before | inr same ↦ inr (first_or x g (is_among g grants) (sym same)) ]
  | inr later ↦ inr (rest_or (nat_eq x g) (is_among g grants) later)
]

-- and none of those that ended
with_ready_false : (grants : List ℕ) (ready : List Bool) (g : ℕ) → is_ready (with_ready false grants ready) g ≡ true → (is_ready ready g ≡ true) × (is_among g grants ≡ false)
with_ready_false [] ready g h = (h, refl)
with_ready_false (x ∷ grants) ready g h =
    let rest = with_ready_false grants (slice_set ready x false) g h in
    let own = ready_unset ready x g rest.0 in
    (own.0, rw (not_eq x g (λ e. own.1 (sym e))) rest.1)

-- ---- a play's seats after a step

told_advanced : (steps : List Step) (g : ℕ) (seat : Seat) → ToldGone steps seat → ToldGone steps (advanced seat)
told_advanced steps g seat told going gone =
    subst (λ c. has_gone c steps ≡ true) (sym (conn_before seat going)) (told (went_before seat going) (sym (gone_before seat going) ∙ gone))

told_more : (steps : List Step) (step : Step) (seat : Seat) → ToldGone steps seat → ToldGone (steps ++ step ∷ []) seat
told_more steps step seat told going gone = gone_stays seat.conn steps step (told going gone)

-- bytes or a drop of a session whose drop is among the steps
took_told : (steps : List Step) (conn : ℕ) (bytes : List ℕ) (seat : Seat) → ToldGone steps seat → ToldGone steps (took conn bytes seat)
took_told steps conn bytes seat told = by (is_live conn seat && not seat.gone)
  where
    by : (t : Bool) → ToldGone steps (cond t (received bytes seat) seat)
    by true = told
    by false = told

dropped_told : (steps : List Step) (conn : ℕ) (seat : Seat) → ToldGone (steps ++ Gone conn ∷ []) seat → ToldGone (steps ++ Gone conn ∷ []) (dropped conn seat)
dropped_told steps conn seat told = by (is_live conn seat) refl
  where
    itself : has_gone conn (steps ++ Gone conn ∷ []) ≡ true
    itself = has_gone-snoc conn steps (Gone conn) ∙ rw (eq-eqb conn conn refl) (or_true (has_gone conn steps))

    by : (t : Bool) → is_live conn seat ≡ t → ToldGone (steps ++ Gone conn ∷ []) (cond t (record seat { gone = true }) seat)
    by true live = λ going gone. subst (λ c. has_gone c (steps ++ Gone conn ∷ []) ≡ true) (sym (eqb-true seat.conn conn (both seat.going (nat_eq seat.conn conn) live).1)) itself
    by false live = told

step_told : (setting : Setting) (steps : List Step) (play : Play) (step : Step) → ((g : ℕ) → ToldGone (steps ++ step ∷ []) (seat_at play g)) → TouchHolds (λ g. ToldGone (steps ++ step ∷ [])) (change_by setting play step)
step_told setting steps play (Opened conn port) all =
    let told = λ (g : ℕ) (seat : Seat). ToldGone (steps ++ Opened conn port ∷ []) seat in
    free_holds told told play all conn (λ g seat h going gone. false_true gone) (grant_of setting.layout port)
step_told setting steps play (Took conn bytes) all =
    let told = λ (g : ℕ) (seat : Seat). ToldGone (steps ++ Took conn bytes ∷ []) seat in
    live_holds told told play all (took conn bytes) (λ g. took_told (steps ++ Took conn bytes ∷ []) conn bytes) (live_grant conn play.seats)
step_told setting steps play (Gone conn) all =
    let told = λ (g : ℕ) (seat : Seat). ToldGone (steps ++ Gone conn ∷ []) seat in
    live_holds told told play all (dropped conn) (λ g. dropped_told steps conn) (live_grant conn play.seats)
step_told setting steps play (Shut conn) all = tt

-- a session that goes on goes on with what the step brings
abbrev GoesWith : Play → ℕ → Seat → Type 0
GoesWith play g seat = (seat_at play g).going ≡ true → seat.going ≡ true

took_goes : (conn : ℕ) (bytes : List ℕ) (seat : Seat) → (took conn bytes seat).going ≡ seat.going
took_goes conn bytes seat = by (is_live conn seat && not seat.gone)
  where
    by : (t : Bool) → (cond t (received bytes seat) seat).going ≡ seat.going
    by true = refl
    by false = refl

dropped_goes : (conn : ℕ) (seat : Seat) → (dropped conn seat).going ≡ seat.going
dropped_goes conn seat = by (is_live conn seat)
  where
    by : (t : Bool) → (cond t (record seat { gone = true }) seat).going ≡ seat.going
    by true = refl
    by false = refl

step_goes : (setting : Setting) (play : Play) (step : Step) → TouchHolds (GoesWith play) (change_by setting play step)
step_goes setting play (Opened conn port) = free_holds (GoesWith play) (GoesWith play) play (λ g h. h) conn (λ g seat h going. refl) (grant_of setting.layout port)
step_goes setting play (Took conn bytes) = live_holds (GoesWith play) (GoesWith play) play (λ g h. h) (took conn bytes) (λ g seat h going. took_goes conn bytes seat ∙ h going) (live_grant conn play.seats)
step_goes setting play (Gone conn) = live_holds (GoesWith play) (GoesWith play) play (λ g h. h) (dropped conn) (λ g seat h going. dropped_goes conn seat ∙ h going) (live_grant conn play.seats)
step_goes setting play (Shut conn) = tt

-- what a step brings keeps who waits and who holds the chain in order
record TouchFits (play : Play) (change : SeatChange) : Type 0 where
  pub there : change.grant < length play.seats
  pub waits : is_among change.grant play.waiting ≡ true → opens_next change.seat ≡ true
  pub holds : is_holder play.holder change.grant ≡ true → change.seat.chain.scan_open ≡ true

abbrev TouchOrdered : Play → Option SeatChange → Type 0
TouchOrdered play None = Unit {0}
TouchOrdered play (Some change) = TouchFits play change

module _ (setting : Setting) (steps : List Step) (play : Play) (i : Isolated setting steps play) where
  ordered_with : (change : SeatChange) → TouchFits play change → Ordered (with_seat change.grant change.seat play)
  ordered_with change fits = record {
    waits = λ g h. elim (eqb_tells g change.grant) [
      | inl e ↦ subst (λ k. opens_next (seat_at (with_seat change.grant change.seat play) k) ≡ true) (sym e.1)
          (rw (get_or-set_same play.seats change.grant change.seat no_seat fits.there) (fits.waits (subst (λ k. is_among k play.waiting ≡ true) e.1 h)))
      | inr n ↦ rw (get_or-set_other play.seats change.grant g change.seat no_seat n.1) (i.settled.calm.ordered.waits g h)
    ];
    holds = λ g h. elim (eqb_tells g change.grant) [
      | inl e ↦ subst (λ k. (seat_at (with_seat change.grant change.seat play) k).chain.scan_open ≡ true) (sym e.1)
          (rw (get_or-set_same play.seats change.grant change.seat no_seat fits.there) (fits.holds (subst (λ k. is_holder play.holder k ≡ true) e.1 h)))
      | inr n ↦ rw (get_or-set_other play.seats change.grant g change.seat no_seat n.1) (i.settled.calm.ordered.holds g h)
    ];
  }

  calm_with : (change : SeatChange) → TouchFits play change → Calm (go setting change.grant (with_seat change.grant change.seat play))
  calm_with change fits =
      calm_going setting change.grant (with_seat change.grant change.seat play) (subst (λ n. change.grant < n) (sym (length-set play.seats change.grant change.seat)) fits.there) (ordered_with change fits)
      (λ g n. elim (i.settled.calm.rest g) [ inl done ↦ inl (subst IsFinished (sym (get_or-set_other play.seats change.grant g change.seat no_seat n)) done) | inr waits ↦ inr waits ])

  free_ordered : (o : Option ℕ) (conn : ℕ) → ((g : ℕ) → o ≡ Some g → g < length play.seats) → TouchOrdered play (change_by_opening o conn play)
  free_ordered None conn there = tt
  free_ordered (Some g) conn there = by (seat_at play g).going refl
    where
      by : (t : Bool) → (seat_at play g).going ≡ t → TouchOrdered play (cond t None (Some (record { grant = g; seat = opened conn (seat_at play g) })))
      by true e = tt
      by false e = record {
        there = there g refl;
        waits = λ h. false_true (sym e ∙ (opens_is (seat_at play g) (i.settled.calm.ordered.waits g h)).going);
        holds = λ h. false_true (sym (i.shut g e) ∙ i.settled.calm.ordered.holds g h);
      }

  live_ordered : (o : Option ℕ) (conn : ℕ) (event : Event) (change : Seat → Seat) → live_grant conn play.seats ≡ o → Brought conn event change → TouchOrdered play (change_of_live o change play)
  live_ordered None conn event change e brings = tt
  live_ordered (Some g) conn event change e brings = record {
    there = (first_place-some (is_live conn) play.seats g e).0;
    waits = λ h. brings.opening (seat_at play g) ∙ i.settled.calm.ordered.waits g h;
    holds = λ h. brings.scan (seat_at play g) ∙ i.settled.calm.ordered.holds g h;
  }

  step_ordered : (step : Step) → TouchOrdered play (change_by setting play step)
  step_ordered (Opened conn port) = free_ordered (grant_of setting.layout port) conn (λ g e. subst (λ n. g < n) (sym i.count) (first_place-within (λ shape. nat_eq shape.port port) setting.layout.grants g e))
  step_ordered (Took conn bytes) = live_ordered (live_grant conn play.seats) conn (Event.Took conn bytes) (took conn bytes) refl (took_is_brought conn bytes)
  step_ordered (Gone conn) = live_ordered (live_grant conn play.seats) conn (Event.Gone conn) (dropped conn) refl (dropped_is_brought conn)
  step_ordered (Shut conn) = tt

  -- a session that goes on after a step was going with what the step brought
  going_with : (change : SeatChange) → ((seat_at play change.grant).going ≡ true → change.seat.going ≡ true) → (g : ℕ) → (seat_at play g).going ≡ true → (seat_at (with_seat change.grant change.seat play) g).going ≡ true
  going_with change goes g h = elim (eqb_tells g change.grant) [
    | inl e ↦ subst (λ k. (seat_at (with_seat change.grant change.seat play) k).going ≡ true) (sym e.1)
        (let at : (seat_at play change.grant).going ≡ true = subst (λ k. (seat_at play k).going ≡ true) e.1 h in
        rw (get_or-set_same play.seats change.grant change.seat no_seat (going_there play change.grant at)) (goes at))
    | inr n ↦ rw (get_or-set_other play.seats change.grant g change.seat no_seat n.1) h
  ]

  -- what ended in a step, and who went on in it
  record Stepped (change : Option SeatChange) : Type 0 where
    pub since : Since play (after_change setting play change)
    pub others : (g : ℕ) → is_among g (went_on setting play change) ≡ true → ((seat_at (after_change setting play change) g).going ≡ true) ⊎ (is_among g (grants_in since.more) ≡ true)

  stepped : (o : Option SeatChange) → TouchOrdered play o → TouchHolds (GoesWith play) o → Stepped o
  stepped None fits goes = record { since = since_none play; others = λ g h. false_true h }
  stepped (Some change) fits goes =
      let changed = with_seat change.grant change.seat play in
      let s = since_moved setting changed change.grant in
      record {
        since = record { more = s.more; is = s.is; ended = s.ended; left = λ g h. s.left g (going_with change goes g h) };
        others = λ g h. s.left g (went_if setting (Some change.grant) changed g
            (going_served setting (all_steps_left (go setting change.grant changed).seats) (go setting change.grant changed) g (calm_with change fits) h));
      }

-- ---- sessions that ended are closed

first_none : (test : Seat → Bool) (seats : List Seat) → ((g : ℕ) → test (slice_index_or seats g no_seat) ≡ false) → first_place test seats ≡ None
first_none test [] none = refl
first_none test (seat ∷ seats) none = ap (λ t. cond t (Some 0) (option_map suc (first_place test seats))) (none zero) ∙ ap (option_map suc) (first_none test seats (λ g. none (suc g)))

-- of a session that ended, nobody has the connection
ended_nobody : (setting : Setting) (play : Play) (steps : List Step) (ended : SessionEnd) → Isolated setting steps play → EndedIn play ended → (g : ℕ) → is_live ended.conn (seat_at play g) ≡ false
ended_nobody setting play steps ended i is g = by (is_live ended.conn (seat_at play g)) refl
  where
    by : (t : Bool) → is_live ended.conn (seat_at play g) ≡ t → t ≡ false
    by true live =
        let same : g ≡ ended.grant = i.apart g ended.grant ended.conn (live_among ended.conn (seat_at play g) live) is.1 in
        let went : (seat_at play g).going ≡ true = (both (seat_at play g).going (nat_eq (seat_at play g).conn ended.conn) live).0 in
        false_true (sym is.0 ∙ subst (λ k. (seat_at play k).going ≡ true) same went)
    by false live = refl

module _ (setting : Setting) (lines : List ScriptLine) (more : List SessionEnd) (play : Play) (steps : List Step) (ready : List Bool) where
  -- a step that opens nothing and that the play does not mind
  noted_closing : (step : Step) → OpensNone step → Fresh step steps → after_step setting play step ≡ play → Closing setting lines more play steps ready → Closing setting lines more play (steps ++ step ∷ []) ready
  noted_closing step none fresh still c = record {
    play_is = sym still ∙ ap (λ p. after_step setting p step) c.play_is ∙ sym (played-snoc setting steps step);
    once = once-snoc steps step c.once fresh;
    ahead = ahead_more lines steps step c.ahead (λ conn h. none conn);
    count = c.count;
    going = c.going;
    gone = λ g. told_more steps step (seat_at play g) (c.gone g);
    ended = c.ended;
  }

-- a drop that is told of a session that ended
gone_closing : (setting : Setting) (lines : List ScriptLine) (more : List SessionEnd) (play : Play) (steps : List Step) (ready : List Bool) (ended : SessionEnd) → EndedIn play ended
    → Closing setting lines more play steps ready → Closing setting lines more play (steps ++ Gone ended.conn ∷ []) ready
gone_closing setting lines more play steps ready ended is c =
    noted_closing setting lines more play steps ready (Gone ended.conn) (λ d. refl) tt
    (ap (λ o. after_change setting play (change_of_live o (dropped ended.conn) play)) (first_none (is_live ended.conn) play.seats (ended_nobody setting play steps ended (isolated setting play steps c.play_is c.once) is))) c

module _ (setting : Setting) (lines : List ScriptLine) where
  last_closing : (more : List SessionEnd) (piece : List ℕ) (ended : SessionEnd) (replay : Replay) → EndedIn replay.play ended → Closes setting lines more replay → Closes setting lines more (last_given piece ended.conn replay)
  last_closing more [] ended replay is c = c
  last_closing more (byte ∷ piece) ended replay is c = by (give_answer (byte ∷ piece) (peer_of replay.peers ended.conn))
    where
      by : (answer : Answer) → Closes setting lines more (last_gave answer (byte ∷ piece) ended.conn replay)
      by (Answer.Bytes bytes) = c
      by Answer.NotNow = c
      by Answer.Gone = gone_closing setting lines more replay.play replay.steps replay.ready ended is c

  shut_closing : (more : List SessionEnd) (conn : ℕ) (replay : Replay) → Closes setting lines more replay → Closes setting lines more (shut conn replay)
  shut_closing more conn replay c = noted_closing setting lines more replay.play replay.steps replay.ready (Shut conn) (λ d. refl) tt refl c

  closed_by_closing : (more : List SessionEnd) (drop : Bool) (ended : SessionEnd) (replay : Replay) → EndedIn replay.play ended → Closes setting lines more replay → Closes setting lines more (let_go_by drop ended replay)
  closed_by_closing more true ended replay is c = c
  closed_by_closing more false ended replay is c =
      shut_closing more ended.conn (last_given (pending replay ended.grant ended.conn) ended.conn replay) (last_closing more (pending replay ended.grant ended.conn) ended replay is c)

  -- the grant of a session that ended is not ready
  unready_closing : (ended : SessionEnd) (more : List SessionEnd) (replay : Replay) → Closes setting lines (ended ∷ more) replay → Closes setting lines more (not_ready ended.grant replay)
  unready_closing ended more replay c = record {
    play_is = c.play_is;
    once = c.once;
    ahead = c.ahead;
    count = length-set replay.ready ended.grant false ∙ c.count;
    going = λ g h. (let own = ready_unset replay.ready ended.grant g h in elim (c.going g own.0) [
      | inl goes ↦ inl goes
      | inr among ↦ inr (sym (ap (λ t. t || is_among g (grants_in more)) (not_eq ended.grant g (λ e. own.1 (sym e)))) ∙ among)
    ]);
    gone = c.gone;
    ended = c.ended.1;
  }

  -- no end is left to close
  closed_runs : (replay : Replay) → Closes setting lines [] replay → Runs setting lines replay
  closed_runs replay c = record {
    play_is = c.play_is;
    once = c.once;
    ahead = c.ahead;
    count = c.count;
    going = λ g h. elim (c.going g h) [ inl goes ↦ goes | inr among ↦ false_true among ];
    gone = c.gone;
  }

  all_closed_runs : (more : List SessionEnd) (replay : Replay) → Closes setting lines more replay → Runs setting lines (all_let_go more replay)
  all_closed_runs [] replay c = closed_runs replay c
  all_closed_runs (ended ∷ more) replay c =
      all_closed_runs more (let_go ended replay) (closed_by_closing more (is_drop ended.end) ended (not_ready ended.grant replay) c.ended.0 (unready_closing ended more replay c))

  -- ---- a step that is told

  pub told_runs : (step : Step) (replay : Replay) → Fresh step replay.steps → StepApart lines step → Runs setting lines replay → Runs setting lines (told setting step replay)
  told_runs step replay fresh apart runs =
      let steps = replay.steps ++ step ∷ [] in
      let change = change_by setting replay.play step in
      let i = isolated setting replay.play replay.steps runs.play_is runs.once in
      let all : (g : ℕ) → ToldGone steps (seat_at replay.play g) = λ g. told_more replay.steps step (seat_at replay.play g) (runs.gone g) in
      let s = stepped setting replay.steps replay.play i change (step_ordered setting replay.steps replay.play i step) (step_goes setting replay.play step) in
      let told_now : Replay = record { play = after_change setting replay.play change; steps = steps; peers = replay.peers; ready = with_ready true (went_on setting replay.play change) replay.ready } in
      let ends : drop (length replay.play.ends) (after_change setting replay.play change).ends ≡ s.since.more = ap (drop (length replay.play.ends)) (sym s.since.is) ∙ drop-append_seam replay.play.ends s.since.more in
      subst (λ more. Runs setting lines (all_let_go more told_now)) (sym ends) (all_closed_runs s.since.more told_now (record {
        play_is = ap (λ p. after_step setting p step) runs.play_is ∙ sym (played-snoc setting replay.steps step);
        once = once-snoc replay.steps step runs.once fresh;
        ahead = ahead_more lines replay.steps step runs.ahead apart;
        count = length-with_ready true (went_on setting replay.play change) replay.ready ∙ runs.count;
        going = λ g h. elim (with_ready_true (went_on setting replay.play change) replay.ready g h) [ inl before ↦ s.since.left g (runs.going g before) | inr among ↦ s.others g among ];
        gone = touch_holds setting (λ g. ToldGone steps) (told_advanced steps) replay.play change all (step_told setting replay.steps replay.play step all);
        ended = s.since.ended;
      }))

  -- a step that opens nothing and that the play does not mind
  pub noted_runs : (step : Step) (replay : Replay) → OpensNone step → Fresh step replay.steps → after_step setting replay.play step ≡ replay.play → Runs setting lines replay
      → Running setting lines replay.play (replay.steps ++ step ∷ []) replay.ready
  noted_runs step replay none fresh still runs = record {
    play_is = sym still ∙ ap (λ p. after_step setting p step) runs.play_is ∙ sym (played-snoc setting replay.steps step);
    once = once-snoc replay.steps step runs.once fresh;
    ahead = ahead_more lines replay.steps step runs.ahead (λ conn h. none conn);
    count = runs.count;
    going = runs.going;
    gone = λ g. told_more replay.steps step (seat_at replay.play g) (runs.gone g);
  }
