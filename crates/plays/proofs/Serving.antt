-- While nobody holds the chain, the first of those that wait goes on, until somebody holds it or nobody waits.
use Rattle.std.proofs.Common.{◌≡◌, ◌≢◌, ℕ, zero, suc, ◌+◌, ◌<◌, ◌≤◌, Bool, true, false, List, [], ◌∷◌, length, refl, ap, sym, ◌∙◌, arith, inl, inr, ◌⊎◌, nat_eq, Some, None}
use Rattle.std.specs.declared.option.Option.{Option}
use Rattle.std.specs.List.{slice_index_or, slice_set}
use Rattle.std.proofs.lemmas.Bool.{eq-eqb}
use Rattle.client_session.specs.Seats.{Seat, advanced, steps_left, IsFinished, opens_next}
use Rattle.client_session.proofs.Steps.{work, work_within, advanced_moves}
use Rattle.plays.specs.Plays.{Setting, Play, seat_at, no_seat, is_among, is_waiting, may_open, advanced_at, advanced_times, go, next_in_line, go_if, handed_on_once, handed_on_times, handed_on, all_steps_left, moved}
use Rattle.plays.proofs.Lists.{false_true}
use Rattle.client_session.proofs.Opening.{opens_moves, opens_is}
use Rattle.plays.proofs.Waiting.{Ordered, opens_there, as_play}
use Rattle.plays.proofs.Going.{Calm, calm_going, length_times, keeps_times}

-- the work of all seats
abbrev pub all_work : List Seat → ℕ
all_work [] = 0
all_work (seat ∷ seats) = work seat + all_work seats

pub all_work_within : (seats : List Seat) → all_work seats ≤ all_steps_left seats
all_work_within [] = omega arith
all_work_within (seat ∷ seats) = omega (arith, work_within seat, all_work_within seats)

no_more : (seats : List Seat) (i : ℕ) (new d : Seat) → work new ≤ work (slice_index_or seats i d) → all_work (slice_set seats i new) ≤ all_work seats
no_more [] i new d h = omega arith
no_more (seat ∷ seats) zero new d h = omega arith
no_more (seat ∷ seats) (suc i) new d h = omega (arith, no_more seats i new d h)

less : (seats : List Seat) (i : ℕ) (new d : Seat) → i < length seats → work new < work (slice_index_or seats i d) → all_work (slice_set seats i new) < all_work seats
less [] i new d lt h = absurd (omega arith)
less (seat ∷ seats) zero new d lt h = omega arith
less (seat ∷ seats) (suc i) new d lt h = let short : i < length seats = omega arith in omega (arith, less seats i new d short h)

work_down : (seat : Seat) → work (advanced seat) ≤ work seat
work_down seat = elim (advanced_moves seat) [ inl e ↦ rw e (omega arith) | inr lt ↦ omega arith ]

module _ (setting : Setting) (g : ℕ) where
  work_as : (play : Play) (o m : Bool) → all_work (as_play o m setting play g).seats ≤ all_work play.seats
  work_as play false m = no_more play.seats g (advanced (seat_at play g)) no_seat (work_down (seat_at play g))
  work_as play true true = no_more play.seats g (advanced (seat_at play g)) no_seat (work_down (seat_at play g))
  work_as play true false = no_more play.seats g (seat_at play g) no_seat (omega arith)

  work_times : (n : ℕ) (play : Play) → all_work (advanced_times n setting g play).seats ≤ all_work play.seats
  work_times zero play = omega arith
  work_times (suc n) play =
      let one : all_work (advanced_at setting g play).seats ≤ all_work play.seats = work_as play (opens_next (seat_at play g)) (may_open play.holder play.waiting g) in
      omega (arith, work_times n (advanced_at setting g play), one)

  -- one that opens a scan makes a step
  opening : (n : ℕ) (play : Play) → 0 < n → opens_next (seat_at play g) ≡ true → may_open play.holder play.waiting g ≡ true → all_work (advanced_times n setting g play).seats < all_work play.seats
  opening zero play h o m = absurd (omega arith)
  opening (suc n) play h o m =
      let one : all_work (advanced_at setting g play).seats < all_work play.seats = rw (o, m) (less play.seats g (advanced (seat_at play g)) no_seat (opens_there play g o) (opens_moves (seat_at play g) o)) in
      omega (arith, work_times n (advanced_at setting g play), one)

-- the one that the chain is handed on to waits, and may open a scan
pub next_is : (holder : Option ℕ) (waiting : List ℕ) (g : ℕ) → next_in_line holder waiting ≡ Some g → (is_among g waiting ≡ true) × (may_open holder waiting g ≡ true)
next_is (Some h) waiting g e = absurd (let q : None ≡ Some g = e in cc)
next_is None [] g e = absurd (let q : None ≡ Some g = e in cc)
next_is None (first ∷ rest) g e =
    let same : first ≡ g = (let q : Some first ≡ Some g = e in cc) in
    let t : nat_eq first g ≡ true = eq-eqb first g same in
    (rw t refl, t)

module _ (setting : Setting) where
  pub calm_if : (play : Play) (next : Option ℕ) → next_in_line play.holder play.waiting ≡ next → Calm play → Calm (go_if next setting play)
  calm_if play None e calm = calm
  calm_if play (Some g) e calm =
      calm_going setting g play (opens_there play g (calm.ordered.waits g (next_is play.holder play.waiting g e).0)) calm.ordered (λ k h. calm.rest k)

  pub calm_served : (n : ℕ) (play : Play) → Calm play → Calm (handed_on_times n setting play)
  calm_served zero play calm = calm
  calm_served (suc n) play calm = calm_served n (handed_on_once setting play) (calm_if play (next_in_line play.holder play.waiting) refl calm)

  serving_works : (play : Play) (g : ℕ) → next_in_line play.holder play.waiting ≡ Some g → Calm play → all_work (go setting g play).seats < all_work play.seats
  serving_works play g e calm =
      let n = next_is play.holder play.waiting g e in
      opening setting g (steps_left (seat_at play g)) play (omega arith) (calm.ordered.waits g n.0) n.1

  none_stays : (n : ℕ) (play : Play) → next_in_line play.holder play.waiting ≡ None → handed_on_times n setting play ≡ play
  none_stays zero play e = refl
  none_stays (suc n) play e = ap (handed_on_times n setting) (ap (λ next. go_if next setting play) e) ∙ none_stays n play e

  -- with enough turns nobody is left to serve
  pub none_left : (n : ℕ) (play : Play) → Calm play → all_work play.seats ≤ n → next_in_line (handed_on_times n setting play).holder (handed_on_times n setting play).waiting ≡ None
  none_left zero play calm le = by_next (next_in_line play.holder play.waiting) refl
    where
      by_next : (next : Option ℕ) → next_in_line play.holder play.waiting ≡ next → next ≡ None
      by_next None e = refl
      by_next (Some g) e = absurd (let lt = serving_works play g e calm in omega (arith, lt, le))
  none_left (suc n) play calm le = by_next (next_in_line play.holder play.waiting) refl (λ p c l. none_left n p c l)
    where
      by_next : (next : Option ℕ) → next_in_line play.holder play.waiting ≡ next → ((p : Play) → Calm p → all_work p.seats ≤ n → next_in_line (handed_on_times n setting p).holder (handed_on_times n setting p).waiting ≡ None)
          → next_in_line (handed_on_times n setting (handed_on_once setting play)).holder (handed_on_times n setting (handed_on_once setting play)).waiting ≡ None
      by_next None e more = rw (ap (λ next. go_if next setting play) e, none_stays n play e) e
      by_next (Some g) e more =
          rw (ap (λ next. go_if next setting play) e)
          (more (go setting g play) (calm_if play (Some g) e calm) (let lt = serving_works play g e calm in omega (arith, lt, le)))

-- a play between two steps: every grant rests or waits, and nobody is left to serve
pub record Settled (play : Play) : Type 0 where
  pub calm : Calm play
  pub none : next_in_line play.holder play.waiting ≡ None

pub settled_served : (setting : Setting) (play : Play) → Calm play → Settled (handed_on setting play)
settled_served setting play calm = record {
  calm = calm_served setting (all_steps_left play.seats) play calm;
  none = none_left setting (all_steps_left play.seats) play calm (all_work_within play.seats);
}

pub settled_moved : (setting : Setting) (g0 : ℕ) (play : Play) → g0 < length play.seats → Ordered play → ((g : ℕ) → g ≢ g0 → IsFinished (seat_at play g) ⊎ (is_among g play.waiting ≡ true)) → Settled (moved setting g0 play)
settled_moved setting g0 play lt o others = settled_served setting (go setting g0 play) (calm_going setting g0 play lt o others)

-- ---- what all this keeps of each seat

module _ (setting : Setting) {A : Type 0} (f : Seat → A) (keep : (seat : Seat) → f (advanced seat) ≡ f seat) where
  keeps_if : (next : Option ℕ) (play : Play) (g : ℕ) → f (seat_at (go_if next setting play) g) ≡ f (seat_at play g)
  keeps_if None play g = refl
  keeps_if (Some g0) play g = keeps_times setting g0 f keep (steps_left (seat_at play g0)) play g

  keeps_served : (n : ℕ) (play : Play) (g : ℕ) → f (seat_at (handed_on_times n setting play) g) ≡ f (seat_at play g)
  keeps_served zero play g = refl
  keeps_served (suc n) play g = keeps_served n (handed_on_once setting play) g ∙ keeps_if (next_in_line play.holder play.waiting) play g

  pub keeps_moved : (g0 : ℕ) (play : Play) (g : ℕ) → f (seat_at (moved setting g0 play) g) ≡ f (seat_at play g)
  keeps_moved g0 play g =
      keeps_served (all_steps_left (go setting g0 play).seats) (go setting g0 play) g ∙ keeps_times setting g0 f keep (steps_left (seat_at play g0)) play g

length_if : (setting : Setting) (next : Option ℕ) (play : Play) → length (go_if next setting play).seats ≡ length play.seats
length_if setting None play = refl
length_if setting (Some g) play = length_times setting g (steps_left (seat_at play g)) play

length_served : (setting : Setting) (n : ℕ) (play : Play) → length (handed_on_times n setting play).seats ≡ length play.seats
length_served setting zero play = refl
length_served setting (suc n) play = length_served setting n (handed_on_once setting play) ∙ length_if setting (next_in_line play.holder play.waiting) play

pub length_moved : (setting : Setting) (g0 : ℕ) (play : Play) → length (moved setting g0 play).seats ≡ length play.seats
length_moved setting g0 play = length_served setting (all_steps_left (go setting g0 play).seats) (go setting g0 play) ∙ length_times setting g0 (steps_left (seat_at play g0)) play

-- ---- who waits, waits behind another's open scan

pub record BehindAnother (play : Play) (g : ℕ) : Type 0 where
  pub other : ℕ
  pub holds : play.holder ≡ Some other
  pub not_itself : other ≢ g
  pub not_waiting : is_waiting play other ≡ false
  pub scanning : (seat_at play other).chain.scan_open ≡ true

pub behind_another : (play : Play) (g : ℕ) → Settled play → is_waiting play g ≡ true → BehindAnother play g
behind_another play g settled behind = by_holder play.holder play.waiting refl refl settled.none behind
  where
    shut : (k : ℕ) → is_among k play.waiting ≡ true → (seat_at play k).chain.scan_open ≡ false
    shut k h = (opens_is (seat_at play k) (settled.calm.ordered.waits k h)).shut

    open_of : (h : ℕ) → play.holder ≡ Some h → (seat_at play h).chain.scan_open ≡ true
    open_of h e = settled.calm.ordered.holds h (rw e (eq-eqb h h refl))

    not_waiting : (h : ℕ) → play.holder ≡ Some h → (t : Bool) → is_among h play.waiting ≡ t → t ≡ false
    not_waiting h e true k = false_true (sym (shut h k) ∙ open_of h e)
    not_waiting h e false k = refl

    by_holder : (holder : Option ℕ) (waiting : List ℕ) → play.holder ≡ holder → play.waiting ≡ waiting → next_in_line holder waiting ≡ None → is_among g waiting ≡ true → BehindAnother play g
    by_holder None [] e w n b = false_true b
    by_holder None (first ∷ rest) e w n b = absurd (let q : Some first ≡ None = n in cc)
    by_holder (Some h) waiting e w n b = record {
      other = h;
      holds = e;
      not_itself = λ same. let hw : is_among h play.waiting ≡ true = rw (w, same) b in (let q : false ≡ true = sym (shut h hw) ∙ open_of h e in cc);
      not_waiting = not_waiting h e (is_among h play.waiting) refl;
      scanning = open_of h e;
    }
