-- A grant holds the chain exactly where its seat has a scan open.
use Rattle.std.proofs.Common.{◌≡◌, ◌≢◌, ℕ, zero, suc, ◌<◌, ◌≤◌, Bool, true, false, not, ◌&&◌, cond, List, [], ◌∷◌, length, refl, sym, ◌∙◌, arith, inl, inr, ◌⊎◌, subst, Some, None}
use Rattle.std.specs.declared.option.Option.{Option}
use Rattle.std.proofs.lemmas.Bool.{eqb-true, eq-eqb}
use Rattle.std.proofs.lemmas.Bool.Decides.{eqb_tells}
use Rattle.std.proofs.lemmas.List.{get_or-set_same, get_or-set_other}
use Rattle.grant_table.specs.Layouts.{grant_of}
use Rattle.client_session.specs.Seats.{Seat, advanced, steps_left, opens_next}
use Rattle.client_session.specs.Turns.{frees}
use Rattle.client_session.specs.Private.{opened, received, took, dropped, is_live}
use Rattle.client_session.proofs.Shut.{advanced_shut}
use Rattle.wire_port.specs.Steps.{Step, opens_once}
use Rattle.wire_port.specs.Steps.Step.{Opened, Took, Gone, Shut}
use Rattle.plays.specs.Plays.{Setting, Play, SeatChange, seat_at, no_seat, with_seat, may_open, is_holder, advanced_at, advanced_times, go, next_in_line, go_if, handed_on_once, handed_on_times, all_steps_left, change_by_opening, change_of_live, change_by, after_change, after_step, after_steps, live_grant, start, played}
use Rattle.plays.proofs.Lists.{own_or_same, past_end, false_true}
use Rattle.plays.proofs.Waiting.{as_play, join_same, other_seat, length_as}
use Rattle.plays.proofs.Isolation.{start_free, played_isolated}

-- ---- whose scan is open, holds the chain

abbrev Held : Play → Type 0
Held play = (g : ℕ) → (seat_at play g).chain.scan_open ≡ true → is_holder play.holder g ≡ true

one_holder : (holder : Option ℕ) (g k : ℕ) → is_holder holder g ≡ true → is_holder holder k ≡ true → g ≡ k
one_holder None g k a b = false_true a
one_holder (Some h) g k a b = sym (eqb-true h g a) ∙ eqb-true h k b

may_none : {A : Type 0} (holder : Option ℕ) (w : List ℕ) (g k : ℕ) → may_open holder w g ≡ true → is_holder holder k ≡ true → A
may_none (Some h) w g k m a = false_true m
may_none None w g k m a = false_true a

first_of : (a b : Bool) → (a && b) ≡ true → a ≡ true
first_of true b h = refl
first_of false b h = false_true h

or_not : (a b : ℕ) → (a < b) ⊎ (b ≤ a)
or_not a b = grind arith

module _ (setting : Setting) (g0 : ℕ) (play : Play) (held : Held play) where
  -- the holder stays where its scan is open
  own_holder : (b : Bool) (new : Seat) → (is_holder play.holder g0 && not new.chain.scan_open) ≡ b → new.chain.scan_open ≡ true → is_holder play.holder g0 ≡ true → is_holder (cond b None play.holder) g0 ≡ true
  own_holder true new e w k = false_true (sym (rw (k, w) refl) ∙ e)
  own_holder false new e w k = k

  other_holder : (b : Bool) (rest : Bool) (g : ℕ) → g ≢ g0 → (is_holder play.holder g0 && rest) ≡ b → is_holder play.holder g ≡ true → is_holder (cond b None play.holder) g ≡ true
  other_holder true rest g n e k = absurd (n (one_holder play.holder g g0 k (first_of (is_holder play.holder g0) rest e)))
  other_holder false rest g n e k = k

  was_open : opens_next (seat_at play g0) ≡ false → (advanced (seat_at play g0)).chain.scan_open ≡ true → (seat_at play g0).chain.scan_open ≡ true
  was_open h w = by (seat_at play g0).chain.scan_open refl
    where
      by : (t : Bool) → (seat_at play g0).chain.scan_open ≡ t → t ≡ true
      by true e = refl
      by false e = false_true (sym (advanced_shut (seat_at play g0) h e) ∙ w)

  held_as : (o m : Bool) → opens_next (seat_at play g0) ≡ o → may_open play.holder play.waiting g0 ≡ m → Held (as_play o m setting play g0)
  held_as false m h k g w = elim (eqb_tells g g0) [
    | inl e ↦ subst (λ x. is_holder (as_play false m setting play g0).holder x ≡ true) (sym e.1)
        (let w0 = subst (λ x. (seat_at (as_play false m setting play g0) x).chain.scan_open ≡ true) e.1 w in
        elim (or_not g0 (length play.seats)) [
          | inl lt ↦ (let v = subst (λ s. s.chain.scan_open ≡ true) (get_or-set_same play.seats g0 (advanced (seat_at play g0)) no_seat lt) w0 in
              own_holder (frees play.holder g0 (advanced (seat_at play g0))) (advanced (seat_at play g0)) refl v (held g0 (was_open h v)))
          | inr le ↦ false_true (subst (λ s. s.chain.scan_open ≡ true) (past_end (as_play false m setting play g0).seats g0 no_seat (rw (length_as setting play g0 false m) le)) w0)
        ])
    | inr n ↦ other_holder (frees play.holder g0 (advanced (seat_at play g0))) (not (advanced (seat_at play g0)).chain.scan_open) g n.1 refl
        (held g (subst (λ s. s.chain.scan_open ≡ true) (other_seat setting play g0 g false m n.1) w))
  ]
  held_as true true h k g w = elim (eqb_tells g g0) [
    | inl e ↦ eq-eqb g0 g (sym e.1)
    | inr n ↦ may_none play.holder play.waiting g0 g k (held g (subst (λ s. s.chain.scan_open ≡ true) (other_seat setting play g0 g true true n.1) w))
  ]
  held_as true false h k g w = held g (subst (λ s. s.chain.scan_open ≡ true) (join_same setting play g0 g) w)

  held_at : Held (advanced_at setting g0 play)
  held_at = held_as (opens_next (seat_at play g0)) (may_open play.holder play.waiting g0) refl refl

-- ---- along a play

held_times : (n : ℕ) (setting : Setting) (g0 : ℕ) (play : Play) → Held play → Held (advanced_times n setting g0 play)
held_times zero setting g0 play h = h
held_times (suc n) setting g0 play h = held_times n setting g0 (advanced_at setting g0 play) (held_at setting g0 play h)

held_if : (o : Option ℕ) (setting : Setting) (play : Play) → Held play → Held (go_if o setting play)
held_if None setting play h = h
held_if (Some g) setting play h = held_times (steps_left (seat_at play g)) setting g play h

held_served : (n : ℕ) (setting : Setting) (play : Play) → Held play → Held (handed_on_times n setting play)
held_served zero setting play h = h
held_served (suc n) setting play h = held_served n setting (handed_on_once setting play) (held_if (next_in_line play.holder play.waiting) setting play h)

-- a seat that a step brings has a scan open only where its grant holds the chain
abbrev Fits : Play → Option SeatChange → Type 0
Fits play None = Unit {0}
Fits play (Some change) = change.seat.chain.scan_open ≡ true → is_holder play.holder change.grant ≡ true

held_with : (g0 : ℕ) (seat : Seat) (play : Play) → Held play → (seat.chain.scan_open ≡ true → is_holder play.holder g0 ≡ true) → Held (with_seat g0 seat play)
held_with g0 seat play h f g w = elim (eqb_tells g g0) [
  | inl e ↦ subst (λ x. is_holder play.holder x ≡ true) (sym e.1)
      (let w0 = subst (λ x. (seat_at (with_seat g0 seat play) x).chain.scan_open ≡ true) e.1 w in
      elim (own_or_same play.seats g0 seat no_seat) [
        | inl new ↦ f (subst (λ s. s.chain.scan_open ≡ true) new w0)
        | inr old ↦ h g0 (subst (λ s. s.chain.scan_open ≡ true) old w0)
      ])
  | inr n ↦ h g (subst (λ s. s.chain.scan_open ≡ true) (get_or-set_other play.seats g0 g seat no_seat n.1) w)
]

held_touch : (setting : Setting) (play : Play) (o : Option SeatChange) → Held play → Fits play o → Held (after_change setting play o)
held_touch setting play None h f = h
held_touch setting play (Some change) h f =
    let p = with_seat change.grant change.seat play in
    held_served (all_steps_left (go setting change.grant p).seats) setting (go setting change.grant p)
    (held_times (steps_left (seat_at p change.grant)) setting change.grant p (held_with change.grant change.seat play h f))

fits_free : (o : Option ℕ) (c : ℕ) (play : Play) → Fits play (change_by_opening o c play)
fits_free None c play = _
fits_free (Some g) c play = by (seat_at play g).going
  where
    by : (t : Bool) → Fits play (cond t None (Some (record { grant = g; seat = opened c (seat_at play g) })))
    by true = _
    by false = λ w. false_true w

fits_live : (o : Option ℕ) (event : Seat → Seat) (play : Play) → ((seat : Seat) → (event seat).chain.scan_open ≡ seat.chain.scan_open) → Held play → Fits play (change_of_live o event play)
fits_live None event play same h = _
fits_live (Some g) event play same h = λ w. h g (sym (same (seat_at play g)) ∙ w)

took_same : (c : ℕ) (b : List ℕ) (seat : Seat) → (took c b seat).chain.scan_open ≡ seat.chain.scan_open
took_same c b seat = by (is_live c seat && not seat.gone)
  where
    by : (t : Bool) → (cond t (received b seat) seat).chain.scan_open ≡ seat.chain.scan_open
    by true = refl
    by false = refl

dropped_same : (c : ℕ) (seat : Seat) → (dropped c seat).chain.scan_open ≡ seat.chain.scan_open
dropped_same c seat = by (is_live c seat)
  where
    by : (t : Bool) → (cond t (record seat { gone = true }) seat).chain.scan_open ≡ seat.chain.scan_open
    by true = refl
    by false = refl

fits_step : (setting : Setting) (play : Play) (step : Step) → Held play → Fits play (change_by setting play step)
fits_step setting play (Opened c port) h = fits_free (grant_of setting.layout port) c play
fits_step setting play (Took c b) h = fits_live (live_grant c play.seats) (took c b) play (took_same c b) h
fits_step setting play (Gone c) h = fits_live (live_grant c play.seats) (dropped c) play (dropped_same c) h
fits_step setting play (Shut c) h = _

held_steps : (setting : Setting) (steps : List Step) (play : Play) → Held play → Held (after_steps setting steps play)
held_steps setting [] play h = h
held_steps setting (step ∷ steps) play h = held_steps setting steps (after_step setting play step) (held_touch setting play (change_by setting play step) h (fits_step setting play step h))

same_bool : (a b : Bool) → (a ≡ true → b ≡ true) → (b ≡ true → a ≡ true) → a ≡ b
same_bool true b f k = sym (f refl)
same_bool false true f k = k refl
same_bool false false f k = refl

pub scan_held : (setting : Setting) (steps : List Step) (g : ℕ) → opens_once steps ≡ true → is_holder (played setting steps).holder g ≡ (seat_at (played setting steps) g).chain.scan_open
scan_held setting steps g once =
    same_bool (is_holder (played setting steps).holder g) (seat_at (played setting steps) g).chain.scan_open
    ((played_isolated setting steps once).settled.calm.ordered.holds g)
    (held_steps setting steps (start setting) (λ k w. false_true (sym (start_free setting k).shut ∙ w)) g)
