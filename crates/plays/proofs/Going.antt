-- A grant goes on until nothing is left to do or it waits, and then those that wait.
use Rattle.std.proofs.Common.{◌≡◌, ◌≢◌, ℕ, zero, suc, ◌<◌, ◌≤◌, Bool, true, false, cond, List, [], ◌∷◌, ◌++◌, length, refl, ap, sym, ◌∙◌, arith, inl, inr, ◌⊎◌, subst, Some, None}
use Rattle.std.specs.declared.option.Option.{Option}
use Rattle.std.proofs.lemmas.Bool.Decides.{eqb_tells}
use Rattle.std.proofs.lemmas.List.{get_or-set_same}
use Rattle.client_session.specs.Seats.{Seat, advanced, steps_left, IsFinished, opens_next}
use Rattle.client_session.proofs.Steps.{work, work_within, advanced_moves, Moves}
use Rattle.plays.specs.Plays.{Setting, Play, seat_at, no_seat, is_among, with_waiting, may_open, advanced_at, advanced_times, go}
use Rattle.plays.proofs.Lists.{false_true, among-with_same}
use Rattle.plays.proofs.Waiting.{Ordered, ordered_at, at_other_seat, at_other_waiting, length_at, keeps_at, as_play, join_same}

-- the grant's seat cannot go on, and the grant is among those that wait
pub record Stuck (play : Play) (g : ℕ) : Type 0 where
  pub opens : opens_next (seat_at play g) ≡ true
  pub may : may_open play.holder play.waiting g ≡ false
  pub waits : is_among g play.waiting ≡ true

-- nothing is left to do, or the grant waits
abbrev pub Rests : Play → ℕ → Type 0
Rests play g = IsFinished (seat_at play g) ⊎ Stuck play g

-- a grant that joins those that wait may still not open a scan
may_with : (holder : Option ℕ) (w : List ℕ) (g : ℕ) → may_open holder w g ≡ false → may_open holder (with_waiting g w) g ≡ false
may_with (Some h) w g e = refl
may_with None [] g e = false_true (sym e)
may_with None (x ∷ w) g e = by_place (is_among g (x ∷ w))
  where
    by_place : (t : Bool) → may_open None (cond t (x ∷ w) ((x ∷ w) ++ g ∷ [])) g ≡ false
    by_place true = e
    by_place false = e

module _ (setting : Setting) (g0 : ℕ) where
  -- a step that joins leaves the grant stuck
  joins_stuck : (play : Play) → opens_next (seat_at play g0) ≡ true → may_open play.holder play.waiting g0 ≡ false → Stuck (as_play true false setting play g0) g0
  joins_stuck play o m = record { opens = rw (join_same setting play g0 g0) o; may = may_with play.holder play.waiting g0 m; waits = among-with_same g0 play.waiting }

  step_as : (play : Play) (o m : Bool) → opens_next (seat_at play g0) ≡ o → may_open play.holder play.waiting g0 ≡ m → advanced_at setting g0 play ≡ as_play o m setting play g0
  step_as play o m h k = rw (h, k) refl

  via : (P : Play → Type 0) (play : Play) (o m : Bool) → opens_next (seat_at play g0) ≡ o → may_open play.holder play.waiting g0 ≡ m → P (as_play o m setting play g0) → P (advanced_at setting g0 play)
  via P play o m h k = subst P (sym (step_as play o m h k))

  -- a grant that rests goes on to rest
  rests_on : (play : Play) → g0 < length play.seats → Rests play g0 → Rests (advanced_at setting g0 play) g0
  rests_on play lt (inl done) = by_case (opens_next (seat_at play g0)) (may_open play.holder play.waiting g0) refl refl
    where
      by_case : (o m : Bool) → opens_next (seat_at play g0) ≡ o → may_open play.holder play.waiting g0 ≡ m → Rests (advanced_at setting g0 play) g0
      by_case false m h k = via (λ p. Rests p g0) play false m h k (inl (rw (get_or-set_same play.seats g0 (advanced (seat_at play g0)) no_seat lt) (ap advanced done)))
      by_case true true h k = via (λ p. Rests p g0) play true true h k (inl (rw (get_or-set_same play.seats g0 (advanced (seat_at play g0)) no_seat lt) (ap advanced done)))
      by_case true false h k = via (λ p. Rests p g0) play true false h k (inr (joins_stuck play h k))
  rests_on play lt (inr stuck) = via (λ p. Rests p g0) play true false stuck.opens stuck.may (inr (joins_stuck play stuck.opens stuck.may))

  pub rests_long : (n : ℕ) (play : Play) → g0 < length play.seats → Rests play g0 → Rests (advanced_times n setting g0 play) g0
  rests_long zero play lt r = r
  rests_long (suc n) play lt r = rests_long n (advanced_at setting g0 play) (rw (length_at setting g0 play) lt) (rests_on play lt r)

  -- enough steps lead to rest
  pub rests_after : (n : ℕ) (play : Play) → g0 < length play.seats → work (seat_at play g0) ≤ n → Rests (advanced_times n setting g0 play) g0
  rests_after zero play lt le = elim (advanced_moves (seat_at play g0)) [ inl e ↦ inl e | inr less ↦ absurd (omega arith) ]
  rests_after (suc n) play lt le = by_case (opens_next (seat_at play g0)) (may_open play.holder play.waiting g0) refl refl (λ p. rests_after n p)
    where
      there : g0 < length (advanced_at setting g0 play).seats
      there = rw (length_at setting g0 play) lt

      by_move : (o m : Bool) → seat_at (advanced_at setting g0 play) g0 ≡ advanced (seat_at play g0) → Moves (advanced (seat_at play g0)) (seat_at play g0)
          → ((p : Play) → g0 < length p.seats → work (seat_at p g0) ≤ n → Rests (advanced_times n setting g0 p) g0) → Rests (advanced_times n setting g0 (advanced_at setting g0 play)) g0
      by_move o m new (inl same) more = rests_long n (advanced_at setting g0 play) there (inl (rw new (ap advanced same)))
      by_move o m new (inr less) more = more (advanced_at setting g0 play) there (rw new (omega (arith, less, le)))

      by_case : (o m : Bool) → opens_next (seat_at play g0) ≡ o → may_open play.holder play.waiting g0 ≡ m
          → ((p : Play) → g0 < length p.seats → work (seat_at p g0) ≤ n → Rests (advanced_times n setting g0 p) g0) → Rests (advanced_times n setting g0 (advanced_at setting g0 play)) g0
      by_case false m h k more = by_move false m (via (λ p. seat_at p g0 ≡ advanced (seat_at play g0)) play false m h k (get_or-set_same play.seats g0 (advanced (seat_at play g0)) no_seat lt)) (advanced_moves (seat_at play g0)) more
      by_case true true h k more = by_move true true (via (λ p. seat_at p g0 ≡ advanced (seat_at play g0)) play true true h k (get_or-set_same play.seats g0 (advanced (seat_at play g0)) no_seat lt)) (advanced_moves (seat_at play g0)) more
      by_case true false h k more = rests_long n (advanced_at setting g0 play) there (via (λ p. Rests p g0) play true false h k (inr (joins_stuck play h k)))

  pub rests_going : (play : Play) → g0 < length play.seats → Rests (go setting g0 play) g0
  rests_going play lt = rests_after (steps_left (seat_at play g0)) play lt (work_within (seat_at play g0))

  -- ---- what many steps keep

  pub ordered_times : (n : ℕ) (play : Play) → Ordered play → Ordered (advanced_times n setting g0 play)
  ordered_times zero play o = o
  ordered_times (suc n) play o = ordered_times n (advanced_at setting g0 play) (ordered_at setting g0 play o)

  pub length_times : (n : ℕ) (play : Play) → length (advanced_times n setting g0 play).seats ≡ length play.seats
  length_times zero play = refl
  length_times (suc n) play = length_times n (advanced_at setting g0 play) ∙ length_at setting g0 play

  pub other_seat_times : (n : ℕ) (play : Play) (g : ℕ) → g ≢ g0 → seat_at (advanced_times n setting g0 play) g ≡ seat_at play g
  other_seat_times zero play g h = refl
  other_seat_times (suc n) play g h = other_seat_times n (advanced_at setting g0 play) g h ∙ at_other_seat setting g0 play g h

  pub other_waiting_times : (n : ℕ) (play : Play) (g : ℕ) → g ≢ g0 → is_among g (advanced_times n setting g0 play).waiting ≡ is_among g play.waiting
  other_waiting_times zero play g h = refl
  other_waiting_times (suc n) play g h = other_waiting_times n (advanced_at setting g0 play) g h ∙ at_other_waiting setting g0 play g h

  pub keeps_times : {A : Type 0} (f : Seat → A) → ((seat : Seat) → f (advanced seat) ≡ f seat) → (n : ℕ) (play : Play) (g : ℕ) → f (seat_at (advanced_times n setting g0 play) g) ≡ f (seat_at play g)
  keeps_times f keep zero play g = refl
  keeps_times f keep (suc n) play g = keeps_times f keep n (advanced_at setting g0 play) g ∙ keeps_at setting g0 f keep play g

-- a play in which every grant rests or waits
pub record Calm (play : Play) : Type 0 where
  pub ordered : Ordered play
  pub rest : (g : ℕ) → IsFinished (seat_at play g) ⊎ (is_among g play.waiting ≡ true)

-- a grant that goes on leaves a play calm that was calm but for it
pub calm_going : (setting : Setting) (g0 : ℕ) (play : Play) → g0 < length play.seats → Ordered play → ((g : ℕ) → g ≢ g0 → IsFinished (seat_at play g) ⊎ (is_among g play.waiting ≡ true)) → Calm (go setting g0 play)
calm_going setting g0 play lt o others = record {
  ordered = ordered_times setting g0 (steps_left (seat_at play g0)) play o;
  rest = λ g. elim (eqb_tells g g0) [
    | inl e ↦ rw e.1 (from_rests (rests_going setting g0 play lt))
    | inr n ↦ other g n.1 (others g n.1)
  ];
}
  where
    from_rests : Rests (go setting g0 play) g0 → IsFinished (seat_at (go setting g0 play) g0) ⊎ (is_among g0 (go setting g0 play).waiting ≡ true)
    from_rests (inl done) = inl done
    from_rests (inr stuck) = inr stuck.waits

    other : (g : ℕ) → g ≢ g0 → IsFinished (seat_at play g) ⊎ (is_among g play.waiting ≡ true) → IsFinished (seat_at (go setting g0 play) g) ⊎ (is_among g (go setting g0 play).waiting ≡ true)
    other g n (inl done) = inl (subst IsFinished (sym (other_seat_times setting g0 (steps_left (seat_at play g0)) play g n)) done)
    other g n (inr waits) = inr (other_waiting_times setting g0 (steps_left (seat_at play g0)) play g n ∙ waits)
