-- What each load or act keeps of a play, a grant that goes on keeps, and so does a whole step.
use Rattle.std.proofs.Common.{ℕ, zero, suc, Bool, true, false, cond, sym, subst, inl, inr, Some, None}
use Rattle.std.specs.declared.option.Option.{Option}
use Rattle.std.proofs.lemmas.Bool.Decides.{eqb_tells}
use Rattle.std.proofs.lemmas.List.{get_or-set_other}
use Rattle.client_session.specs.Seats.{Seat, advanced, steps_left}
use Rattle.client_session.specs.Private.{opened}
use Rattle.plays.specs.Plays.{Setting, Play, SeatChange, seat_at, no_seat, with_seat, advanced_at, advanced_times, go, next_in_line, go_if, handed_on_once, handed_on_times, all_steps_left, moved, change_by_opening, change_of_live, after_change}
use Rattle.plays.proofs.Lists.{own_or_same}
use Rattle.plays.proofs.Waiting.{holds_at}

module _ (setting : Setting) (P : Play → Type 0) (keep : (g : ℕ) (play : Play) → P play → P (advanced_at setting g play)) where
  times_keep : (n g : ℕ) (play : Play) → P play → P (advanced_times n setting g play)
  times_keep zero g play p = p
  times_keep (suc n) g play p = times_keep n g (advanced_at setting g play) (keep g play p)

  pub go_keeps : (g : ℕ) (play : Play) → P play → P (go setting g play)
  go_keeps g play p = times_keep (steps_left (seat_at play g)) g play p

  pub go_if_keeps : (next : Option ℕ) (play : Play) → P play → P (go_if next setting play)
  go_if_keeps None play p = p
  go_if_keeps (Some g) play p = go_keeps g play p

  served_keep : (n : ℕ) (play : Play) → P play → P (handed_on_times n setting play)
  served_keep zero play p = p
  served_keep (suc n) play p = served_keep n (handed_on_once setting play) (go_if_keeps (next_in_line play.holder play.waiting) play p)

  -- a grant goes on, and then those that wait
  pub moved_keeps : (g : ℕ) (play : Play) → P play → P (moved setting g play)
  moved_keeps g play p = served_keep (all_steps_left (go setting g play).seats) (go setting g play) (go_keeps g play p)

-- a fact of the seat that a step brings
abbrev pub TouchHolds : (ℕ → Seat → Type 0) → Option SeatChange → Type 0
TouchHolds P None = Unit {0}
TouchHolds P (Some change) = P change.grant change.seat

-- a fact of each grant's seat
module _ (setting : Setting) (P : ℕ → Seat → Type 0) (keep : (g : ℕ) (seat : Seat) → P g seat → P g (advanced seat)) where
  pub holds_if : (next : Option ℕ) (play : Play) → ((g : ℕ) → P g (seat_at play g)) → (g : ℕ) → P g (seat_at (go_if next setting play) g)
  holds_if next play all = go_if_keeps setting (λ p. (g : ℕ) → P g (seat_at p g)) (λ g0 p. holds_at setting g0 P keep p) next play all

  pub holds_moved : (g0 : ℕ) (play : Play) → ((g : ℕ) → P g (seat_at play g)) → (g : ℕ) → P g (seat_at (moved setting g0 play) g)
  holds_moved g0 play all = moved_keeps setting (λ p. (g : ℕ) → P g (seat_at p g)) (λ g1 p. holds_at setting g1 P keep p) g0 play all

  -- of a seat that is put in
  holds_with : (g0 : ℕ) (seat : Seat) (play : Play) → ((g : ℕ) → P g (seat_at play g)) → P g0 seat → (g : ℕ) → P g (seat_at (with_seat g0 seat play) g)
  holds_with g0 seat play all own g = elim (eqb_tells g g0) [
    | inl e ↦ subst (λ k. P k (seat_at (with_seat g0 seat play) k)) (sym e.1) (elim (own_or_same play.seats g0 seat no_seat) [
      | inl new ↦ subst (P g0) (sym new) own
      | inr old ↦ subst (P g0) (sym old) (all g0)
    ])
    | inr n ↦ subst (P g) (sym (get_or-set_other play.seats g0 g seat no_seat n.1)) (all g)
  ]

  -- and of a step, where it holds of what the step brings
  pub touch_holds : (play : Play) (o : Option SeatChange) → ((g : ℕ) → P g (seat_at play g)) → TouchHolds P o → (g : ℕ) → P g (seat_at (after_change setting play o) g)
  touch_holds play None all own = all
  touch_holds play (Some change) all own = holds_moved change.grant (with_seat change.grant change.seat play) (holds_with change.grant change.seat play all own)

-- a connection that opens, and what comes from one that is live
module _ (P Q : ℕ → Seat → Type 0) (play : Play) (all : (g : ℕ) → P g (seat_at play g)) where
  pub free_holds : (conn : ℕ) → ((g : ℕ) (seat : Seat) → P g seat → Q g (opened conn seat)) → (o : Option ℕ) → TouchHolds Q (change_by_opening o conn play)
  free_holds conn keeps None = tt
  free_holds conn keeps (Some g) = by (seat_at play g).going
    where
      by : (t : Bool) → TouchHolds Q (cond t None (Some (record { grant = g; seat = opened conn (seat_at play g) })))
      by true = tt
      by false = keeps g (seat_at play g) (all g)

  pub live_holds : (event : Seat → Seat) → ((g : ℕ) (seat : Seat) → P g seat → Q g (event seat)) → (o : Option ℕ) → TouchHolds Q (change_of_live o event play)
  live_holds event keeps None = tt
  live_holds event keeps (Some g) = keeps g (seat_at play g) (all g)
