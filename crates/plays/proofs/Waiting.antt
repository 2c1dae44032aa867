-- Who waits, and behind whom.
use Rattle.std.proofs.Common.{◌≡◌, ◌≢◌, ℕ, ◌<◌, ◌≤◌, Bool, true, false, not, ◌&&◌, cond, length, refl, ap, sym, ◌∙◌, arith, inl, inr, ◌⊎◌, subst, None}
use Rattle.std.specs.List.{slice_index_or}
use Rattle.std.proofs.lemmas.Bool.{eqb-true}
use Rattle.std.proofs.lemmas.Bool.Decides.{eqb_tells}
use Rattle.std.proofs.lemmas.List.{get_or-set_same, get_or-set_other, length-set, set-get_or}
use Rattle.client_session.specs.Seats.{Seat, advanced, opens_next}
use Rattle.client_session.proofs.Opening.{opens_opens}
use Rattle.plays.specs.Plays.{Setting, Play, seat_at, no_seat, is_among, without, may_open, is_holder, turn_at, after_turn, advanced_at}
use Rattle.client_session.specs.Turns.{frees, advanced_as}
use Rattle.plays.proofs.Lists.{own_or_same, past_end, false_true, among-without_same, among-without_other, among-with_other}

-- a seat about to open a scan is there
pub opens_there : (play : Play) (g : ℕ) → opens_next (seat_at play g) ≡ true → g < length play.seats
opens_there play g h = elim (or_not g (length play.seats)) [
  | inl lt ↦ lt
  | inr le ↦ false_true (subst (λ s. opens_next s ≡ true) (past_end play.seats g no_seat le) h)
]
  where
    or_not : (a b : ℕ) → (a < b) ⊎ (b ≤ a)
    or_not a b = grind arith

-- ---- one step in a play

-- the play after one load or act, by whether it opens a scan and may do so
abbrev pub as_play : (o m : Bool) → Setting → Play → ℕ → Play
as_play o m setting play g0 = after_turn g0 play (advanced_as o m setting.layout g0 (turn_at play g0))

-- a grant that joins those that wait leaves all seats
pub join_same : (setting : Setting) (play : Play) (g0 g : ℕ) → seat_at (as_play true false setting play g0) g ≡ seat_at play g
join_same setting play g0 g = ap (λ seats. slice_index_or seats g no_seat) (set-get_or play.seats g0 no_seat)

-- the seats of others stay
pub other_seat : (setting : Setting) (play : Play) (g0 g : ℕ) (o m : Bool) → g ≢ g0 → seat_at (as_play o m setting play g0) g ≡ seat_at play g
other_seat setting play g0 g false m h = get_or-set_other play.seats g0 g (advanced (seat_at play g0)) no_seat h
other_seat setting play g0 g true true h = get_or-set_other play.seats g0 g (advanced (seat_at play g0)) no_seat h
other_seat setting play g0 g true false h = join_same setting play g0 g

-- one's own is advanced, or stays
pub own_seat : (setting : Setting) (play : Play) (g0 : ℕ) (o m : Bool) → (seat_at (as_play o m setting play g0) g0 ≡ advanced (seat_at play g0)) ⊎ (seat_at (as_play o m setting play g0) g0 ≡ seat_at play g0)
own_seat setting play g0 false m = own_or_same play.seats g0 (advanced (seat_at play g0)) no_seat
own_seat setting play g0 true true = own_or_same play.seats g0 (advanced (seat_at play g0)) no_seat
own_seat setting play g0 true false = inr (join_same setting play g0 g0)

other_waiting : (setting : Setting) (play : Play) (g0 g : ℕ) (o m : Bool) → g ≢ g0 → is_among g (as_play o m setting play g0).waiting ≡ is_among g play.waiting
other_waiting setting play g0 g false m h = refl
other_waiting setting play g0 g true true h = among-without_other g g0 play.waiting h
other_waiting setting play g0 g true false h = among-with_other g g0 play.waiting h

pub length_as : (setting : Setting) (play : Play) (g0 : ℕ) (o m : Bool) → length (as_play o m setting play g0).seats ≡ length play.seats
length_as setting play g0 false m = length-set play.seats g0 (advanced (seat_at play g0))
length_as setting play g0 true true = length-set play.seats g0 (advanced (seat_at play g0))
length_as setting play g0 true false = length-set play.seats g0 (seat_at play g0)

module _ (setting : Setting) (g0 : ℕ) where
  pub at_other_seat : (play : Play) (g : ℕ) → g ≢ g0 → seat_at (advanced_at setting g0 play) g ≡ seat_at play g
  at_other_seat play g h = other_seat setting play g0 g (opens_next (seat_at play g0)) (may_open play.holder play.waiting g0) h

  pub at_other_waiting : (play : Play) (g : ℕ) → g ≢ g0 → is_among g (advanced_at setting g0 play).waiting ≡ is_among g play.waiting
  at_other_waiting play g h = other_waiting setting play g0 g (opens_next (seat_at play g0)) (may_open play.holder play.waiting g0) h

  pub length_at : (play : Play) → length (advanced_at setting g0 play).seats ≡ length play.seats
  length_at play = length_as setting play g0 (opens_next (seat_at play g0)) (may_open play.holder play.waiting g0)

  -- what a step of a seat keeps, a step in a play keeps of each seat
  pub keeps_at : {A : Type 0} (f : Seat → A) → ((seat : Seat) → f (advanced seat) ≡ f seat) → (play : Play) (g : ℕ) → f (seat_at (advanced_at setting g0 play) g) ≡ f (seat_at play g)
  keeps_at f keep play g = elim (eqb_tells g g0) [
    | inl e ↦ rw e.1 (elim (own_seat setting play g0 (opens_next (seat_at play g0)) (may_open play.holder play.waiting g0)) [
      | inl new ↦ ap f new ∙ keep (seat_at play g0)
      | inr old ↦ ap f old
    ])
    | inr n ↦ ap f (at_other_seat play g n.1)
  ]

  -- a fact that a step of a seat keeps
  pub holds_at : (P : ℕ → Seat → Type 0) → ((g : ℕ) (seat : Seat) → P g seat → P g (advanced seat)) → (play : Play) → ((g : ℕ) → P g (seat_at play g)) → (g : ℕ) → P g (seat_at (advanced_at setting g0 play) g)
  holds_at P keep play all g = elim (eqb_tells g g0) [
    | inl e ↦ rw e.1 (elim (own_seat setting play g0 (opens_next (seat_at play g0)) (may_open play.holder play.waiting g0)) [
      | inl new ↦ subst (P g0) (sym new) (keep g0 (seat_at play g0) (all g0))
      | inr old ↦ subst (P g0) (sym old) (all g0)
    ])
    | inr n ↦ subst (P g) (sym (at_other_seat play g n.1)) (all g)
  ]

-- ---- the discipline

-- those that wait are about to open a scan, and the holder's is open
pub record Ordered (play : Play) : Type 0 where
  pub waits : (g : ℕ) → is_among g play.waiting ≡ true → opens_next (seat_at play g) ≡ true
  pub holds : (g : ℕ) → is_holder play.holder g ≡ true → (seat_at play g).chain.scan_open ≡ true

module _ (setting : Setting) (g0 : ℕ) (play : Play) (ordered : Ordered play) where
  waits_as : (o m : Bool) → opens_next (seat_at play g0) ≡ o → (g : ℕ) → is_among g (as_play o m setting play g0).waiting ≡ true → opens_next (seat_at (as_play o m setting play g0) g) ≡ true
  waits_as false m h g w = elim (eqb_tells g g0) [
    | inl e ↦ false_true (sym h ∙ subst (λ k. opens_next (seat_at play k) ≡ true) e.1 (ordered.waits g w))
    | inr n ↦ rw (other_seat setting play g0 g false m n.1) (ordered.waits g w)
  ]
  waits_as true true h g w = elim (eqb_tells g g0) [
    | inl e ↦ false_true (sym (among-without_same g0 play.waiting) ∙ subst (λ k. is_among k (without g0 play.waiting) ≡ true) e.1 w)
    | inr n ↦ rw (other_seat setting play g0 g true true n.1) (ordered.waits g (sym (among-without_other g g0 play.waiting n.1) ∙ w))
  ]
  waits_as true false h g w = rw (join_same setting play g0 g) (elim (eqb_tells g g0) [
    | inl e ↦ subst (λ k. opens_next (seat_at play k) ≡ true) (sym e.1) h
    | inr n ↦ ordered.waits g (sym (among-with_other g g0 play.waiting n.1) ∙ w)
  ])

  -- where the holder's scan is still open
  still : (b : Bool) (g : ℕ) (new : Seat) → (is_holder play.holder g && not new.chain.scan_open) ≡ b → is_holder (cond b None play.holder) g ≡ true → new.chain.scan_open ≡ true
  still true g new h k = false_true k
  still false g new h k = go new.chain.scan_open refl
    where
      go : (s : Bool) → new.chain.scan_open ≡ s → s ≡ true
      go true e = refl
      go false e = false_true (sym h ∙ rw (k, e) refl)

  none_or_same : (b : Bool) (g : ℕ) → is_holder (cond b None play.holder) g ≡ true → is_holder play.holder g ≡ true
  none_or_same true g k = false_true k
  none_or_same false g k = k

  holds_as : (o m : Bool) → opens_next (seat_at play g0) ≡ o → (g : ℕ) → is_holder (as_play o m setting play g0).holder g ≡ true → (seat_at (as_play o m setting play g0) g).chain.scan_open ≡ true
  holds_as false m h g w = elim (eqb_tells g g0) [
    | inl e ↦ subst (λ k. (seat_at (as_play false m setting play g0) k).chain.scan_open ≡ true) (sym e.1)
        (let w0 = subst (λ k. is_holder (as_play false m setting play g0).holder k ≡ true) e.1 w in
        elim (own_seat setting play g0 false m) [
          | inl new ↦ rw new (still (frees play.holder g0 (advanced (seat_at play g0))) g0 (advanced (seat_at play g0)) refl w0)
          | inr old ↦ rw old (ordered.holds g0 (none_or_same (frees play.holder g0 (advanced (seat_at play g0))) g0 w0))
        ])
    | inr n ↦ rw (other_seat setting play g0 g false m n.1) (ordered.holds g (none_or_same (frees play.holder g0 (advanced (seat_at play g0))) g w))
  ]
  holds_as true true h g w =
      let same : g0 ≡ g = eqb-true g0 g w in
      subst (λ k. (seat_at (as_play true true setting play g0) k).chain.scan_open ≡ true) same
      (rw (get_or-set_same play.seats g0 (advanced (seat_at play g0)) no_seat (opens_there play g0 h)) (opens_opens (seat_at play g0) h))
  holds_as true false h g w = rw (join_same setting play g0 g) (ordered.holds g w)

  pub ordered_at : Ordered (advanced_at setting g0 play)
  ordered_at = record {
    waits = waits_as (opens_next (seat_at play g0)) (may_open play.holder play.waiting g0) refl;
    holds = holds_as (opens_next (seat_at play g0)) (may_open play.holder play.waiting g0) refl;
  }
