-- A grant's turn goes on until it rests: nothing is left to do, or the grant waits. Steps on the way change nothing of where it leads.
use Rattle.std.proofs.Common.{◌≡◌, ◌==◌, ℕ, zero, suc, ◌<◌, ◌≤◌, Bool, true, false, not, ◌&&◌, ◌||◌, cond, List, [], ◌∷◌, ◌++◌, refl, ap, sym, ◌∙◌, arith, inl, inr, subst, Some, None}
use Rattle.std.specs.declared.option.Option.{Option}
use Rattle.std.proofs.lemmas.Bool.{eq-eqb}
use Rattle.chain_token.specs.Waiting.{is_among, with_waiting, may_open}
use Rattle.client_session.specs.Seats.{advanced, steps_left, opens_next}
use Rattle.client_session.specs.Turns.{LayoutShape, Turn, is_holder, frees, stepped, put_in_line, advanced_as, advanced_turn, advanced_turns, gone_on}
use Rattle.client_session.specs.Going.{Holds}
use Rattle.client_session.proofs.Steps.{work, work_within, advanced_moves}
use Rattle.client_session.proofs.Opening.{opens_opens, opens_moves}
use Rattle.client_session.proofs.Shut.{advanced_shut}

never : {A : Type 0} → false ≡ true → A
never e = absurd (let q : false ≡ true = e in cc)

-- a step changes nothing
abbrev pub Rests : LayoutShape → ℕ → Turn → Type 0
Rests layout grant turn = advanced_turn layout grant turn ≡ turn

pub joined : (grant : ℕ) (waiting : List ℕ) → is_among grant (with_waiting grant waiting) ≡ true
joined grant waiting = by (is_among grant waiting) refl
  where
    last : (xs : List ℕ) → is_among grant (xs ++ grant ∷ []) ≡ true
    last [] = rw (eq-eqb grant grant refl) refl
    last (x ∷ xs) = rw (last xs) (or_true (x == grant))
      where
        or_true : (b : Bool) → (b || true) ≡ true
        or_true true = refl
        or_true false = refl

    by : (t : Bool) → is_among grant waiting ≡ t → is_among grant (cond t waiting (waiting ++ grant ∷ [])) ≡ true
    by true e = e
    by false e = last waiting

-- a grant that joins those that wait may still not open a scan
pub may_with : (holder : Option ℕ) (waiting : List ℕ) (grant : ℕ) → may_open holder waiting grant ≡ false → may_open holder (with_waiting grant waiting) grant ≡ false
may_with (Some h) waiting grant e = refl
may_with None [] grant e = never (sym e)
may_with None (first ∷ rest) grant e = by (is_among grant (first ∷ rest))
  where
    by : (t : Bool) → may_open None (cond t (first ∷ rest) ((first ∷ rest) ++ grant ∷ [])) grant ≡ false
    by true = e
    by false = e

module _ (layout : LayoutShape) (grant : ℕ) where
  pub as_is : (opens may : Bool) (turn : Turn) → opens_next turn.seat ≡ opens → may_open turn.holder turn.waiting grant ≡ may → advanced_turn layout grant turn ≡ advanced_as opens may layout grant turn
  as_is opens may turn h k = rw (h, k) refl

  -- ---- the holder

  freed : (holder : Option ℕ) (b n : Bool) → is_holder holder grant ≡ b → (b ≡ false → n ≡ false) → is_holder (cond (b && not n) None holder) grant ≡ n
  freed holder true true h k = h
  freed holder true false h k = refl
  freed holder false n h k = h ∙ sym (k refl)

  holds_as : (opens may : Bool) (turn : Turn) → opens_next turn.seat ≡ opens → Holds grant turn → Holds grant (advanced_as opens may layout grant turn)
  holds_as false may turn o h =
      let n = (advanced turn.seat).chain.scan_open in
      rw h (freed turn.holder turn.seat.chain.scan_open n h (λ shut. advanced_shut turn.seat o shut))
  holds_as true true turn o h = eq-eqb grant grant refl ∙ sym (opens_opens turn.seat o)
  holds_as true false turn o h = h

  pub holds_step : (turn : Turn) → Holds grant turn → Holds grant (advanced_turn layout grant turn)
  holds_step turn h = holds_as (opens_next turn.seat) (may_open turn.holder turn.waiting grant) turn refl h

  -- ---- one step: none, or one that leads on, or the grant waits

  not_freed : (b : Bool) → (b && not b) ≡ false
  not_freed true = refl
  not_freed false = refl

  pub idle_step : (turn : Turn) → Holds grant turn → advanced turn.seat ≡ turn.seat → stepped layout grant (advanced turn.seat) turn ≡ turn
  idle_step turn h same =
      let kept : frees turn.holder grant turn.seat ≡ false = rw h (not_freed turn.seat.chain.scan_open) in
      ap (λ s. stepped layout grant s turn) same ∙ rw kept refl

  again : (w : List ℕ) (joins more : ℕ) → is_among grant w ≡ true → cond (is_among grant w) joins more ≡ joins
  again w joins more e = rw e refl

  pub waits_still : (turn : Turn) → opens_next turn.seat ≡ true → may_open turn.holder turn.waiting grant ≡ false → Rests layout grant (put_in_line grant turn)
  waits_still turn o m =
      let in_line = put_in_line grant turn in
      let there : is_among grant in_line.waiting ≡ true = joined grant turn.waiting in
      let same : put_in_line grant in_line ≡ in_line = rw there refl in
      as_is true false in_line o (may_with turn.holder turn.waiting grant m) ∙ same

  -- what a step comes to
  pub data Step (turn next : Turn) : Type 0 where
    Stays : next ≡ turn → Step turn next
    LeadsOn : work next.seat < work turn.seat → Step turn next
    Waits : Rests layout grant next → 1 ≤ work turn.seat → Step turn next

  step_as : (opens may : Bool) (turn : Turn) → opens_next turn.seat ≡ opens → may_open turn.holder turn.waiting grant ≡ may → Holds grant turn → Step turn (advanced_as opens may layout grant turn)
  step_as false may turn o m h = elim (advanced_moves turn.seat) [ inl same ↦ Stays (idle_step turn h same) | inr less ↦ LeadsOn less ]
  step_as true true turn o m h = LeadsOn (opens_moves turn.seat o)
  step_as true false turn o m h = Waits (waits_still turn o m) (let less = opens_moves turn.seat o in omega arith)

  step : (turn : Turn) → Holds grant turn → Step turn (advanced_turn layout grant turn)
  step turn h = step_as (opens_next turn.seat) (may_open turn.holder turn.waiting grant) turn refl refl h

  -- ---- many steps

  pub rests_stays : (times : ℕ) (turn : Turn) → Rests layout grant turn → advanced_turns times layout grant turn ≡ turn
  rests_stays zero turn r = refl
  rests_stays (suc times) turn r = ap (advanced_turns times layout grant) r ∙ rests_stays times turn r

  still : (times : ℕ) (turn : Turn) → Rests layout grant turn → Rests layout grant (advanced_turns times layout grant turn)
  still times turn r = subst (Rests layout grant) (sym (rests_stays times turn r)) r

  -- enough steps lead to rest
  rests_after : (times : ℕ) (turn : Turn) → Holds grant turn → work turn.seat ≤ times → Rests layout grant (advanced_turns times layout grant turn)
  rests_after zero turn h le = elim (step turn h) [
    | Stays same ↦ same
    | LeadsOn less ↦ absurd (omega arith)
    | Waits r some ↦ absurd (omega arith)
  ]
  rests_after (suc times) turn h le = elim (step turn h) [
    | Stays same ↦ still (suc times) turn same
    | LeadsOn less ↦ rests_after times (advanced_turn layout grant turn) (holds_step turn h) (omega arith)
    | Waits r some ↦ still times (advanced_turn layout grant turn) r
  ]

  pub goes_to_rest : (turn : Turn) → Holds grant turn → Rests layout grant (gone_on layout grant turn)
  goes_to_rest turn h = rests_after (steps_left turn.seat) turn h (work_within turn.seat)

  -- two counts of steps that both lead to rest lead to the same
  one_rest : (m n : ℕ) (turn : Turn) → Rests layout grant (advanced_turns m layout grant turn) → Rests layout grant (advanced_turns n layout grant turn) → advanced_turns m layout grant turn ≡ advanced_turns n layout grant turn
  one_rest zero n turn h k = sym (rests_stays n turn h)
  one_rest (suc m) zero turn h k = rests_stays (suc m) turn k
  one_rest (suc m) (suc n) turn h k = one_rest m n (advanced_turn layout grant turn) h k

  -- a step leads where none leads
  pub gone_on-advanced : (turn : Turn) → Holds grant turn → gone_on layout grant (advanced_turn layout grant turn) ≡ gone_on layout grant turn
  gone_on-advanced turn h =
      let next = advanced_turn layout grant turn in
      one_rest (suc (steps_left next.seat)) (steps_left turn.seat) turn (goes_to_rest next (holds_step turn h)) (goes_to_rest turn h)

  -- where it rests, it stays
  pub gone_on_rests : (turn : Turn) → Rests layout grant turn → gone_on layout grant turn ≡ turn
  gone_on_rests turn r = rests_stays (steps_left turn.seat) turn r
