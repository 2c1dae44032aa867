-- What a grant's turn makes of its seat, and of the count of joins and the cycles that are due.
use Rattle.std.proofs.Common.{◌≡◌, ◌≤◌, ◌+◌, ◌*◌, ℕ, zero, suc, Bool, true, false, cond, List, [], ◌∷◌, ◌++◌, length, refl, ap, sym, ◌∙◌, subst, arith, length-drop, inl, inr, ◌⊎◌, nat_le}
use Rattle.base_types.specs.Counts.{raised}
use Rattle.chain_token.specs.Waiting.{is_among, may_open}
use Rattle.client_session.specs.declared.End.{End}
use Rattle.client_session.specs.Acts.{Act}
use Rattle.client_session.specs.Acts.Act.{Say, SayTdo, Sample, Rise, Fall, Pack, SetLines, SetTrst, EndAt}
use Rattle.client_session.specs.Seats.{EndedSession, Next, Seat, acted, advanced, ended, gone_end, load_next, most_bytes, next_in, opens_next, step_of, steps_left, taken, without_message}
use Rattle.client_session.specs.Seats.Next.{Whole, RefusedAt, Nothing}
use Rattle.client_session.specs.Turns.{LayoutShape, Turn, advanced_as, advanced_turn, advanced_turns, freeing_cost, frees, gone_on, put_in_line, scan_length_of}
use Rattle.client_session.proofs.Growth.{advanced_kind}
use Rattle.client_session.proofs.Steps.{NextFits, next_fits}
use Rattle.client_session.proofs.Resting.{Rests, as_is, gone_on_rests, waits_still}
use Rattle.plays.proofs.Lists.{among-with_same, among-without_same, false_true}
use Rattle.session_table.specs.Tables.{IsFew}

-- ---- few acts and bytes

few_ended : (end : End) (seat : Seat) → IsFew (ended end seat)
few_ended end seat = record { acts = omega arith; bytes = omega arith }

few_quiet : (seat : Seat) → IsFew seat → IsFew (without_message seat)
few_quiet seat few = by (nat_le most_bytes (taken seat)) seat.gone
  where
    by : (b c : Bool) → IsFew (cond b (ended (End.Long most_bytes) seat) (cond c (ended (gone_end seat.used seat.unused) seat) seat))
    by true c = few_ended (End.Long most_bytes) seat
    by false true = few_ended (gone_end seat.used seat.unused) seat
    by false false = few

few_load : (n : Next) (seat : Seat) → NextFits seat.unused n → IsFew seat → IsFew (load_next n seat)
few_load (Whole acts count) seat fits few = record { acts = omega (arith, fits); bytes = omega (arith, fits, few.bytes, length-drop count seat.unused) }
few_load (RefusedAt at cause) seat fits few = few_ended (End.Refused (seat.used + at) cause) seat
few_load Nothing seat fits few = few_quiet seat few

few_act : (act : Act) (acts : List Act) (seat : Seat) → length acts ≤ 32 * seat.used → taken seat ≤ most_bytes → IsFew (acted act (record seat { acts = acts }))
few_act (Say x) acts seat a b = record { acts = a; bytes = b }
few_act SayTdo acts seat a b = record { acts = a; bytes = b }
few_act Sample acts seat a b = record { acts = a; bytes = b }
few_act (Rise tms tdi) acts seat a b = record { acts = a; bytes = b }
few_act Fall acts seat a b = record { acts = a; bytes = b }
few_act Pack acts seat a b = record { acts = a; bytes = b }
few_act (SetLines tck tms tdi) acts seat a b = record { acts = a; bytes = b }
few_act (SetTrst level) acts seat a b = record { acts = a; bytes = b }
few_act (EndAt at) acts seat a b = few_ended (End.Quit at) (record seat { acts = acts })

few_step : (acts : List Act) (seat : Seat) → seat.acts ≡ acts → IsFew seat → IsFew (step_of acts seat)
few_step [] seat is few = few_load (next_in seat.protocol seat) seat (next_fits seat.protocol seat) few
few_step (act ∷ acts) seat is few = few_act act acts seat (let e = ap length is in omega (arith, e, few.acts)) few.bytes

pub few_advanced : (seat : Seat) → IsFew seat → IsFew (advanced seat)
few_advanced seat few = by seat.going
  where
    by : (g : Bool) → IsFew (cond g (step_of seat.acts seat) seat)
    by true = few_step seat.acts seat refl few
    by false = few

-- ---- one step and many

module _ (layout : LayoutShape) (grant : ℕ) where
  step_seat : (turn : Turn) → ((advanced_turn layout grant turn).seat ≡ advanced turn.seat) ⊎ ((advanced_turn layout grant turn).seat ≡ turn.seat)
  step_seat turn = by (opens_next turn.seat) (may_open turn.holder turn.waiting grant)
    where
      by : (o m : Bool) → ((advanced_as o m layout grant turn).seat ≡ advanced turn.seat) ⊎ ((advanced_as o m layout grant turn).seat ≡ turn.seat)
      by false m = inl refl
      by true true = inl refl
      by true false = inr refl

  -- a fact of the seat that each step keeps
  keeps_turns : (P : Seat → Type 0) → ((seat : Seat) → P seat → P (advanced seat)) → (n : ℕ) (turn : Turn) → P turn.seat → P (advanced_turns n layout grant turn).seat
  keeps_turns P keep zero turn p = p
  keeps_turns P keep (suc n) turn p = keeps_turns P keep n (advanced_turn layout grant turn) (elim (step_seat turn) [
    | inl e ↦ subst P (sym e) (keep turn.seat p)
    | inr e ↦ subst P (sym e) p
  ])

  pub few_turn : (turn : Turn) → IsFew turn.seat → IsFew (gone_on layout grant turn).seat
  few_turn turn few = keeps_turns IsFew few_advanced (steps_left turn.seat) turn few

  -- the cycles that are due grow
  cost_as : (o m : Bool) (turn : Turn) → turn.cost ≤ (advanced_as o m layout grant turn).cost
  cost_as false m turn = by (frees turn.holder grant (advanced turn.seat))
    where
      by : (b : Bool) → turn.cost ≤ cond b (turn.cost + freeing_cost turn.seat.acts (scan_length_of layout grant turn.seat)) turn.cost
      by true = omega arith
      by false = omega arith
  cost_as true true turn = omega arith
  cost_as true false turn = omega arith

  cost_turns : (n : ℕ) (turn : Turn) → turn.cost ≤ (advanced_turns n layout grant turn).cost
  cost_turns zero turn = omega arith
  cost_turns (suc n) turn = omega (arith, cost_turns n (advanced_turn layout grant turn), cost_as (opens_next turn.seat) (may_open turn.holder turn.waiting grant) turn)

  pub cost_grows : (turn : Turn) → turn.cost ≤ (gone_on layout grant turn).cost
  cost_grows turn = cost_turns (steps_left turn.seat) turn

-- ---- whether the session ended

-- the session goes on; or it ended, and is put to those that have ended
pub record OnTurn (new old : Seat) : Type 0 where
  pub going : new.going ≡ old.going
  pub conn : new.conn ≡ old.conn
  pub past : new.past ≡ old.past

pub record OffTurn (new old : Seat) : Type 0 where
  pub one : EndedSession
  pub went : old.going ≡ true
  pub free : new.going ≡ false
  pub conn : one.conn ≡ old.conn
  pub past : new.past ≡ old.past ++ one ∷ []

abbrev pub AfterTurn : Seat → Seat → Type 0
AfterTurn new old = OnTurn new old ⊎ OffTurn new old

after_same : (seat : Seat) → OnTurn seat seat
after_same seat = record { going = refl; conn = refl; past = refl }

after_advanced : (seat : Seat) → AfterTurn (advanced seat) seat
after_advanced seat = elim (advanced_kind seat) [
  | inl on ↦ inl (record { going = on.going; conn = on.conn; past = on.past })
  | inr ends ↦ inr (record {
    one = record { conn = seat.conn; replies = seat.replies; end = ends.how };
    went = ends.went;
    free = ap (λ (s : Seat). s.going) ends.new_is;
    conn = refl;
    past = ap (λ (s : Seat). s.past) ends.new_is;
  })
]

after_more : (new mid old : Seat) → AfterTurn new mid → AfterTurn mid old → AfterTurn new old
after_more new mid old (inl b) (inl a) = inl (record { going = b.going ∙ a.going; conn = b.conn ∙ a.conn; past = b.past ∙ a.past })
after_more new mid old (inl b) (inr a) = inr (record { one = a.one; went = a.went; free = b.going ∙ a.free; conn = a.conn; past = b.past ∙ a.past })
after_more new mid old (inr b) (inl a) = inr (record { one = b.one; went = sym a.going ∙ b.went; free = b.free; conn = b.conn ∙ a.conn; past = b.past ∙ ap (λ xs. xs ++ b.one ∷ []) a.past })
after_more new mid old (inr b) (inr a) = false_true (sym a.free ∙ b.went)

after_turns : (n : ℕ) (layout : LayoutShape) (grant : ℕ) (turn : Turn) → AfterTurn (advanced_turns n layout grant turn).seat turn.seat
after_turns zero layout grant turn = inl (after_same turn.seat)
after_turns (suc n) layout grant turn =
    after_more (advanced_turns n layout grant (advanced_turn layout grant turn)).seat (advanced_turn layout grant turn).seat turn.seat (after_turns n layout grant (advanced_turn layout grant turn))
    (elim (step_seat layout grant turn) [
      | inl e ↦ subst (λ s. AfterTurn s turn.seat) (sym e) (after_advanced turn.seat)
      | inr e ↦ subst (λ s. AfterTurn s turn.seat) (sym e) (inl (after_same turn.seat))
    ])

pub after_gone_on : (layout : LayoutShape) (grant : ℕ) (turn : Turn) → AfterTurn (gone_on layout grant turn).seat turn.seat
after_gone_on layout grant turn = after_turns (steps_left turn.seat) layout grant turn

-- ---- how often it began to wait

-- the joins after a turn, by whether the grant is in line then
abbrev pub joined_if : Bool → ℕ → ℕ
joined_if true joins = raised joins 1
joined_if false joins = joins

module _ (layout : LayoutShape) (grant : ℕ) where
  rests_turns : (n : ℕ) (turn : Turn) → Rests layout grant turn → advanced_turns n layout grant turn ≡ turn
  rests_turns zero turn r = refl
  rests_turns (suc n) turn r = ap (advanced_turns n layout grant) r ∙ rests_turns n turn r

  -- of a grant that was not in line
  joins_turns : (n : ℕ) (turn : Turn) → is_among grant turn.waiting ≡ false → (advanced_turns n layout grant turn).joins ≡ joined_if (is_among grant (advanced_turns n layout grant turn).waiting) turn.joins
  joins_turns zero turn out = sym (ap (λ b. joined_if b turn.joins) out)
  joins_turns (suc n) turn out = by (opens_next turn.seat) (may_open turn.holder turn.waiting grant) refl refl (λ t. joins_turns n t)
    where
      by : (o m : Bool) → opens_next turn.seat ≡ o → may_open turn.holder turn.waiting grant ≡ m
          → ((t : Turn) → is_among grant t.waiting ≡ false → (advanced_turns n layout grant t).joins ≡ joined_if (is_among grant (advanced_turns n layout grant t).waiting) t.joins)
          → (advanced_turns n layout grant (advanced_turn layout grant turn)).joins ≡ joined_if (is_among grant (advanced_turns n layout grant (advanced_turn layout grant turn)).waiting) turn.joins
      by false m o k more = subst (λ t. (advanced_turns n layout grant t).joins ≡ joined_if (is_among grant (advanced_turns n layout grant t).waiting) turn.joins) (sym (as_is layout grant false m turn o k))
          (more (advanced_as false m layout grant turn) out)
      by true true o k more = subst (λ t. (advanced_turns n layout grant t).joins ≡ joined_if (is_among grant (advanced_turns n layout grant t).waiting) turn.joins) (sym (as_is layout grant true true turn o k))
          (more (advanced_as true true layout grant turn) (among-without_same grant turn.waiting))
      by true false o k more = subst (λ t. (advanced_turns n layout grant t).joins ≡ joined_if (is_among grant (advanced_turns n layout grant t).waiting) turn.joins) (sym (as_is layout grant true false turn o k))
          (subst (λ t. t.joins ≡ joined_if (is_among grant t.waiting) turn.joins) (sym (rests_turns n (put_in_line grant turn) (waits_still layout grant turn o k)))
          (ap (λ b. cond b turn.joins (raised turn.joins 1)) out ∙ sym (ap (λ b. joined_if b turn.joins) (among-with_same grant turn.waiting))))

  pub joins_out : (turn : Turn) → is_among grant turn.waiting ≡ false → (gone_on layout grant turn).joins ≡ joined_if (is_among grant (gone_on layout grant turn).waiting) turn.joins
  joins_out turn out = joins_turns (steps_left turn.seat) turn out

  steps_some : (seat : Seat) → (n : ℕ) × (steps_left seat ≡ suc n)
  steps_some seat = (length seat.acts + 32 * length seat.unused, omega arith)

  -- of a grant that is first in line of a free chain: it captures first
  pub joins_first : (turn : Turn) → opens_next turn.seat ≡ true → may_open turn.holder turn.waiting grant ≡ true → (gone_on layout grant turn).joins ≡ joined_if (is_among grant (gone_on layout grant turn).waiting) turn.joins
  joins_first turn o m =
      let n = steps_some turn.seat in
      subst (λ k. (advanced_turns k layout grant turn).joins ≡ joined_if (is_among grant (advanced_turns k layout grant turn).waiting) turn.joins) (sym n.1)
      (subst (λ t. (advanced_turns n.0 layout grant t).joins ≡ joined_if (is_among grant (advanced_turns n.0 layout grant t).waiting) turn.joins) (sym (as_is layout grant true true turn o m))
      (joins_turns n.0 (advanced_as true true layout grant turn) (among-without_same grant turn.waiting)))

  -- of a grant in line that may not open a scan: it stays so
  pub joins_still : (turn : Turn) → opens_next turn.seat ≡ true → may_open turn.holder turn.waiting grant ≡ false → is_among grant turn.waiting ≡ true → (gone_on layout grant turn).joins ≡ turn.joins
  joins_still turn o m waits = ap (λ (t : Turn). t.joins) (gone_on_rests layout grant turn (as_is layout grant true false turn o m ∙ same))
    where
      same : put_in_line grant turn ≡ turn
      same = rw waits refl
