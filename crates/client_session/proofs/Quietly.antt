-- Steps that neither open nor close a scan.
use Rattle.std.proofs.Common.{◌≡◌, ℕ, zero, suc, ◌+◌, Bool, true, false, not, ◌&&◌, cond, List, ◌∷◌, refl, ap, sym, ◌∙◌, subst, arith, None}
use Rattle.chain_token.specs.Waiting.{may_open}
use Rattle.scan_share.specs.Scans.{code_list, contents_of}
use Rattle.tap_states.specs.States.{is_capture_dr}
use Rattle.client_session.specs.Acts.{Act}
use Rattle.client_session.specs.Seats.{Seat, acted, advanced, opens_next, rises_next}
use Rattle.client_session.specs.Turns.{LayoutShape, Turn, frees, freeing_cost, scan_length_of, advanced_turn, advanced_turns, gone_on}
use Rattle.client_session.specs.Going.{Holds, Quiet, Leads, GoesTo}
use Rattle.client_session.proofs.Answering.{one_act}
use Rattle.client_session.proofs.Resting.{as_is, holds_step, gone_on-advanced}

module _ (layout : LayoutShape) (grant : ℕ) where
  pub advanced_turns-add : (m n : ℕ) (turn : Turn) → advanced_turns (m + n) layout grant turn ≡ advanced_turns n layout grant (advanced_turns m layout grant turn)
  advanced_turns-add zero n turn = let none : 0 + n ≡ n = omega arith in ap (λ k. advanced_turns k layout grant turn) none
  advanced_turns-add (suc m) n turn =
      let one : suc m + n ≡ suc (m + n) = omega arith in
      ap (λ k. advanced_turns k layout grant turn) one ∙ advanced_turns-add m n (advanced_turn layout grant turn)

  pub quiet_none : (turn : Turn) → Quiet layout grant turn turn
  quiet_none turn = record { steps = 0; made = refl; holder = refl; waiting = refl; joins = refl; cost = refl; scan = refl; contents = refl; codes = λ h. refl }

  pub quiet_more : (turn next last : Turn) → Quiet layout grant turn next → Quiet layout grant next last → Quiet layout grant turn last
  quiet_more turn next last q r = record {
    steps = q.steps + r.steps;
    made = r.made ∙ ap (advanced_turns r.steps layout grant) q.made ∙ sym (advanced_turns-add q.steps r.steps turn);
    holder = r.holder ∙ q.holder;
    waiting = r.waiting ∙ q.waiting;
    joins = r.joins ∙ q.joins;
    cost = r.cost ∙ q.cost;
    scan = r.scan ∙ q.scan;
    contents = r.contents ∙ q.contents;
    codes = λ h. r.codes (q.scan ∙ h) ∙ q.codes h;
  }

  never_both : (b : Bool) → (b && not b) ≡ false
  never_both true = refl
  never_both false = refl

  -- a step that leaves whether a scan is open
  module _ (turn : Turn) (opens : opens_next turn.seat ≡ false) (holds : Holds grant turn) (scan : (advanced turn.seat).chain.scan_open ≡ turn.seat.chain.scan_open) where
    pub still_turn : advanced_turn layout grant turn ≡ record turn { seat = advanced turn.seat }
    still_turn =
        let kept : frees turn.holder grant (advanced turn.seat) ≡ false = (λ i. holds i && not (scan i)) ∙ never_both turn.seat.chain.scan_open in
        as_is layout grant false (may_open turn.holder turn.waiting grant) turn opens refl ∙ (λ i. record {
          seat = advanced turn.seat;
          holder = cond (kept i) None turn.holder;
          waiting = turn.waiting;
          joins = turn.joins;
          cost = cond (kept i) (turn.cost + freeing_cost turn.seat.acts (scan_length_of layout grant turn.seat)) turn.cost;
        })

    pub still_step : contents_of (advanced turn.seat).chain ≡ contents_of turn.seat.chain → (turn.seat.chain.scan_open ≡ true → code_list (advanced turn.seat).chain ≡ code_list turn.seat.chain)
        → Quiet layout grant turn (record turn { seat = advanced turn.seat })
    still_step contents codes = record {
      steps = 1;
      made = sym still_turn;
      holder = refl;
      waiting = refl;
      joins = refl;
      cost = refl;
      scan = scan;
      contents = contents;
      codes = codes;
    }

  -- an act that leaves whether a scan is open
  pub quiet_act : (act : Act) (acts : List Act) (turn : Turn) → turn.seat.going ≡ true → turn.seat.acts ≡ act ∷ acts → opens_next turn.seat ≡ false → Holds grant turn
      → (acted act (record turn.seat { acts = acts })).chain.scan_open ≡ turn.seat.chain.scan_open
      → contents_of (acted act (record turn.seat { acts = acts })).chain ≡ contents_of turn.seat.chain
      → (turn.seat.chain.scan_open ≡ true → code_list (acted act (record turn.seat { acts = acts })).chain ≡ code_list turn.seat.chain)
      → Quiet layout grant turn (record turn { seat = acted act (record turn.seat { acts = acts }) })
  quiet_act act acts turn going a opens holds scan contents codes =
      let made = one_act act acts turn.seat going a in
      subst (λ s. Quiet layout grant turn (record turn { seat = s })) made
      (still_step turn opens holds (ap (λ (s : Seat). s.chain.scan_open) made ∙ scan) (ap (λ (s : Seat). contents_of s.chain) made ∙ contents) (λ h. ap (λ (s : Seat). code_list s.chain) made ∙ codes h))

  -- quiet steps lead where none lead
  pub holds_on : (times : ℕ) (turn : Turn) → Holds grant turn → Holds grant (advanced_turns times layout grant turn)
  holds_on zero turn h = h
  holds_on (suc times) turn h = holds_on times (advanced_turn layout grant turn) (holds_step layout grant turn h)

  pub gone_on-steps : (times : ℕ) (turn : Turn) → Holds grant turn → gone_on layout grant (advanced_turns times layout grant turn) ≡ gone_on layout grant turn
  gone_on-steps zero turn h = refl
  gone_on-steps (suc times) turn h = gone_on-steps times (advanced_turn layout grant turn) (holds_step layout grant turn h) ∙ gone_on-advanced layout grant turn h

  pub gone_on-quiet : (turn next : Turn) → Quiet layout grant turn next → Holds grant turn → gone_on layout grant next ≡ gone_on layout grant turn
  gone_on-quiet turn next q h = ap (gone_on layout grant) q.made ∙ gone_on-steps q.steps turn h

-- ---- what opens no scan

and_none : (a b c : Bool) → (a && (b && (c && false))) ≡ false
and_none true true true = refl
and_none true true false = refl
and_none true false c = refl
and_none false b c = refl

pub no_rise_next : (seat : Seat) → rises_next seat.acts seat ≡ false → opens_next seat ≡ false
no_rise_next seat h = rw h (and_none seat.going (is_capture_dr seat.chain.state) (not seat.chain.scan_open))

and_other : (a b : Bool) → (a && (false && b)) ≡ false
and_other true b = refl
and_other false b = refl

pub not_at_capture : (seat : Seat) → is_capture_dr seat.chain.state ≡ false → opens_next seat ≡ false
not_at_capture seat h = rw h (and_other seat.going (not seat.chain.scan_open && rises_next seat.acts seat))

-- ---- where quiet steps lead

pub leads_none : (layout : LayoutShape) (grant : ℕ) (P : Turn → Type 0) (turn : Turn) → P turn → Leads layout grant P turn
leads_none layout grant P turn there = record { next = turn; quiet = quiet_none layout grant turn; kept = refl; there = there }

pub leads_more : (layout : LayoutShape) (grant : ℕ) (P Q : Turn → Type 0) (turn : Turn) → Leads layout grant P turn → ((next : Turn) → P next → Leads layout grant Q next) → Leads layout grant Q turn
leads_more layout grant P Q turn first more =
    let then = more first.next first.there in
    record {
      next = then.next;
      quiet = quiet_more layout grant turn first.next then.next first.quiet then.quiet;
      kept = then.kept ∙ ap (λ (seat : Seat). record seat { chain = then.next.seat.chain; acts = then.next.seat.acts; sampled = then.next.seat.sampled }) first.kept;
      there = then.there;
    }

-- ---- where steps lead

pub goes_none : (layout : LayoutShape) (grant : ℕ) (P : Turn → Type 0) (turn : Turn) → P turn → GoesTo layout grant P turn
goes_none layout grant P turn there = record { next = turn; steps = 0; made = refl; kept = refl; there = there }

pub goes_more : (layout : LayoutShape) (grant : ℕ) (P Q : Turn → Type 0) (turn : Turn) → GoesTo layout grant P turn → ((next : Turn) → P next → GoesTo layout grant Q next) → GoesTo layout grant Q turn
goes_more layout grant P Q turn first more =
    let then = more first.next first.there in
    record {
      next = then.next;
      steps = first.steps + then.steps;
      made = then.made ∙ ap (advanced_turns then.steps layout grant) first.made ∙ sym (advanced_turns-add layout grant first.steps then.steps turn);
      kept = then.kept ∙ ap (λ (seat : Seat). record seat { chain = then.next.seat.chain; acts = then.next.seat.acts; sampled = then.next.seat.sampled }) first.kept;
      there = then.there;
    }
