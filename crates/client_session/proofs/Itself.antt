-- A grant by itself never waits for the chain.
use Rattle.std.proofs.Common.{◌≡◌, ℕ, zero, suc, Bool, true, false, not, ◌&&◌, cond, List, [], refl, ap, sym, ◌∙◌, Some, None}
use Rattle.std.specs.declared.option.Option.{Option}
use Rattle.std.proofs.lemmas.Bool.{eq-eqb}
use Rattle.client_session.specs.Seats.{Seat, advanced, advanced_by, steps_left, opens_next}
use Rattle.client_session.specs.Turns.{LayoutShape, Turn, without, may_open, is_holder, frees, advanced_as, advanced_turn, advanced_turns}
use Rattle.client_session.specs.Laws.{IsByItself, GoesOnByItself}
use Rattle.client_session.proofs.Opening.{opens_is, opens_opens}

false_true : {A : Type 0} → false ≡ true → A
false_true e = absurd (let q : false ≡ true = e in cc)

-- so many steps from one turn to another, by itself
record Goes (times grant : ℕ) (old new : Turn) : Type 0 where
  pub seat : new.seat ≡ advanced_by times old.seat
  pub joins : new.joins ≡ old.joins
  pub itself : IsByItself grant new

module _ (layout : LayoutShape) (grant : ℕ) (turn : Turn) (alone : IsByItself grant turn) where
  -- a step that opens no scan: the chain is held on only by a scan that is still open
  still_open : (new : Seat) (frees_now : Bool) → frees turn.holder grant new ≡ frees_now → (other : ℕ) → cond frees_now None turn.holder ≡ Some other → (other ≡ grant) × (new.chain.scan_open ≡ true)
  still_open new true f other e = absurd (let q : None ≡ Some other = e in cc)
  still_open new false f other e = (
    (alone.holder other e).0,
    open_still new.chain.scan_open
        (sym (ap (λ t. t && not new.chain.scan_open) (ap (λ holder. is_holder holder grant) e ∙ eq-eqb other grant (alone.holder other e).0)) ∙ f),
  )
    where
      open_still : (t : Bool) → not t ≡ false → t ≡ true
      open_still true h = refl
      open_still false h = false_true (sym h)

  -- a scan that is about to open may open
  may_now : opens_next turn.seat ≡ true → may_open turn.holder turn.waiting grant ≡ true
  may_now opens = by turn.holder turn.waiting refl alone.waiting
    where
      by : (holder : Option ℕ) (waiting : List ℕ) → turn.holder ≡ holder → waiting ≡ [] → may_open holder waiting grant ≡ true
      by None waiting e none = rw none refl
      by (Some other) waiting e none = false_true (sym (opens_is turn.seat opens).shut ∙ (alone.holder other e).1)

  as_itself : (opens may : Bool) → opens_next turn.seat ≡ opens → may_open turn.holder turn.waiting grant ≡ may → Goes 1 grant turn (advanced_as opens may layout grant turn)
  as_itself false may o m = record {
    seat = refl;
    joins = refl;
    itself = record { waiting = alone.waiting; holder = still_open (advanced turn.seat) (frees turn.holder grant (advanced turn.seat)) refl };
  }
  as_itself true true o m = record {
    seat = refl;
    joins = refl;
    itself = record {
      waiting = ap (without grant) alone.waiting;
      holder = λ other e. (let same : grant ≡ other = cc in sym same, opens_opens turn.seat o);
    };
  }
  as_itself true false o m = false_true (sym m ∙ may_now o)

  step_itself : Goes 1 grant turn (advanced_turn layout grant turn)
  step_itself = as_itself (opens_next turn.seat) (may_open turn.holder turn.waiting grant) refl refl

turns_itself : (times : ℕ) (layout : LayoutShape) (grant : ℕ) (turn : Turn) → IsByItself grant turn → Goes times grant turn (advanced_turns times layout grant turn)
turns_itself zero layout grant turn alone = record { seat = refl; joins = refl; itself = alone }
turns_itself (suc times) layout grant turn alone =
    let first = step_itself layout grant turn alone in
    let more = turns_itself times layout grant (advanced_turn layout grant turn) first.itself in
    record { seat = more.seat ∙ ap (advanced_by times) first.seat; joins = more.joins ∙ first.joins; itself = more.itself }

pub none_waits : (layout : LayoutShape) (grant : ℕ) (turn : Turn) → IsByItself grant turn → GoesOnByItself layout grant turn
none_waits layout grant turn alone =
    let all = turns_itself (steps_left turn.seat) layout grant turn alone in
    record { seat = all.seat; joins = all.joins; itself = all.itself }
