-- A scan opens by the rise in Capture-DR alone.
use Rattle.std.proofs.Common.{◌≡◌, Bool, true, false, not, ◌&&◌, cond, List, [], ◌∷◌, refl, sym, ◌∙◌, subst, nat_le}
use Rattle.tap_states.specs.declared.Tap.{Tap}
use Rattle.tap_states.specs.declared.Tap.TheVariants.{TestLogicReset, RunTestIdle, SelectDr, CaptureDr, ShiftDr, Exit1Dr, PauseDr, Exit2Dr, UpdateDr, SelectIr, CaptureIr, ShiftIr, Exit1Ir, PauseIr, Exit2Ir, UpdateIr}
use Rattle.tap_states.specs.States.{is_capture_dr}
use Rattle.chain_model.specs.Chains.{ChainState, reset}
use Rattle.chain_model.specs.Cycles.{rise, fall, on_rise, on_fall}
use Rattle.client_session.specs.Acts.{Act}
use Rattle.client_session.specs.Acts.Act.{Say, SayTdo, Sample, Rise, Fall, Pack, SetLines, SetTrst, EndAt}
use Rattle.client_session.specs.declared.End.{End}
use Rattle.client_session.specs.declared.End.TheVariants.{Long}
use Rattle.client_session.specs.Seats.{Seat, Next, advanced, step_of, acted, load_next, next_in, ended, opens_next, is_rise, after_tck, most_bytes, taken, gone_end}
use Rattle.client_session.specs.Seats.Next.{Whole, RefusedAt, Nothing}

false_true : {A : Type 0} → false ≡ true → A
false_true e = absurd (let q : false ≡ true = e in cc)

rise_shut : (chain : ChainState) (tms tdi : Bool) → is_capture_dr chain.state ≡ false → chain.scan_open ≡ false → (rise chain tms tdi).scan_open ≡ false
rise_shut chain tms tdi h s = at chain.state h
  where
    at : (t : Tap) → is_capture_dr t ≡ false → (on_rise t chain tdi).scan_open ≡ false
    at CaptureDr k = false_true (sym k)
    at TestLogicReset k = s
    at RunTestIdle k = s
    at SelectDr k = s
    at ShiftDr k = s
    at Exit1Dr k = s
    at PauseDr k = s
    at Exit2Dr k = s
    at UpdateDr k = s
    at SelectIr k = s
    at CaptureIr k = s
    at ShiftIr k = s
    at Exit1Ir k = s
    at PauseIr k = s
    at Exit2Ir k = s
    at UpdateIr k = s

pub fall_shut : (chain : ChainState) → chain.scan_open ≡ false → (fall chain).scan_open ≡ false
fall_shut chain s = at chain.state
  where
    at : (t : Tap) → (on_fall t chain).scan_open ≡ false
    at UpdateDr = rw s refl
    at CaptureDr = s
    at TestLogicReset = s
    at RunTestIdle = s
    at SelectDr = s
    at ShiftDr = s
    at Exit1Dr = s
    at PauseDr = s
    at Exit2Dr = s
    at SelectIr = s
    at CaptureIr = s
    at ShiftIr = s
    at Exit1Ir = s
    at PauseIr = s
    at Exit2Ir = s
    at UpdateIr = s

left_false : (a : Bool) → (a && true) ≡ false → a ≡ false
left_false true h = false_true (sym h)
left_false false h = refl

lines_shut : (chain : ChainState) (trst tck to tms tdi : Bool) → chain.scan_open ≡ false → (is_capture_dr chain.state && (to && (not tck && not trst))) ≡ false → (cond trst chain (after_tck tck to tms tdi chain)).scan_open ≡ false
lines_shut chain true tck to tms tdi s h = s
lines_shut chain false false true tms tdi s h = rise_shut chain tms tdi (left_false (is_capture_dr chain.state) h) s
lines_shut chain false true false tms tdi s h = fall_shut chain s
lines_shut chain false true true tms tdi s h = s
lines_shut chain false false false tms tdi s h = s

reset_shut : (chain : ChainState) (t : Bool) → chain.scan_open ≡ false → (cond t (reset chain) chain).scan_open ≡ false
reset_shut chain true s = refl
reset_shut chain false s = s

act_shut : (act : Act) (seat : Seat) (acts : List Act) → seat.chain.scan_open ≡ false → (is_capture_dr seat.chain.state && is_rise act seat) ≡ false → (acted act (record seat { acts = acts })).chain.scan_open ≡ false
act_shut (Say x) seat acts s h = s
act_shut SayTdo seat acts s h = s
act_shut Sample seat acts s h = s
act_shut (Rise tms tdi) seat acts s h = rise_shut seat.chain tms tdi (left_false (is_capture_dr seat.chain.state) h) s
act_shut Fall seat acts s h = fall_shut seat.chain s
act_shut Pack seat acts s h = s
act_shut (SetLines tck tms tdi) seat acts s h = lines_shut seat.chain seat.trst seat.tck tck tms tdi s h
act_shut (SetTrst level) seat acts s h = reset_shut seat.chain (level && not seat.trst) s
act_shut (EndAt at) seat acts s h = refl

ends_shut : (seat : Seat) (a b : Bool) (e f : End) → seat.chain.scan_open ≡ false → (cond a (ended e seat) (cond b (ended f seat) seat)).chain.scan_open ≡ false
ends_shut seat true b e f s = refl
ends_shut seat false true e f s = refl
ends_shut seat false false e f s = s

load_shut : (next : Next) (seat : Seat) → seat.chain.scan_open ≡ false → (load_next next seat).chain.scan_open ≡ false
load_shut (Whole acts bytes) seat s = s
load_shut (RefusedAt at cause) seat s = refl
load_shut Nothing seat s = ends_shut seat (nat_le most_bytes (taken seat)) seat.gone (Long most_bytes) (gone_end seat.used seat.unused) s

going_step : (seat : Seat) (acts : List Act) → seat.going ≡ true → seat.acts ≡ acts → advanced seat ≡ step_of acts seat
going_step seat acts g a = rw (g, a) refl

pub advanced_shut : (seat : Seat) → opens_next seat ≡ false → seat.chain.scan_open ≡ false → (advanced seat).chain.scan_open ≡ false
advanced_shut seat h s = by seat.going refl
  where
    none : (act : Act) (acts : List Act) → seat.going ≡ true → seat.acts ≡ act ∷ acts → opens_next seat ≡ (is_capture_dr seat.chain.state && is_rise act seat)
    none act acts g a = rw (g, s, a) refl

    by_acts : (acts : List Act) → seat.going ≡ true → seat.acts ≡ acts → (step_of acts seat).chain.scan_open ≡ false
    by_acts [] g a = load_shut (next_in seat.protocol seat) seat s
    by_acts (act ∷ acts) g a = act_shut act seat acts s (sym (none act acts g a) ∙ h)

    by : (t : Bool) → seat.going ≡ t → (advanced seat).chain.scan_open ≡ false
    by true g = subst (λ new. new.chain.scan_open ≡ false) (sym (going_step seat seat.acts g refl)) (by_acts seat.acts g refl)
    by false g = rw g s
