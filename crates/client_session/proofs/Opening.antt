-- The act that opens a scan: a rise in Capture-DR.
use Rattle.std.proofs.Common.{◌≡◌, ◌<◌, Bool, true, false, not, ◌&&◌, cond, List, [], ◌∷◌, refl, arith}
use Rattle.tap_states.specs.declared.Tap.{Tap}
use Rattle.tap_states.specs.declared.Tap.TheVariants.{TestLogicReset, RunTestIdle, SelectDr, CaptureDr, ShiftDr, Exit1Dr, PauseDr, Exit2Dr, UpdateDr, SelectIr, CaptureIr, ShiftIr, Exit1Ir, PauseIr, Exit2Ir, UpdateIr}
use Rattle.tap_states.specs.States.{is_capture_dr}
use Rattle.chain_model.specs.Chains.{ChainState}
use Rattle.chain_model.specs.Cycles.{rise, on_rise}
use Rattle.client_session.specs.Acts.{Act}
use Rattle.client_session.specs.Acts.Act.{Say, SayTdo, Sample, Rise, Fall, Pack, SetLines, SetTrst, EndAt}
use Rattle.client_session.specs.Seats.{Seat, advanced, step_of, opens_next, rises_next, after_tck}
use Rattle.client_session.proofs.Steps.{work, work-acted}

false_true : {A : Type 0} → false ≡ true → A
false_true e = absurd (let q : false ≡ true = e in cc)

pub both : (a b : Bool) → (a && b) ≡ true → (a ≡ true) × (b ≡ true)
both true b h = (refl, h)
both false b h = false_true h

-- ---- the rise that opens a scan

-- in Capture-DR a rise opens a scan
rise_opens : (chain : ChainState) (tms tdi : Bool) → is_capture_dr chain.state ≡ true → (rise chain tms tdi).scan_open ≡ true
rise_opens chain tms tdi h = at chain.state h
  where
    at : (t : Tap) → is_capture_dr t ≡ true → (on_rise t chain tdi).scan_open ≡ true
    at CaptureDr h = refl
    at TestLogicReset h = false_true h
    at RunTestIdle h = false_true h
    at SelectDr h = false_true h
    at ShiftDr h = false_true h
    at Exit1Dr h = false_true h
    at PauseDr h = false_true h
    at Exit2Dr h = false_true h
    at UpdateDr h = false_true h
    at SelectIr h = false_true h
    at CaptureIr h = false_true h
    at ShiftIr h = false_true h
    at Exit1Ir h = false_true h
    at PauseIr h = false_true h
    at Exit2Ir h = false_true h
    at UpdateIr h = false_true h

-- what is known of a seat that is about to open a scan
pub record Opens (seat : Seat) : Type 0 where
  pub going : seat.going ≡ true
  pub state : is_capture_dr seat.chain.state ≡ true
  pub shut : seat.chain.scan_open ≡ false
  pub rises : rises_next seat.acts seat ≡ true

pub not_true : (a : Bool) → not a ≡ true → a ≡ false
not_true true h = false_true h
not_true false h = refl

pub opens_is : (seat : Seat) → opens_next seat ≡ true → Opens seat
opens_is seat h =
    let a = both seat.going (is_capture_dr seat.chain.state && (not seat.chain.scan_open && rises_next seat.acts seat)) h in
    let b = both (is_capture_dr seat.chain.state) (not seat.chain.scan_open && rises_next seat.acts seat) a.1 in
    let c = both (not seat.chain.scan_open) (rises_next seat.acts seat) b.1 in
    record { going = a.0; state = b.0; shut = not_true seat.chain.scan_open c.0; rises = c.1 }

going_step : (seat : Seat) (acts : List Act) → seat.going ≡ true → seat.acts ≡ acts → advanced seat ≡ step_of acts seat
going_step seat acts g a = rw (g, a) refl

raising : (seat : Seat) (chain : ChainState) (to tms tdi : Bool) → (to && (not seat.tck && not seat.trst)) ≡ true → is_capture_dr chain.state ≡ true → (cond seat.trst chain (after_tck seat.tck to tms tdi chain)).scan_open ≡ true
raising seat chain to tms tdi h k =
    let a = both to (not seat.tck && not seat.trst) h in
    let b = both (not seat.tck) (not seat.trst) a.1 in
    rw (a.0, not_true seat.tck b.0, not_true seat.trst b.1) (rise_opens chain tms tdi k)

pub opens_opens : (seat : Seat) → opens_next seat ≡ true → (advanced seat).chain.scan_open ≡ true
opens_opens seat h = let o = opens_is seat h in by_acts seat.acts refl o.rises
  where
    by_acts : (acts : List Act) → seat.acts ≡ acts → rises_next acts seat ≡ true → (advanced seat).chain.scan_open ≡ true
    by_acts [] a r = false_true r
    by_acts (Rise tms tdi ∷ acts) a r = let o = opens_is seat h in rw (going_step seat (Rise tms tdi ∷ acts) o.going a) (rise_opens seat.chain tms tdi o.state)
    by_acts (SetLines tck tms tdi ∷ acts) a r = let o = opens_is seat h in rw (going_step seat (SetLines tck tms tdi ∷ acts) o.going a) (raising seat seat.chain tck tms tdi r o.state)
    by_acts (Say x ∷ acts) a r = false_true r
    by_acts (SayTdo ∷ acts) a r = false_true r
    by_acts (Sample ∷ acts) a r = false_true r
    by_acts (Fall ∷ acts) a r = false_true r
    by_acts (Pack ∷ acts) a r = false_true r
    by_acts (SetTrst level ∷ acts) a r = false_true r
    by_acts (EndAt at ∷ acts) a r = false_true r

-- it is a step
pub opens_moves : (seat : Seat) → opens_next seat ≡ true → work (advanced seat) < work seat
opens_moves seat h = by_acts seat.acts refl (opens_is seat h).rises
  where
    by_acts : (acts : List Act) → seat.acts ≡ acts → rises_next acts seat ≡ true → work (advanced seat) < work seat
    by_acts [] a r = false_true r
    by_acts (act ∷ acts) a r =
        let le = work-acted act (record seat { acts = acts }) in
        rw (going_step seat (act ∷ acts) (opens_is seat h).going a, a) (omega (arith, le))
