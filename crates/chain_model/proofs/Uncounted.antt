-- How many cycles were made, and in how many calls, is seen by no cycle.
use Rattle.std.proofs.Common.{◌≡◌, ℕ, suc, Bool, true, false, List, [], ◌∷◌, refl, ap, ◌∙◌}
use Rattle.tap_states.specs.declared.Tap.{Tap}
use Rattle.tap_states.specs.declared.Tap.TheVariants.{TestLogicReset, RunTestIdle, SelectDr, CaptureDr, ShiftDr, Exit1Dr, PauseDr, Exit2Dr, UpdateDr, SelectIr, CaptureIr, ShiftIr, Exit1Ir, PauseIr, Exit2Ir, UpdateIr}
use Rattle.tap_states.specs.States.{next}
use Rattle.part_model.specs.Parts.{Register, selected}
use Rattle.part_model.specs.Parts.Register.{Bypass, Boundary, Idcode, Usercode, Named}
use Rattle.chain_model.specs.Chains.{ChainState, DeviceState, pin_values, pin_by, net_to, captured_by}
use Rattle.chain_model.specs.Cycles.{Clock, rise, on_rise, on_fall, fall, cycle, after_cycles, answers, captured_from, capture_device, updated, with_tdo}

-- a chain with other counts
abbrev pub counts : ℕ → ℕ → ChainState → ChainState
counts made asked chain = record chain { made = made; asked = asked }

values_counts : (made asked : ℕ) (chain : ChainState) (place cell : ℕ) (pins : List Bool) → pin_values (counts made asked chain) place cell pins ≡ pin_values chain place cell pins
values_counts made asked chain place cell [] = refl
values_counts made asked chain place cell (pin ∷ pins) = ap (λ rest. pin_by chain.devices (net_to chain.nets place cell) pin ∷ rest) (values_counts made asked chain place (suc cell) pins)

fresh_counts : (made asked : ℕ) (chain : ChainState) (place : ℕ) (device : DeviceState) (register : Register) → captured_by (counts made asked chain) place device register ≡ captured_by chain place device register
fresh_counts made asked chain place device Bypass = refl
fresh_counts made asked chain place device Boundary = values_counts made asked chain place 0 device.content.pins
fresh_counts made asked chain place device Idcode = refl
fresh_counts made asked chain place device Usercode = refl
fresh_counts made asked chain place device (Named at) = refl

from_counts : (made asked : ℕ) (chain : ChainState) (place : ℕ) (devices : List DeviceState) → captured_from (counts made asked chain) place devices ≡ captured_from chain place devices
from_counts made asked chain place [] = refl
from_counts made asked chain place (device ∷ devices) =
    λ i. record (capture_device chain place device) { dr_stage = fresh_counts made asked chain place device (selected device.part device.code) i } ∷ from_counts made asked chain (suc place) devices i

rise_counts : (made asked : ℕ) (state : Tap) (chain : ChainState) (tdi : Bool) → on_rise state (counts made asked chain) tdi ≡ counts made asked (on_rise state chain tdi)
rise_counts made asked CaptureDr chain tdi = ap {A = List DeviceState} (λ ds. record chain { scan_open = true; devices = ds; made = made; asked = asked }) (from_counts made asked chain 0 chain.devices)
rise_counts made asked TestLogicReset chain tdi = refl
rise_counts made asked RunTestIdle chain tdi = refl
rise_counts made asked SelectDr chain tdi = refl
rise_counts made asked ShiftDr chain tdi = refl
rise_counts made asked Exit1Dr chain tdi = refl
rise_counts made asked PauseDr chain tdi = refl
rise_counts made asked Exit2Dr chain tdi = refl
rise_counts made asked UpdateDr chain tdi = refl
rise_counts made asked SelectIr chain tdi = refl
rise_counts made asked CaptureIr chain tdi = refl
rise_counts made asked ShiftIr chain tdi = refl
rise_counts made asked Exit1Ir chain tdi = refl
rise_counts made asked PauseIr chain tdi = refl
rise_counts made asked Exit2Ir chain tdi = refl
rise_counts made asked UpdateIr chain tdi = refl

updated_counts : (made asked : ℕ) (chain : ChainState) (t : Bool) → chain.scan_open ≡ t → updated (counts made asked chain) ≡ counts made asked (updated chain)
updated_counts made asked chain true e = rw e refl
updated_counts made asked chain false e = rw e refl

fall_counts : (made asked : ℕ) (state : Tap) (chain : ChainState) → on_fall state (counts made asked chain) ≡ counts made asked (on_fall state chain)
fall_counts made asked UpdateDr chain = updated_counts made asked chain chain.scan_open refl
fall_counts made asked CaptureDr chain = refl
fall_counts made asked TestLogicReset chain = refl
fall_counts made asked RunTestIdle chain = refl
fall_counts made asked SelectDr chain = refl
fall_counts made asked ShiftDr chain = refl
fall_counts made asked Exit1Dr chain = refl
fall_counts made asked PauseDr chain = refl
fall_counts made asked Exit2Dr chain = refl
fall_counts made asked SelectIr chain = refl
fall_counts made asked CaptureIr chain = refl
fall_counts made asked ShiftIr chain = refl
fall_counts made asked Exit1Ir chain = refl
fall_counts made asked PauseIr chain = refl
fall_counts made asked Exit2Ir chain = refl
fall_counts made asked UpdateIr chain = refl

pub cycle_counts : (made asked : ℕ) (chain : ChainState) (clock : Clock) → cycle (counts made asked chain) clock ≡ counts made asked (cycle chain clock)
cycle_counts made asked chain clock =
    ap fall (ap {A = ChainState} (λ c. record c { state = next chain.state clock.tms }) (rise_counts made asked chain.state chain clock.tdi))
    ∙ ap with_tdo (fall_counts made asked (next chain.state clock.tms) (rise chain clock.tms clock.tdi))

pub after_counts : (made asked : ℕ) (clocks : List Clock) (chain : ChainState) → after_cycles clocks (counts made asked chain) ≡ counts made asked (after_cycles clocks chain)
after_counts made asked [] chain = refl
after_counts made asked (clock ∷ clocks) chain = ap (after_cycles clocks) (cycle_counts made asked chain clock) ∙ after_counts made asked clocks (cycle chain clock)

pub answers_counts : (made asked : ℕ) (clocks : List Clock) (chain : ChainState) → answers clocks (counts made asked chain) ≡ answers clocks chain
answers_counts made asked [] chain = refl
answers_counts made asked (clock ∷ clocks) chain = ap (λ rest. chain.tdo ∷ rest) (ap (answers clocks) (cycle_counts made asked chain clock) ∙ answers_counts made asked clocks (cycle chain clock))
