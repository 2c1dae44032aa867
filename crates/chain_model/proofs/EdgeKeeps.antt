-- What cycles keep: the devices' number, the nets, and the counts of cycles and calls.
use Rattle.std.proofs.Common.{◌≡◌, ◌<◌, ℕ, suc, Bool, true, false, List, [], ◌∷◌, map, length, refl, ◌∙◌, ap, if◌then◌else◌}
use Rattle.std.proofs.lemmas.List.{length-map}
use Rattle.tap_states.specs.declared.Tap.{Tap}
use Rattle.tap_states.specs.declared.Tap.TheVariants.{TestLogicReset, CaptureDr, ShiftDr, UpdateDr, CaptureIr, ShiftIr, UpdateIr}
use Rattle.scan_bits.specs.Registers.{lowest_or}
use Rattle.base_types.specs.Counts.{raised}
use Rattle.chain_model.specs.Chains.{ChainState, DeviceState}
use Rattle.chain_model.specs.Cycles.{Clock, captured_from, shifted_dr, shifted_ir, capture_ir, update_device, update_ir, reset_code, on_rise, on_fall, rise, cycle, after_cycles, after_call}

length-captured_from : (chain : ChainState) (place : ℕ) (devices : List DeviceState) → length (captured_from chain place devices) ≡ length devices
length-captured_from chain place [] = refl
length-captured_from chain place (device ∷ devices) = ap (λ (n : ℕ). suc n) (length-captured_from chain (suc place) devices)

length-shifted_dr : (tdi : Bool) (devices : List DeviceState) → length (shifted_dr tdi devices) ≡ length devices
length-shifted_dr tdi [] = refl
length-shifted_dr tdi (device ∷ devices) = ap (λ (n : ℕ). suc n) (length-shifted_dr (lowest_or tdi device.dr_stage) devices)

length-shifted_ir : (tdi : Bool) (devices : List DeviceState) → length (shifted_ir tdi devices) ≡ length devices
length-shifted_ir tdi [] = refl
length-shifted_ir tdi (device ∷ devices) = ap (λ (n : ℕ). suc n) (length-shifted_ir (lowest_or tdi device.ir_stage) devices)

-- what is equal in two chains
pub record Kept (old new : ChainState) : Type 0 where
  pub devices : length new.devices ≡ length old.devices
  pub nets : new.nets ≡ old.nets
  pub made : new.made ≡ old.made
  pub asked : new.asked ≡ old.asked

kept_rise : (state : Tap) (chain : ChainState) (tdi : Bool) → Kept chain (on_rise state chain tdi)
kept_rise CaptureDr chain tdi = record { devices = length-captured_from chain 0 chain.devices; nets = refl; made = refl; asked = refl }
kept_rise ShiftDr chain tdi = record { devices = length-shifted_dr tdi chain.devices; nets = refl; made = refl; asked = refl }
kept_rise CaptureIr chain tdi = record { devices = length-map chain.devices capture_ir; nets = refl; made = refl; asked = refl }
kept_rise ShiftIr chain tdi = record { devices = length-shifted_ir tdi chain.devices; nets = refl; made = refl; asked = refl }
kept_rise _ chain tdi = record { devices = refl; nets = refl; made = refl; asked = refl }

kept_updated : (is_open : Bool) (chain : ChainState) → Kept chain (if is_open then record chain { scan_open = false; devices = map update_device chain.devices } else chain)
kept_updated true chain = record { devices = length-map chain.devices update_device; nets = refl; made = refl; asked = refl }
kept_updated false chain = record { devices = refl; nets = refl; made = refl; asked = refl }

kept_fall : (state : Tap) (chain : ChainState) → Kept chain (on_fall state chain)
kept_fall UpdateDr chain = kept_updated chain.scan_open chain
kept_fall UpdateIr chain = record { devices = length-map chain.devices update_ir; nets = refl; made = refl; asked = refl }
kept_fall TestLogicReset chain = record { devices = length-map chain.devices reset_code; nets = refl; made = refl; asked = refl }
kept_fall _ chain = record { devices = refl; nets = refl; made = refl; asked = refl }

pub kept_cycle : (chain : ChainState) (clock : Clock) → Kept chain (cycle chain clock)
kept_cycle chain clock =
    let risen : Kept chain (on_rise chain.state chain clock.tdi) = kept_rise chain.state chain clock.tdi in
    let fallen : Kept (rise chain clock.tms clock.tdi) (on_fall (rise chain clock.tms clock.tdi).state (rise chain clock.tms clock.tdi))
    = kept_fall (rise chain clock.tms clock.tdi).state (rise chain clock.tms clock.tdi) in
    record { devices = fallen.devices ∙ risen.devices; nets = fallen.nets ∙ risen.nets; made = fallen.made ∙ risen.made; asked = fallen.asked ∙ risen.asked }

pub kept_cycles : (clocks : List Clock) (chain : ChainState) → Kept chain (after_cycles clocks chain)
kept_cycles [] chain = record { devices = refl; nets = refl; made = refl; asked = refl }
kept_cycles (clock ∷ clocks) chain =
    let first : Kept chain (cycle chain clock) = kept_cycle chain clock in
    let rest : Kept (cycle chain clock) (after_cycles clocks (cycle chain clock)) = kept_cycles clocks (cycle chain clock) in
    record { devices = rest.devices ∙ first.devices; nets = rest.nets ∙ first.nets; made = rest.made ∙ first.made; asked = rest.asked ∙ first.asked }

-- a call is its cycles, counted
pub called : (old ran : ChainState) (clocks : List Clock) (n : ℕ) → ran ≡ after_cycles clocks old → n ≡ length clocks → record ran { made = raised ran.made n; asked = raised ran.asked 1 } ≡ after_call clocks old
called old ran clocks n is count =
    rw (is, (kept_cycles clocks old).made, (kept_cycles clocks old).asked, count) refl

-- where there was a device, there is one
pub device_stays : (old new : ChainState) (clocks : List Clock) → new ≡ after_call clocks old → 0 < length old.devices → 0 < length new.devices
device_stays old new clocks is some = rw (is, (kept_cycles clocks old).devices) some
