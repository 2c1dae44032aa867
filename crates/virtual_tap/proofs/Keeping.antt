-- What always holds of a virtual TAP stays so.
use Rattle.std.proofs.Common.{◌≡◌, ◌≤◌, ◌<◌, ℕ, zero, suc, Bool, true, false, List, [], ◌∷◌, length, map, refl, sym, ap, subst, ◌∙◌, arith, Some, None, is_some}
use Rattle.std.proofs.lemmas.List.{length-replicate}
use Rattle.std.specs.List.{All, sum_by, slice_get, cons_option}
use Rattle.std.specs.declared.option.Option.{Option}
use Rattle.tap_states.specs.declared.Tap.{Tap}
use Rattle.tap_states.specs.declared.Tap.TheVariants.{TestLogicReset, CaptureDr, ShiftDr, Exit1Dr, PauseDr, Exit2Dr, UpdateDr, CaptureIr, ShiftIr, UpdateIr}
use Rattle.tap_states.specs.States.{next}
use Rattle.scan_bits.specs.BitLists.{BitList}
use Rattle.scan_bits.specs.Registers.{shifted_out}
use Rattle.scan_bits.proofs.Queue.{length-shifted_all}
use Rattle.part_model.specs.Parts.{DeviceType}
use Rattle.part_model.proofs.Accepted.{part_is_sound}
use Rattle.scan_share.specs.PrivateChains.{entries_at}
use Rattle.scan_share.specs.Scans.{widths_during}
use Rattle.virtual_tap.specs.Views.{EachLength, HasRegister}
use Rattle.virtual_tap.specs.Instructions.{InstructionState, GroupInstructions, ArePlans, at_power_up, captured, cleared, shifted_through, parts_of, stages_of, reset_codes_of, risen, fallen_codes}
use Rattle.virtual_tap.specs.Taps.{IsTap, KeepsTap, bits_shown, room_of, turned, risen_register, ends_scan, may_be_open, tap_of, longest_scan}
use Rattle.virtual_tap.proofs.Loaded.{parts_captured, parts_cleared, parts_shifted}
use Rattle.virtual_tap.proofs.Moving.{never, parts_powered}

-- ---- the device types

pub parts_risen : (state : Tap) (tdi : Bool) (rs : List InstructionState) → parts_of (risen state tdi rs) ≡ parts_of rs
parts_risen CaptureIr tdi rs = parts_captured rs
parts_risen ShiftIr tdi rs = parts_shifted (tdi ∷ []) rs
parts_risen _ tdi rs = refl

-- ---- lengths

captured_fit : (rs : List InstructionState) → ArePlans (parts_of rs) → EachLength (parts_of (map captured rs)) (stages_of (map captured rs))
captured_fit [] plans = tt
captured_fit (r ∷ rs) plans = ((part_is_sound r.part plans.0).captures, captured_fit rs plans.1)

pub cleared_fit : (rs : List InstructionState) → EachLength (parts_of (map cleared rs)) (stages_of (map cleared rs))
cleared_fit [] = tt
cleared_fit (r ∷ rs) = (length-replicate r.part.ir_length false, cleared_fit rs)

powered_fit : (parts : List DeviceType) → EachLength (parts_of (map at_power_up parts)) (stages_of (map at_power_up parts))
powered_fit [] = tt
powered_fit (part ∷ parts) = (length-replicate part.ir_length false, powered_fit parts)

pub shifted_fit : (bits : List Bool) (rs : List InstructionState) → EachLength (parts_of rs) (stages_of rs) → EachLength (parts_of (shifted_through bits rs)) (stages_of (shifted_through bits rs))
shifted_fit bits [] fit = tt
shifted_fit bits (r ∷ rs) fit = (length-shifted_all r.stage bits ∙ fit.0, shifted_fit (shifted_out r.stage bits) rs fit.1)

pub reset_fit : (rs : List InstructionState) → ArePlans (parts_of rs) → EachLength (parts_of rs) (reset_codes_of rs)
reset_fit [] plans = tt
reset_fit (r ∷ rs) plans = ((part_is_sound r.part plans.0).reset, reset_fit rs plans.1)

risen_fit : (state : Tap) (tdi : Bool) (rs : List InstructionState) → ArePlans (parts_of rs) → EachLength (parts_of rs) (stages_of rs) → EachLength (parts_of (risen state tdi rs)) (stages_of (risen state tdi rs))
risen_fit CaptureIr tdi rs plans fit = captured_fit rs plans
risen_fit ShiftIr tdi rs plans fit = shifted_fit (tdi ∷ []) rs fit
risen_fit _ tdi rs plans fit = fit

fallen_fit : (state : Tap) (rs : List InstructionState) (codes : List (List Bool)) → ArePlans (parts_of rs) → EachLength (parts_of rs) (stages_of rs) → EachLength (parts_of rs) codes → EachLength (parts_of rs) (fallen_codes state rs codes)
fallen_fit UpdateIr rs codes plans fit coded = fit
fallen_fit TestLogicReset rs codes plans fit coded = reset_fit rs plans
fallen_fit _ rs codes plans fit coded = coded

-- ---- the data register

pub turned_fits : (is_open : Bool) (count : ℕ) (bits : List Bool) (register : Option BitList) → HasRegister is_open count (bits_shown register) → HasRegister is_open count (bits_shown (turned is_open bits register))
turned_fits false count bits register has = tt
turned_fits true count bits None has = has
turned_fits true count bits (Some list) has = length-shifted_all list.bits bits ∙ has

risen_register_fits : (state : Tap) (is_open : Bool) (count : ℕ) (tdi : Bool) (register : Option BitList) → HasRegister is_open count (bits_shown register) → HasRegister is_open count (bits_shown (risen_register state is_open tdi register))
risen_register_fits ShiftDr is_open count tdi register has = turned_fits is_open count (tdi ∷ []) register has
risen_register_fits _ is_open count tdi register has = has

pub turned_there : (is_open : Bool) (bits : List Bool) (register : Option BitList) → is_some (bits_shown (turned is_open bits register)) ≡ is_some (bits_shown register)
turned_there false bits register = refl
turned_there true bits None = refl
turned_there true bits (Some list) = refl

pub turned_room : (is_open : Bool) (bits : List Bool) (register : Option BitList) → room_of (turned is_open bits register) ≡ room_of register
turned_room false bits register = refl
turned_room true bits None = refl
turned_room true bits (Some list) = refl

risen_there : (state : Tap) (is_open tdi : Bool) (register : Option BitList) → is_some (bits_shown (risen_register state is_open tdi register)) ≡ is_some (bits_shown register)
risen_there ShiftDr is_open tdi register = turned_there is_open (tdi ∷ []) register
risen_there _ is_open tdi register = refl

risen_room : (state : Tap) (is_open tdi : Bool) (register : Option BitList) → room_of (risen_register state is_open tdi register) ≡ room_of register
risen_room ShiftDr is_open tdi register = turned_room is_open (tdi ∷ []) register
risen_room _ is_open tdi register = refl

-- ---- when a scan may be open

next_open : (state : Tap) (tms is_open : Bool) → is_open ≡ true → ends_scan state is_open ≡ false → may_be_open state ≡ true → may_be_open (next state tms) ≡ true
next_open CaptureDr true is_open there stays may = refl
next_open CaptureDr false is_open there stays may = refl
next_open ShiftDr true is_open there stays may = refl
next_open ShiftDr false is_open there stays may = refl
next_open Exit1Dr true is_open there stays may = refl
next_open Exit1Dr false is_open there stays may = refl
next_open PauseDr true is_open there stays may = refl
next_open PauseDr false is_open there stays may = refl
next_open Exit2Dr true is_open there stays may = refl
next_open Exit2Dr false is_open there stays may = refl
next_open UpdateDr tms is_open there stays may = never (sym stays ∙ there)
next_open _ tms is_open there stays may = never may

-- while a scan is open no falling edge changes the codes
pub codes_open : (state : Tap) (rs : List InstructionState) (codes : List (List Bool)) → may_be_open state ≡ true → fallen_codes state rs codes ≡ codes
codes_open UpdateIr rs codes may = never may
codes_open TestLogicReset rs codes may = never may
codes_open _ rs codes may = refl

-- ---- the virtual TAP

pub rests_risen : (state : Tap) (is_open tdi : Bool) (register : Option BitList) → is_open ≡ false → bits_shown (risen_register state is_open tdi register) ≡ bits_shown register
rests_risen ShiftDr false tdi register shut = refl
rests_risen ShiftDr true tdi register shut = never (sym shut)
rests_risen _ is_open tdi register shut = refl

pub kept_rise : (grant : ℕ) (state : Tap) (tdo is_open : Bool) (g : GroupInstructions) (register : Option BitList) (tms tdi : Bool)
    → KeepsTap (tap_of grant state tdo is_open g register) (tap_of grant (next state tms) tdo is_open (record g { registers = risen state tdi g.registers }) (risen_register state is_open tdi register))
kept_rise grant state tdo is_open g register tms tdi = record {
  grant = refl;
  parts = parts_risen state tdi g.registers;
  there = risen_there state is_open tdi register;
  room = risen_room state is_open tdi register;
}

pub tap_rise : (grant : ℕ) (state : Tap) (tdo is_open : Bool) (g : GroupInstructions) (register : Option BitList) (tms tdi : Bool) → ends_scan state is_open ≡ false → IsTap (tap_of grant state tdo is_open g register)
    → IsTap (tap_of grant (next state tms) tdo is_open (record g { registers = risen state tdi g.registers }) (risen_register state is_open tdi register))
tap_rise grant state tdo is_open g register tms tdi stays is =
    let same = sym (parts_risen state tdi g.registers) in
    record {
      view = record {
        codes_fit = subst (λ parts. EachLength parts g.codes) same is.view.codes_fit;
        stages_fit = risen_fit state tdi g.registers is.plans is.view.stages_fit;
        register_fits =
            risen_register_fits state is_open (sum_by (λ width. width) (widths_during (parts_of (risen state tdi g.registers)) g.codes)) tdi register
            (subst (λ parts. HasRegister is_open (sum_by (λ width. width) (widths_during parts g.codes)) (bits_shown register)) same is.view.register_fits);
      };
      timed = λ there. next_open state tms is_open there stays (is.timed there);
      roomy = λ there. subst (λ room. longest_scan (parts_of (risen state tdi g.registers)) ≤ room) (sym (risen_room state is_open tdi register))
          (subst (λ parts. longest_scan parts ≤ room_of register) same (is.roomy (sym (risen_there state is_open tdi register) ∙ there)));
      some = subst (λ parts. 0 < length parts) same is.some;
      plans = subst ArePlans same is.plans;
    }

pub tap_fall : (grant : ℕ) (state : Tap) (tdo now is_open : Bool) (g : GroupInstructions) (register : Option BitList) → IsTap (tap_of grant state tdo is_open g register)
    → IsTap (tap_of grant state now is_open (record g { codes = fallen_codes state g.registers g.codes }) register)
tap_fall grant state tdo now is_open g register is = record {
  view = record {
    codes_fit = fallen_fit state g.registers g.codes is.plans is.view.stages_fit is.view.codes_fit;
    stages_fit = is.view.stages_fit;
    register_fits = by is_open is.timed is.view.register_fits;
  };
  timed = is.timed;
  roomy = is.roomy;
  some = is.some;
  plans = is.plans;
}
  where
    by : (t : Bool) → (t ≡ true → may_be_open state ≡ true) → HasRegister t (sum_by (λ width. width) (widths_during (parts_of g.registers) g.codes)) (bits_shown register)
        → HasRegister t (sum_by (λ width. width) (widths_during (parts_of g.registers) (fallen_codes state g.registers g.codes))) (bits_shown register)
    by false timed has = tt
    by true timed has = subst (λ codes. HasRegister true (sum_by (λ width. width) (widths_during (parts_of g.registers) codes)) (bits_shown register)) (sym (codes_open state g.registers g.codes (timed refl))) has

pub kept_restart : (grant : ℕ) (state : Tap) (tdo is_open : Bool) (g : GroupInstructions) (register : Option BitList)
    → KeepsTap (tap_of grant state tdo is_open g register) (tap_of grant TestLogicReset true is_open (record { registers = map cleared g.registers; codes = reset_codes_of g.registers }) register)
kept_restart grant state tdo is_open g register = record { grant = refl; parts = parts_cleared g.registers; there = refl; room = refl }

pub tap_restart : (grant : ℕ) (state : Tap) (tdo is_open : Bool) (g : GroupInstructions) (register : Option BitList) → is_open ≡ false → IsTap (tap_of grant state tdo is_open g register)
    → IsTap (tap_of grant TestLogicReset true is_open (record { registers = map cleared g.registers; codes = reset_codes_of g.registers }) register)
tap_restart grant state tdo is_open g register shut is =
    let same = sym (parts_cleared g.registers) in
    record {
      view = record {
        codes_fit = subst (λ parts. EachLength parts (reset_codes_of g.registers)) same (reset_fit g.registers is.plans);
        stages_fit = cleared_fit g.registers;
        register_fits = subst (λ t. HasRegister t (sum_by (λ width. width) (widths_during (parts_of (map cleared g.registers)) (reset_codes_of g.registers))) (bits_shown register)) (sym shut) tt;
      };
      timed = λ there. never (sym shut ∙ there);
      roomy = λ there. subst (λ parts. longest_scan parts ≤ room_of register) same (is.roomy there);
      some = subst (λ parts. 0 < length parts) same is.some;
      plans = subst ArePlans same is.plans;
    }

pub tap_powered : (grant : ℕ) (parts : List DeviceType) (g : GroupInstructions) (list : BitList) → g.registers ≡ map at_power_up parts → g.codes ≡ reset_codes_of g.registers → ArePlans (parts_of g.registers) → 0 < length parts
    → longest_scan parts ≤ list.room → IsTap (tap_of grant TestLogicReset true false g (Some list))
tap_powered grant parts g list registers codes plans some roomy =
    let same : parts_of g.registers ≡ parts = ap parts_of registers ∙ parts_powered parts in
    record {
      view = record {
        codes_fit = subst (EachLength (parts_of g.registers)) (sym codes) (reset_fit g.registers plans);
        stages_fit = subst (λ rs. EachLength (parts_of rs) (stages_of rs)) (sym registers) (powered_fit parts);
        register_fits = tt;
      };
      timed = λ there. never there;
      roomy = λ there. subst (λ ps. longest_scan ps ≤ list.room) (sym same) roomy;
      some = subst (λ ps. 0 < length ps) (sym same) some;
      plans = plans;
    }

-- a group with a place in the chain has a device
pub entries_some : (parts : List DeviceType) (group : List ℕ) → 1 ≤ length group → All (λ place. place < length parts) group → 0 < length (entries_at parts group)
entries_some parts [] some within = absurd (omega (arith, some))
entries_some parts (place ∷ group) some within = there parts place (entries_at parts group) (within 0 0 (omega arith))
  where
    there : (parts : List DeviceType) (place : ℕ) (rest : List DeviceType) → place < length parts → 0 < length (cons_option (slice_get parts place) rest)
    there [] place rest lt = absurd (omega (arith, lt))
    there (part ∷ parts) zero rest lt = omega arith
    there (part ∷ parts) (suc place) rest lt = there parts place rest (omega (arith, lt))
