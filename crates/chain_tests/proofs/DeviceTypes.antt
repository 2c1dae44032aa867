-- Cycles and resets keep the types of a chain's devices.
use Rattle.std.proofs.Common.{◌≡◌, ℕ, zero, suc, Bool, true, false, List, [], ◌∷◌, map, refl, ap, sym, subst, ◌∙◌, if◌then◌else◌}
use Rattle.std.specs.List.{slice_get, slice_index_or}
use Rattle.tap_states.specs.declared.Tap.{Tap}
use Rattle.tap_states.specs.declared.Tap.TheVariants.{TestLogicReset, CaptureDr, ShiftDr, UpdateDr, CaptureIr, ShiftIr, UpdateIr}
use Rattle.scan_bits.specs.Registers.{lowest_or}
use Rattle.part_model.specs.Parts.{DeviceType}
use Rattle.base_types.specs.Tellings.{Told}
use Rattle.chain_model.specs.declared.cable.Board.{Board}
use Rattle.chain_model.specs.Boards.{placed}
use Rattle.chain_model.specs.Chains.{ChainState, DeviceState, powered_device, reset_device}
use Rattle.chain_model.specs.Cycles.{Clock, captured_from, shifted_dr, shifted_ir, capture_ir, update_device, update_ir, reset_code, on_rise, on_fall, rise, cycle, after_cycles}
use Rattle.scan_share.specs.Scans.{types_of}

abbrev parts_of : List DeviceState → List DeviceType
parts_of devices = map (λ device. device.part) devices

changed : (change : DeviceState → DeviceState) → ((device : DeviceState) → (change device).part ≡ device.part) → (devices : List DeviceState) → parts_of (map change devices) ≡ parts_of devices
changed change same [] = refl
changed change same (device ∷ devices) = λ i. same device i ∷ changed change same devices i

captured : (chain : ChainState) (place : ℕ) (devices : List DeviceState) → parts_of (captured_from chain place devices) ≡ parts_of devices
captured chain place [] = refl
captured chain place (device ∷ devices) = ap (λ rest. device.part ∷ rest) (captured chain (suc place) devices)

shifted_data : (tdi : Bool) (devices : List DeviceState) → parts_of (shifted_dr tdi devices) ≡ parts_of devices
shifted_data tdi [] = refl
shifted_data tdi (device ∷ devices) = ap (λ rest. device.part ∷ rest) (shifted_data (lowest_or tdi device.dr_stage) devices)

shifted_codes : (tdi : Bool) (devices : List DeviceState) → parts_of (shifted_ir tdi devices) ≡ parts_of devices
shifted_codes tdi [] = refl
shifted_codes tdi (device ∷ devices) = ap (λ rest. device.part ∷ rest) (shifted_codes (lowest_or tdi device.ir_stage) devices)

risen : (state : Tap) (chain : ChainState) (tdi : Bool) → types_of (on_rise state chain tdi) ≡ types_of chain
risen CaptureDr chain tdi = captured chain 0 chain.devices
risen ShiftDr chain tdi = shifted_data tdi chain.devices
risen CaptureIr chain tdi = changed capture_ir (λ device. refl) chain.devices
risen ShiftIr chain tdi = shifted_codes tdi chain.devices
risen _ chain tdi = refl

updated_types : (is_open : Bool) (chain : ChainState) → types_of (if is_open then record chain { scan_open = false; devices = map update_device chain.devices } else chain) ≡ types_of chain
updated_types true chain = changed update_device (λ device. refl) chain.devices
updated_types false chain = refl

fallen : (state : Tap) (chain : ChainState) → types_of (on_fall state chain) ≡ types_of chain
fallen UpdateDr chain = updated_types chain.scan_open chain
fallen UpdateIr chain = changed update_ir (λ device. refl) chain.devices
fallen TestLogicReset chain = changed reset_code (λ device. refl) chain.devices
fallen _ chain = refl

pub cycles_keep : (clocks : List Clock) (chain : ChainState) → types_of (after_cycles clocks chain) ≡ types_of chain
cycles_keep [] chain = refl
cycles_keep (clock ∷ clocks) chain =
    cycles_keep clocks (cycle chain clock)
    ∙ fallen (rise chain clock.tms clock.tdi).state (rise chain clock.tms clock.tdi)
    ∙ risen chain.state chain clock.tdi

pub reset_keeps : (devices : List DeviceState) → parts_of (map reset_device devices) ≡ parts_of devices
reset_keeps devices = changed reset_device (λ device. refl) devices

-- a chain at power-up has the types of its boards
pub types_powered : (boards : List Board) → parts_of (map powered_device (map placed boards)) ≡ map (λ board. board.part) boards
types_powered [] = refl
types_powered (board ∷ boards) = ap (λ rest. board.part ∷ rest) (types_powered boards)

-- what holds of a board's type holds of its device's
pub of_board : (P : DeviceType → Type 0) (devices : List DeviceState) (boards : List Board) (place : ℕ) (board : Board) → parts_of devices ≡ map (λ board. board.part) boards
    → board ≡ slice_index_or boards place board → P board.part → Told (slice_get devices place) (λ device. P device.part)
of_board P [] boards zero board same is p = tt
of_board P [] boards (suc place) board same is p = tt
of_board P (device ∷ devices) [] place board same is p = absurd (cc same)
of_board P (device ∷ devices) (first ∷ boards) zero board same is p =
    let types : device.part ≡ first.part = cc same in
    subst P (sym (types ∙ ap (λ (board : Board). board.part) (sym is))) p
of_board P (device ∷ devices) (first ∷ boards) (suc place) board same is p =
    let rest : parts_of devices ≡ map (λ board. board.part) boards = cc same in
    of_board P devices boards place board rest is p
