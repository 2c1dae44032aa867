-- The edges of TCK (IEEE 1149.1): what the rising edge captures and shifts, what the falling edge updates.
use Rattle.std.specs.Prelude.{ℕ, suc, Bool, true, false, List, [], ◌∷◌, map, length, slice_set, if◌then◌else◌}
use Rattle.tap_states.specs.declared.Tap.{Tap}
use Rattle.tap_states.specs.declared.Tap.TheVariants.{TestLogicReset, CaptureDr, ShiftDr, UpdateDr, CaptureIr, ShiftIr, UpdateIr}
use Rattle.tap_states.specs.States.{next}
use Rattle.scan_bits.specs.Words.{bits_of}
use Rattle.scan_bits.specs.Registers.{lowest_or, shifted, joined}
use Rattle.part_model.specs.Parts.{Register, selected, is_counted}
use Rattle.part_model.specs.Parts.Register.{Boundary, Named}
use Rattle.base_types.specs.Counts.{raised}
use Rattle.chain_model.specs.Chains.{Content, DeviceState, ChainState, fresh, reset}

-- one more where the register is counted
abbrev pub counted : Register → ℕ → ℕ
counted register count = if is_counted register then raised count 1 else count

-- Capture-DR: the data stage becomes what the selected register captures
abbrev pub capture_device : ChainState → ℕ → DeviceState → DeviceState
capture_device chain place device = record device {
  dr_stage = fresh chain place device;
  content = record device.content { captures = counted (selected device.part device.code) device.content.captures };
}

-- the devices from a place on, captured
abbrev pub captured_from : ChainState → ℕ → List DeviceState → List DeviceState
captured_from chain place [] = []
captured_from chain place (device ∷ devices) = capture_device chain place device ∷ captured_from chain (suc place) devices

-- Shift-DR: each data stage gives its lowest bit to the next device, and takes one from the device before it or TDI
abbrev pub shifted_dr : Bool → List DeviceState → List DeviceState
shifted_dr tdi [] = []
shifted_dr tdi (device ∷ devices) = record device { dr_stage = shifted device.dr_stage tdi } ∷ shifted_dr (lowest_or tdi device.dr_stage) devices

-- Capture-IR: the instruction stage becomes the captured pattern
abbrev pub capture_ir : DeviceState → DeviceState
capture_ir device = record device { ir_stage = device.part.ir_captures }

-- Shift-IR: as Shift-DR, on the instruction stages
abbrev pub shifted_ir : Bool → List DeviceState → List DeviceState
shifted_ir tdi [] = []
shifted_ir tdi (device ∷ devices) = record device { ir_stage = shifted device.ir_stage tdi } ∷ shifted_ir (lowest_or tdi device.ir_stage) devices

-- what the rising edge of TCK does in a state of the controller (IEEE 1149.1)
abbrev pub on_rise : Tap → ChainState → Bool → ChainState
on_rise CaptureDr chain tdi = record chain { scan_open = true; devices = captured_from chain 0 chain.devices }
on_rise ShiftDr chain tdi = record chain { devices = shifted_dr tdi chain.devices }
on_rise CaptureIr chain tdi = record chain { devices = map capture_ir chain.devices }
on_rise ShiftIr chain tdi = record chain { devices = shifted_ir tdi chain.devices }
on_rise _ chain tdi = chain

-- the rising edge, with TMS and TDI: the act of the state before it, and then the next state
abbrev pub rise : ChainState → Bool → Bool → ChainState
rise chain tms tdi = record (on_rise chain.state chain tdi) { state = next chain.state tms }

-- the content after its register was given these bits
abbrev pub latched : Register → List Bool → Content → Content
latched Boundary bits content = record content { boundary = bits }
latched (Named at) bits content = record content { named = slice_set content.named at bits }
latched _ bits content = content

-- the content after an update of the register from its stage
abbrev pub updated_content : Register → List Bool → Content → Content
updated_content register stage content = record (latched register stage content) { updates = counted register content.updates }

-- Update-DR: the stage is latched where the register has a latch, and is gone
abbrev pub update_device : DeviceState → DeviceState
update_device device = record device {
  dr_stage = [];
  content = updated_content (selected device.part device.code) device.dr_stage device.content;
}

-- the end of an open scan; nothing where none is open
abbrev pub updated : ChainState → ChainState
updated chain = if chain.scan_open then record chain { scan_open = false; devices = map update_device chain.devices } else chain

-- Update-IR: the instruction stage becomes the code
abbrev pub update_ir : DeviceState → DeviceState
update_ir device = record device { code = device.ir_stage }

-- Test-Logic-Reset: the code becomes the reset code
abbrev pub reset_code : DeviceState → DeviceState
reset_code device = record device { code = device.part.reset_code }

-- what the falling edge of TCK does in a state of the controller (IEEE 1149.1)
abbrev pub on_fall : Tap → ChainState → ChainState
on_fall UpdateDr chain = updated chain
on_fall UpdateIr chain = record chain { devices = map update_ir chain.devices }
on_fall TestLogicReset chain = record chain { devices = map reset_code chain.devices }
on_fall _ chain = chain

-- the data stages, from TDI on
abbrev pub dr_stages : List DeviceState → List (List Bool)
dr_stages devices = map (λ device. device.dr_stage) devices

-- the instruction stages, from TDI on
abbrev pub ir_stages : List DeviceState → List (List Bool)
ir_stages devices = map (λ device. device.ir_stage) devices

-- TDO in a state: the last device's lowest bit while a register shifts, and 1 where it is not driven
abbrev pub tdo_in : Tap → List DeviceState → Bool
tdo_in ShiftDr devices = lowest_or true (joined (dr_stages devices))
tdo_in ShiftIr devices = lowest_or true (joined (ir_stages devices))
tdo_in _ devices = true

-- TDO follows the state and the stages
abbrev pub with_tdo : ChainState → ChainState
with_tdo chain = record chain { tdo = tdo_in chain.state chain.devices }

-- the falling edge: the act of the state, and then TDO
abbrev pub fall : ChainState → ChainState
fall chain = with_tdo (on_fall chain.state chain)

-- a cycle of TCK: TMS and TDI
pub record Clock : Type 0 where
  pub tms : Bool
  pub tdi : Bool

-- a rise and then a fall
abbrev pub cycle : ChainState → Clock → ChainState
cycle chain clock = fall (rise chain clock.tms clock.tdi)

-- the chain after cycles in a row
abbrev pub after_cycles : List Clock → ChainState → ChainState
after_cycles [] chain = chain
after_cycles (clock ∷ clocks) chain = after_cycles clocks (cycle chain clock)

-- TDO before the rise of each of the cycles
abbrev pub answers : List Clock → ChainState → List Bool
answers [] chain = []
answers (clock ∷ clocks) chain = chain.tdo ∷ answers clocks (cycle chain clock)

-- the chain after so many calls that make these cycles
abbrev pub after_calls : ℕ → List Clock → ChainState → ChainState
after_calls calls clocks chain = record (after_cycles clocks chain) { made = raised chain.made (length clocks); asked = raised chain.asked calls }

-- the chain after one call that makes these cycles
abbrev pub after_call : List Clock → ChainState → ChainState
after_call clocks chain = after_calls 1 clocks chain

-- a close: an open scan ends as in Update-DR, and then the chain is reset
abbrev pub closed : ChainState → ChainState
closed chain = reset (updated chain)

-- the cycles of two lists of bits
abbrev pub clocks : List Bool → List Bool → List Clock
clocks (tms ∷ more) (tdi ∷ rest) = record { tms = tms; tdi = tdi } ∷ clocks more rest
clocks _ _ = []

-- the cycles of two words
abbrev pub clocks_of : ℕ → ℕ → ℕ → List Clock
clocks_of count tms tdi = clocks (bits_of count tms) (bits_of count tdi)
