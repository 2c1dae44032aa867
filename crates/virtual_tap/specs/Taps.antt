-- A virtual TAP as it is kept: for one grant, with the device types of its group, and a register that has room for each scan.
use Rattle.std.specs.Prelude.{◌≡◌, ◌≤◌, ◌<◌, ℕ, Bool, true, false, List, [], ◌∷◌, length, is_some}
use Rattle.std.specs.List.{sum_by}
use Rattle.std.specs.Option.{unwrap_or}
use Rattle.std.specs.declared.option.Option.{Option}
use Rattle.std.specs.declared.option.Option.TheVariants.{None, Some}
use Rattle.tap_states.specs.declared.Tap.{Tap}
use Rattle.tap_states.specs.declared.Tap.TheVariants.{CaptureDr, ShiftDr, ShiftIr, UpdateDr}
use Rattle.tap_states.specs.States.{in_dr_scan}
use Rattle.scan_bits.specs.BitLists.{BitList}
use Rattle.scan_bits.specs.Registers.{joined, lowest_or, shifted, shifted_all}
use Rattle.part_model.specs.Parts.{DeviceType, longest}
use Rattle.grant_table.specs.Layouts.{LayoutShape, group_of}
use Rattle.scan_share.specs.PrivateChains.{entries_at}
use Rattle.scan_share.specs.Timing.{may_scan}
use Rattle.virtual_tap.specs.Views.{TapView, IsView}
use Rattle.virtual_tap.specs.Instructions.{InstructionState, GroupInstructions, ArePlans, parts_of, shifted_through, stages_of}

-- a virtual TAP: its grant's number, the device types of the group, what it shows, and the room of its register, 0 while that is taken out
pub record VTapState : Type 0 where
  pub grant : ℕ
  pub parts : List DeviceType
  pub view : TapView
  pub room : ℕ

-- it is that of its grant in this layout
abbrev pub IsOfLayout : LayoutShape → VTapState → Type 0
IsOfLayout layout tap = entries_at layout.parts (group_of layout.grants tap.grant) ≡ tap.parts

-- the most bits that a data register scan of these device types can have
abbrev pub longest_scan : List DeviceType → ℕ
longest_scan parts = sum_by longest parts

-- what no edge changes: the grant, the device types, and that the register is there, with its room
pub record KeepsTap (old new : VTapState) : Type 0 where
  pub grant : new.grant ≡ old.grant
  pub parts : new.parts ≡ old.parts
  pub there : is_some new.view.register ≡ is_some old.view.register
  pub room : new.room ≡ old.room

-- a state in which a scan may be open: from the capture to the falling edge in Update-DR
abbrev pub may_be_open : Tap → Bool
may_be_open CaptureDr = true
may_be_open state = in_dr_scan state

-- the falling edge in this state ends an open scan
abbrev pub ends_scan : Tap → Bool → Bool
ends_scan UpdateDr scan_open = scan_open
ends_scan _ scan_open = false

-- the next falling edge ends the scan: the state is Update-DR, and a scan is open
abbrev pub at_update : TapView → Bool
at_update view = ends_scan view.state view.scan_open

-- a scan is open exactly in the states of one, with TCK at this level; so it is between the edges that follow one another
abbrev pub ScansAt : (tck : Bool) → TapView → Type 0
ScansAt tck view = view.scan_open ≡ may_scan tck view.state

-- the data stages together: the register while a scan is open, and no bit while none is
abbrev pub data_stages : (scan_open : Bool) → Option (List Bool) → List Bool
data_stages false register = []
data_stages true register = unwrap_or register []

-- TDO of these stages: the lowest bit of the register that shifts, and 1 where none does
abbrev pub tdo_shown : Tap → (scan_open : Bool) → Option (List Bool) → List (List Bool) → Bool
tdo_shown ShiftDr scan_open register stages = lowest_or true (data_stages scan_open register)
tdo_shown ShiftIr scan_open register stages = lowest_or true (joined stages)
tdo_shown _ scan_open register stages = true

-- ---- the fields of a virtual TAP

-- the bits of a register that may be taken out
abbrev pub bits_shown : Option BitList → Option (List Bool)
bits_shown None = None
bits_shown (Some list) = Some list.bits

-- its room, 0 while it is taken out
abbrev pub room_of : Option BitList → ℕ
room_of None = 0
room_of (Some list) = list.room

-- the register after a row of shifts; with no scan open it rests
abbrev pub turned : (scan_open : Bool) → List Bool → Option BitList → Option BitList
turned false bits register = register
turned true bits None = None
turned true bits (Some list) = Some (record { bits = shifted_all list.bits bits; room = list.room })

-- what the register does on a rising edge
abbrev pub risen_register : Tap → (scan_open tdi : Bool) → Option BitList → Option BitList
risen_register ShiftDr scan_open tdi register = turned scan_open (tdi ∷ []) register
risen_register _ scan_open tdi register = register

-- a row of shifts in this state, at the data register and at the instruction registers
abbrev pub row_register : Tap → (scan_open : Bool) → List Bool → Option BitList → Option BitList
row_register ShiftDr scan_open bits register = turned scan_open bits register
row_register _ scan_open bits register = register

abbrev pub row_instructions : Tap → List Bool → List InstructionState → List InstructionState
row_instructions ShiftIr bits registers = shifted_through bits registers
row_instructions _ bits registers = registers

-- the bits at the output before each of a row of shifts, 1 where the register has none
abbrev pub shown_out : List Bool → List Bool → List Bool
shown_out register [] = []
shown_out register (tdi ∷ more) = lowest_or true register ∷ shown_out (shifted register tdi) more

-- the register that shifts in this state
abbrev pub shifting : Tap → (scan_open : Bool) → Option BitList → List InstructionState → List Bool
shifting ShiftDr scan_open register registers = data_stages scan_open (bits_shown register)
shifting _ scan_open register registers = joined (stages_of registers)

-- the virtual TAP of these fields
abbrev pub tap_of : ℕ → Tap → Bool → Bool → GroupInstructions → Option BitList → VTapState
tap_of grant state tdo scan_open instructions register = record {
  grant = grant;
  parts = parts_of instructions.registers;
  view = record {
    state = state;
    tdo = tdo;
    codes = instructions.codes;
    ir_stages = stages_of instructions.registers;
    scan_open = scan_open;
    register = bits_shown register;
  };
  room = room_of register;
}

-- what always holds of a virtual TAP
pub record IsTap (tap : VTapState) : Type 0 where
  pub view : IsView tap.parts tap.view
  pub timed : tap.view.scan_open ≡ true → may_be_open tap.view.state ≡ true
  pub roomy : is_some tap.view.register ≡ true → longest_scan tap.parts ≤ tap.room
  pub some : 0 < length tap.parts
  pub plans : ArePlans tap.parts
