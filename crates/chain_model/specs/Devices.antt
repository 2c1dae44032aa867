-- The devices of a chain as they are kept: how long their registers are, and the nets between them.
use Rattle.std.specs.Prelude.{◌≡◌, ◌≤◌, ◌<◌, ◌-◌, ℕ, zero, suc, max, Bool, true, false, List, [], ◌∷◌, length, map, replicate, slice_set, slice_get}
use Rattle.std.specs.declared.option.Option.{Option}
use Rattle.std.specs.declared.option.Option.TheVariants.{None, Some}
use Rattle.tap_states.specs.declared.Tap.{Tap}
use Rattle.tap_states.specs.States.{in_dr_scan}
use Rattle.scan_bits.specs.BitLists.{BitList}
use Rattle.scan_bits.specs.Registers.{bit_at, shifted_all, shifted_out}
use Rattle.part_model.specs.declared.Net.{Net}
use Rattle.part_model.specs.Parts.{DeviceType, NamedRegister, Register, selected, width, longest, numbered, register_count}
use Rattle.part_model.specs.Parts.Register.{Boundary}
use Rattle.chain_model.specs.declared.data_stage.DataStage.{DataStage}
use Rattle.chain_model.specs.Chains.{Content, DeviceState, driven_by}
use Rattle.chain_model.specs.DataStages.{IsStanding}

abbrev pub bits_in : BitList → List Bool
bits_in list = list.bits

-- a latch of zeros with room for no more
abbrev pub zero_latch : NamedRegister → BitList
zero_latch register = record { bits = replicate register.length false; room = register.length }

-- the content of these lists: the latch of the boundary register is kept as what its last scan shifted in behind the pins
abbrev pub content_of : List Bool → List Bool → List BitList → ℕ → ℕ → Content
content_of pins shifted named captures updates = record { pins = pins; boundary = shifted_all pins shifted; named = map bits_in named; captures = captures; updates = updates }

-- how long the latches are, how much room they have, and how long the named registers are
abbrev pub latch_lengths : List BitList → List ℕ
latch_lengths latches = map (λ latch. length latch.bits) latches

abbrev pub latch_rooms : List BitList → List ℕ
latch_rooms latches = map (λ latch. latch.room) latches

abbrev pub named_lengths : List NamedRegister → List ℕ
named_lengths registers = map (λ register. register.length) registers

-- room for each data register
abbrev pub stage_room : DeviceType → ℕ
stage_room part = max 32 (longest part)

-- each named latch is as long as its register, no more was shifted in behind the pins than they are, and there is room for no more
pub record HasLatches (part : DeviceType) (boundary : BitList) (named : List BitList) : Type 0 where
  pub boundary_length : length boundary.bits ≤ part.boundary_length
  pub boundary_room : boundary.room ≡ part.boundary_length
  pub lengths : latch_lengths named ≡ named_lengths part.named
  pub rooms : latch_rooms named ≡ named_lengths part.named

-- how long the registers of a device are, and how much room there is
pub record Sizes (part : DeviceType) (ir_stage : BitList) (dr_stage : DataStage) (pins boundary : BitList) (named : List BitList) : Type 0 where
  pub ir_few : part.ir_length ≤ 64
  pub ir_length : length ir_stage.bits ≡ part.ir_length
  pub ir_room : ir_stage.room ≡ part.ir_length
  pub dr_room : dr_stage.came.room ≡ stage_room part
  pub standing : IsStanding dr_stage pins named
  pub pins_length : length pins.bits ≡ part.boundary_length
  pub latches : HasLatches part boundary named

-- the number of the register that a code selects
pub record Selects (part : DeviceType) (code : List Bool) (reg : ℕ) : Type 0 where
  pub is : numbered reg ≡ selected part code
  pub there : reg < register_count part

-- the data stage is as long as the selected register
pub record StageFits (device : DeviceState) : Type 0 where
  pub long : length device.dr_stage ≡ width device.part device.code

abbrev pub EachFits : List DeviceState → Type 0
EachFits [] = Unit {0}
EachFits (device ∷ devices) = StageFits device × EachFits devices

-- from Capture-DR to Update-DR the data stages of an open scan are as long as the selected registers
pub record ScanFits (state : Tap) (open_scan : Bool) (devices : List DeviceState) : Type 0 where
  pub stages : in_dr_scan state ≡ true → open_scan ≡ true → EachFits devices

-- ---- rows of shifts

-- the devices after a row of shifts in Shift-DR: each takes the bits that leave the one before it
abbrev pub run_dr : List Bool → List DeviceState → List DeviceState
run_dr bits [] = []
run_dr bits (device ∷ devices) = record device { dr_stage = shifted_all device.dr_stage bits } ∷ run_dr (shifted_out device.dr_stage bits) devices

-- the bits that leave the last device
abbrev pub out_dr : List Bool → List DeviceState → List Bool
out_dr bits [] = bits
out_dr bits (device ∷ devices) = out_dr (shifted_out device.dr_stage bits) devices

-- ---- nets

-- the bits with one of them in place, where there is that place
abbrev pub put_where : Register → ℕ → Bool → List Bool → List Bool
put_where Boundary cell bit bits = slice_set bits cell bit
put_where _ cell bit bits = bits

-- a device whose captured boundary register has this bit at a cell
abbrev pub wired_device : ℕ → Bool → DeviceState → DeviceState
wired_device cell bit device = record device { dr_stage = put_where (selected device.part device.code) cell bit device.dr_stage }

-- the pin value from outside at the end of a net
abbrev pub outer_bit : Option DeviceState → ℕ → Bool
outer_bit None cell = false
outer_bit (Some device) cell = bit_at device.content.pins cell

-- the value that a net brings
abbrev pub net_bit : List DeviceState → Net → Bool
net_bit devices net = driven_by (slice_get devices (net.from_device - 1)) net.from_cell (outer_bit (slice_get devices (net.to_device - 1)) net.to_cell)

-- the devices with the device at a place changed
abbrev pub changed_at : ℕ → (DeviceState → DeviceState) → List DeviceState → List DeviceState
changed_at place change [] = []
changed_at zero change (device ∷ devices) = change device ∷ devices
changed_at (suc place) change (device ∷ devices) = device ∷ changed_at place change devices

-- the captured devices with the value of a net in place; devices count from 1
abbrev pub wired_to : ℕ → ℕ → Bool → List DeviceState → List DeviceState
wired_to zero cell bit devices = devices
wired_to (suc place) cell bit devices = changed_at place (wired_device cell bit) devices

abbrev pub wired : Net → List DeviceState → List DeviceState
wired net devices = wired_to net.to_device net.to_cell (net_bit devices net) devices
