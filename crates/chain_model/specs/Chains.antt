-- A chain of devices behind one test access port (IEEE 1149.1): what it is made of, and its power-up.
-- Bits stand lowest first: the first is nearest TDO.
use Rattle.std.specs.Prelude.{ℕ, suc, ◌-◌, Bool, true, false, ◌&&◌, ◌==◌, List, [], ◌∷◌, map, replicate, slice_get, if◌then◌else◌}
use Rattle.std.specs.List.{find, slice_index_or}
use Rattle.std.specs.declared.option.Option.{Option}
use Rattle.std.specs.declared.option.Option.TheVariants.{None, Some}
use Rattle.tap_states.specs.declared.Tap.{Tap}
use Rattle.tap_states.specs.declared.Tap.TheVariants.{TestLogicReset}
use Rattle.scan_bits.specs.Registers.{bit_at}
use Rattle.part_model.specs.declared.Net.{Net}
use Rattle.part_model.specs.Parts.{DeviceType, NamedRegister, Register, selected, drives}
use Rattle.part_model.specs.Parts.Register.{Bypass, Boundary, Idcode, Usercode, Named}

-- what a device holds, whatever its instruction: the values at its pins, the latched outputs of its registers, and how often one was
-- captured and updated; no reset changes it
pub record Content : Type 0 where
  pub pins : List Bool
  pub boundary : List Bool
  pub named : List (List Bool)
  pub captures : ℕ
  pub updates : ℕ

-- a device: its type, its instruction, the shift stages of its instruction register and of its selected data register, and its content
pub record DeviceState : Type 0 where
  pub part : DeviceType
  pub code : List Bool
  pub ir_stage : List Bool
  pub dr_stage : List Bool
  pub content : Content

-- a chain: the state of its TAP controllers, which is one and the same; TDO; whether a data register scan is open; the devices from TDI
-- on; the nets between their boundary cells; how many cycles of TCK it made, and in how many calls
pub record ChainState : Type 0 where
  pub state : Tap
  pub tdo : Bool
  pub scan_open : Bool
  pub devices : List DeviceState
  pub nets : List Net
  pub made : ℕ
  pub asked : ℕ

-- a device as it is put on a board
pub record Placed : Type 0 where
  pub part : DeviceType
  pub pins : List Bool

-- a latch of zeros for each named register
abbrev pub zero_latches : List NamedRegister → List (List Bool)
zero_latches registers = map (λ register. replicate register.length false) registers

-- the content at power-up
abbrev pub powered_content : Placed → Content
powered_content placed = record {
  pins = placed.pins;
  boundary = replicate placed.part.boundary_length false;
  named = zero_latches placed.part.named;
  captures = 0;
  updates = 0;
}

-- a device with its instruction reset and no open scan, and its content kept
abbrev pub reset_device : DeviceState → DeviceState
reset_device device = record {
  part = device.part;
  code = device.part.reset_code;
  ir_stage = replicate device.part.ir_length false;
  dr_stage = [];
  content = device.content;
}

-- a device at power-up
abbrev pub powered_device : Placed → DeviceState
powered_device placed = record {
  part = placed.part;
  code = placed.part.reset_code;
  ir_stage = replicate placed.part.ir_length false;
  dr_stage = [];
  content = powered_content placed;
}

-- a chain at power-up
abbrev pub powered : List Placed → List Net → ChainState
powered boards nets = record {
  state = TestLogicReset;
  tdo = true;
  scan_open = false;
  devices = map powered_device boards;
  nets = nets;
  made = 0;
  asked = 0;
}

-- a reset by TRST: the controllers and instructions are those of power-up, an open scan is gone, all else stays
abbrev pub reset : ChainState → ChainState
reset chain = record {
  state = TestLogicReset;
  tdo = true;
  scan_open = false;
  devices = map reset_device chain.devices;
  nets = chain.nets;
  made = chain.made;
  asked = chain.asked;
}

-- the net that leads to a cell of the device at a place
abbrev pub net_to : List Net → ℕ → ℕ → Option Net
net_to nets place cell = find (λ net. (net.to_device == suc place) && (net.to_cell == cell)) nets

-- the value at a pin that a net leads to: what the other device drives, or else what stands there
abbrev pub driven_by : Option DeviceState → ℕ → Bool → Bool
driven_by None cell pin = pin
driven_by (Some device) cell pin = if drives device.part device.code then bit_at device.content.boundary cell else pin

-- the value at a pin: what a net that leads there drives, or else what stands there
abbrev pub pin_by : List DeviceState → Option Net → Bool → Bool
pin_by devices None pin = pin
pin_by devices (Some net) pin = driven_by (slice_get devices (net.from_device - 1)) net.from_cell pin

-- the pin values that the boundary register of the device at a place captures, from one cell on
abbrev pub pin_values : ChainState → ℕ → ℕ → List Bool → List Bool
pin_values chain place cell [] = []
pin_values chain place cell (pin ∷ pins) = pin_by chain.devices (net_to chain.nets place cell) pin ∷ pin_values chain place (suc cell) pins

-- the latch of a register
abbrev pub latch_of : Content → Register → List Bool
latch_of content Boundary = content.boundary
latch_of content (Named at) = slice_index_or content.named at []
latch_of content _ = []

-- a code as captured, or zeros where there is none
abbrev pub code_or_zeros : Option (List Bool) → List Bool
code_or_zeros None = replicate 32 false
code_or_zeros (Some bits) = bits

-- what a register of the device at a place captures
abbrev pub captured_by : ChainState → ℕ → DeviceState → Register → List Bool
captured_by chain place device Bypass = false ∷ []
captured_by chain place device Boundary = pin_values chain place 0 device.content.pins
captured_by chain place device Idcode = code_or_zeros device.part.idcode
captured_by chain place device Usercode = device.part.usercode
captured_by chain place device (Named at) = latch_of device.content (Named at)

-- what the selected register of the device at a place captures
abbrev pub fresh : ChainState → ℕ → DeviceState → List Bool
fresh chain place device = captured_by chain place device (selected device.part device.code)
