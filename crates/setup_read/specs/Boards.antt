-- The boards of the devices of a setup file, from the BSDL files that it names.
use Rattle.std.specs.Prelude.{◌≡◌, ℕ, zero, suc, Bool, false, ◌&&◌, ◌==◌, nat_lt, List, [], ◌∷◌, ◌++◌, length, replicate, if◌then◌else◌, Result, Ok, Err}
use Rattle.std.specs.declared.option.Option.{Option}
use Rattle.std.specs.declared.option.Option.TheVariants.{None, Some}
use Rattle.scan_bits.specs.BitLists.{BitList}
use Rattle.part_model.specs.declared.Net.{Net}
use Rattle.part_model.specs.Parts.{DeviceType}
use Rattle.bsdl_read.specs.declared.structure.Fault.{Fault as TextFault}
use Rattle.bsdl_read.specs.Reading.{EntityShape, read_of}
use Rattle.chain_model.specs.declared.cable.Board.{Board}
use Rattle.chain_model.specs.Boards.{cells_at, EachHasPins}
use Rattle.setup_document.specs.declared.plan.DeviceEntry.{DeviceEntry}
use Rattle.setup_read.specs.declared.boards.Devices.{Devices}
use Rattle.setup_read.specs.declared.setup.SetupRefusal.{SetupRefusal}
use Rattle.setup_read.specs.declared.setup.SetupRefusal.TheVariants as refusal

-- one after the other, up to the first refusal
abbrev pub and_then : {A B : Type 0} → Result A SetupRefusal → (A → Result B SetupRefusal) → Result B SetupRefusal
and_then (Ok x) more = more x
and_then (Err refused) more = Err refused

-- the bytes of each name, none where there is no such file
abbrev pub Files : Type 0
Files = List ℕ → Option (List ℕ)

-- ---- one device, by its number from 1

-- what a BSDL text says
abbrev pub entity_in : ℕ → Result EntityShape TextFault → Result EntityShape SetupRefusal
entity_in device (Ok entity) = Ok entity
entity_in device (Err fault) = Err (refusal.Bsdl device fault.at fault.cause)

-- what its file says
abbrev pub entity_of : ℕ → Option (List ℕ) → Result EntityShape SetupRefusal
entity_of device None = Err (refusal.Absent device)
entity_of device (Some text) = entity_in device (read_of text)

-- the pins of a text of `0` and `1`, the rightmost first, which is nearest TDO
abbrev pub pin_values : List ℕ → List Bool
pin_values [] = []
pin_values (byte ∷ bytes) = pin_values bytes ++ (byte == 49) ∷ []

-- the pins of a device: as many as its boundary cells, all 0 where none are given
abbrev pub pins_of : ℕ → DeviceType → Option (List ℕ) → Result BitList SetupRefusal
pins_of device part None = Ok (record { bits = replicate part.boundary_length false; room = part.boundary_length })
pins_of device part (Some text) = if length text == part.boundary_length then Ok (record { bits = pin_values text; room = length text }) else Err (refusal.Pins device)

-- its entity's name and its board
pub record NamedBoard : Type 0 where
  pub name : List ℕ
  pub board : Board

abbrev pub named_board : List ℕ × Board → NamedBoard
named_board found = record { name = found.0; board = found.1 }

abbrev pub board_of : ℕ → DeviceEntry → EntityShape → Result NamedBoard SetupRefusal
board_of device entry entity = and_then (pins_of device entity.part entry.pins) (λ pins. Ok (record { name = entity.name; board = record { part = entity.part; pins = pins } }))

abbrev pub device_of : Files → ℕ → DeviceEntry → Result NamedBoard SetupRefusal
device_of files device entry = and_then (entity_of device (files entry.bsdl)) (board_of device entry)

-- ---- all devices in turn, numbered from one on

abbrev pub with_board : NamedBoard → Devices → Devices
with_board first devices = record { names = first.name ∷ devices.names; boards = first.board ∷ devices.boards }

abbrev pub devices_of : Files → ℕ → List DeviceEntry → Result Devices SetupRefusal
devices_of files device [] = Ok (record { names = []; boards = [] })
devices_of files device (entry ∷ entries) = and_then (device_of files device entry) (λ first. and_then (devices_of files (suc device) entries) (λ devices. Ok (with_board first devices)))

-- so many devices, with a pin for each boundary cell
pub record AreDevices (count : ℕ) (devices : Devices) : Type 0 where
  pub names : length devices.names ≡ count
  pub boards : length devices.boards ≡ count
  pub pins : EachHasPins devices.boards

-- ---- nets

-- how many boundary cells the device of a number from 1 has
abbrev pub cells_of : List Board → ℕ → ℕ
cells_of boards zero = 0
cells_of boards (suc place) = cells_at boards place

-- both ends of a net are boundary cells
abbrev pub has_ends : List Board → Net → Bool
has_ends boards net = nat_lt net.from_cell (cells_of boards net.from_device) && nat_lt net.to_cell (cells_of boards net.to_device)

-- each net in turn, numbered from one on
abbrev pub wired : List Board → ℕ → List Net → Result (Unit {0}) SetupRefusal
wired boards number [] = Ok tt
wired boards number (net ∷ nets) = if has_ends boards net then wired boards (suc number) nets else Err (refusal.Cell number)

-- ---- what the code answers

-- unless memory runs out or a load fails
abbrev pub RefusesAs : {A : Type 0} → SetupRefusal → Result A SetupRefusal → Type 0
RefusesAs refusal.Memory read = Unit {0}
RefusesAs refusal.Fault read = Unit {0}
RefusesAs refused read = read ≡ Err refused

abbrev pub Reads : {X Y : Type 0} → (X → Y) → Result X SetupRefusal → Result Y SetupRefusal → Type 0
Reads seen (Ok x) read = read ≡ Ok (seen x)
Reads seen (Err refused) read = RefusesAs refused read
