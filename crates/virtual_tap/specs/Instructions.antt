-- The instruction registers of a group's devices (IEEE 1149.1): a shift stage of each, behind its device type.
use Rattle.std.specs.Prelude.{◌≡◌, ◌≤◌, ◌<◌, ◌^◌, ℕ, Bool, false, List, [], ◌∷◌, map, length, replicate}
use Rattle.tap_states.specs.declared.Tap.{Tap}
use Rattle.tap_states.specs.declared.Tap.TheVariants.{TestLogicReset, CaptureIr, ShiftIr, UpdateIr}
use Rattle.scan_bits.specs.Words.{bits_of}
use Rattle.scan_bits.specs.Registers.{shifted_all, shifted_out}
use Rattle.part_model.specs.Parts.{DeviceType}
use Rattle.part_model.specs.Plans.{IsPart}

-- an instruction register: its device type, and the bits of its shift stage
pub record InstructionState : Type 0 where
  pub part : DeviceType
  pub stage : List Bool

-- the instruction registers of a group's devices, and the codes in force
pub record GroupInstructions : Type 0 where
  pub registers : List InstructionState
  pub codes : List (List Bool)

-- each of these is the device type of a plan
abbrev pub ArePlans : List DeviceType → Type 0
ArePlans [] = Unit {0}
ArePlans (part ∷ parts) = IsPart part × ArePlans parts

-- the stage has the bits that the device type says, at most a word of them
pub record StageFits (part : DeviceType) (stage : List Bool) : Type 0 where
  pub long : length stage ≡ part.ir_length
  pub some : 1 ≤ part.ir_length
  pub few : part.ir_length ≤ 64

-- the device types of instruction registers
abbrev pub parts_of : List InstructionState → List DeviceType
parts_of registers = map (λ register. register.part) registers

-- their stages
abbrev pub stages_of : List InstructionState → List (List Bool)
stages_of registers = map (λ register. register.stage) registers

-- their codes of Test-Logic-Reset
abbrev pub reset_codes_of : List InstructionState → List (List Bool)
reset_codes_of registers = map (λ register. register.part.reset_code) registers

-- at power-up, and after a reset by TRST
abbrev pub at_power_up : DeviceType → InstructionState
at_power_up part = record { part = part; stage = replicate part.ir_length false }

abbrev pub cleared : InstructionState → InstructionState
cleared register = at_power_up register.part

-- Capture-IR
abbrev pub captured : InstructionState → InstructionState
captured register = record { part = register.part; stage = register.part.ir_captures }

-- Shift-IR, with a row of bits from TDI
abbrev pub shifted_in : List Bool → InstructionState → InstructionState
shifted_in bits register = record { part = register.part; stage = shifted_all register.stage bits }

-- the registers after a row of shifts: each takes what leaves the one before it
abbrev pub shifted_through : List Bool → List InstructionState → List InstructionState
shifted_through bits [] = []
shifted_through bits (register ∷ registers) = shifted_in bits register ∷ shifted_through (shifted_out register.stage bits) registers

-- what leaves the last of them
abbrev pub out_of : List Bool → List InstructionState → List Bool
out_of bits [] = bits
out_of bits (register ∷ registers) = out_of (shifted_out register.stage bits) registers

-- the words are these codes of these device types: each has the bits of one code, and no more
abbrev pub SpellCodes : List DeviceType → List ℕ → List (List Bool) → Type 0
SpellCodes [] [] [] = Unit {0}
SpellCodes (part ∷ parts) (word ∷ words) (code ∷ codes) = (bits_of part.ir_length word ≡ code) × (word < 2 ^ part.ir_length) × SpellCodes parts words codes
SpellCodes _ _ _ = ⊥

-- what the registers of the group do on a rising edge
abbrev pub risen : Tap → Bool → List InstructionState → List InstructionState
risen CaptureIr tdi registers = map captured registers
risen ShiftIr tdi registers = shifted_through (tdi ∷ []) registers
risen _ tdi registers = registers

-- what becomes of the codes on a falling edge
abbrev pub fallen_codes : Tap → List InstructionState → List (List Bool) → List (List Bool)
fallen_codes UpdateIr registers codes = stages_of registers
fallen_codes TestLogicReset registers codes = reset_codes_of registers
fallen_codes _ registers codes = codes
