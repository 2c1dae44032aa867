-- A device type in the terms of IEEE 1149.1 and its description language BSDL.
-- Bits and digits stand lowest first: the first is nearest TDO.
use Rattle.std.specs.Prelude.{◌≡◌, ℕ, zero, suc, ◌+◌, ◌-◌, ◌^◌, ◌<◌, nat_lt, length, Bool, true, false, ◌&&◌, ◌||◌, max, List, [], ◌∷◌, map, ◌==◌, if◌then◌else◌, codes}
use Rattle.std.specs.List.{list_all, list_any}
use Rattle.std.specs.Option.{option_map}
use Rattle.scan_bits.specs.Words.{bits_of}
use Rattle.std.specs.declared.option.Option.{Option}
use Rattle.std.specs.declared.option.Option.TheVariants.{None, Some}
use Rattle.part_model.specs.declared.Digit.{Digit}
use Rattle.part_model.specs.declared.registers.DataRegister.{DataRegister}
use Rattle.part_model.specs.declared.selections.Selection.{Selection}
use Rattle.part_model.specs.declared.Digit.TheVariants.{Zero, One, Any}

-- a test data register (IEEE 1149.1): bypass, boundary-scan, device identification by IDCODE or by USERCODE, or one of the design's own
pub data Register : Type 0 where
  Bypass : Register
  Boundary : Register
  Idcode : Register
  Usercode : Register
  Named : (at : ℕ) → Register

-- an instruction: its name, the patterns of its opcodes, and the data register that it selects
pub record Instruction : Type 0 where
  pub name : List ℕ
  pub patterns : List (List Digit)
  pub register : Register

-- a register of REGISTER_ACCESS that the standard does not name
pub record NamedRegister : Type 0 where
  pub name : List ℕ
  pub length : ℕ

-- the registers that the code keeps
abbrev pub named_of : List DataRegister → List NamedRegister
named_of registers = map (λ register. record { name = register.name; length = register.length }) registers

-- a device type: what its BSDL entity says of its instruction register and of its data registers
pub record DeviceType : Type 0 where
  pub ir_length : ℕ
  pub opcodes : List Instruction
  pub ir_captures : List Bool
  pub reset_code : List Bool
  pub idcode : Option (List Bool)
  pub usercode : List Bool
  pub boundary_length : ℕ
  pub named : List NamedRegister

-- a digit matches a bit; X matches either
abbrev pub digit_matches : Digit → Bool → Bool
digit_matches Zero true = false
digit_matches Zero false = true
digit_matches One bit = bit
digit_matches Any bit = true

-- a pattern matches a code of its length
abbrev pub matches : List Digit → List Bool → Bool
matches [] [] = true
matches (digit ∷ digits) (bit ∷ bits) = digit_matches digit bit && matches digits bits
matches _ _ = false

-- the opcodes from the first on: the first that matches
abbrev pub first_match : List Instruction → List Bool → Option Instruction
first_match [] code = None
first_match (opcode ∷ opcodes) code = if list_any (λ pattern. matches pattern code) opcode.patterns then Some opcode else first_match opcodes code

-- the instruction of a code: none for all ones, which is BYPASS, and for a code that is not listed
abbrev pub instruction_in : List Instruction → List Bool → Option Instruction
instruction_in opcodes code = if list_all (λ bit. bit) code then None else first_match opcodes code

abbrev pub instruction : DeviceType → List Bool → Option Instruction
instruction part code = instruction_in part.opcodes code

-- the register that an instruction selects, BYPASS where there is none
abbrev pub register_of : Option Instruction → Register
register_of None = Bypass
register_of (Some opcode) = opcode.register

-- the data register between TDI and TDO under a code
abbrev pub selected : DeviceType → List Bool → Register
selected part code = register_of (instruction part code)

-- the length of a named register
abbrev pub named_length : List NamedRegister → ℕ → ℕ
named_length [] at = 1
named_length (register ∷ registers) zero = register.length
named_length (register ∷ registers) (suc at) = named_length registers at

-- the length of a data register
abbrev pub length_of : DeviceType → Register → ℕ
length_of part Bypass = 1
length_of part Boundary = part.boundary_length
length_of part Idcode = 32
length_of part Usercode = 32
length_of part (Named at) = named_length part.named at

-- the number of bits between TDI and TDO under a code
abbrev pub width : DeviceType → List Bool → ℕ
width part code = length_of part (selected part code)

-- the register keeps what Update-DR gives it
abbrev pub has_latch : Register → Bool
has_latch Boundary = true
has_latch (Named at) = true
has_latch _ = false

-- every register but BYPASS
abbrev pub is_counted : Register → Bool
is_counted Bypass = false
is_counted _ = true

-- equal names
abbrev pub same_name : List ℕ → List ℕ → Bool
same_name [] [] = true
same_name (x ∷ xs) (y ∷ ys) = (x == y) && same_name xs ys
same_name _ _ = false

-- the instruction is EXTEST, under which the boundary register drives the pins
abbrev pub is_extest : Option Instruction → Bool
is_extest None = false
is_extest (Some opcode) = same_name opcode.name (codes "EXTEST")

-- the device drives its pins under a code
abbrev pub drives : DeviceType → List Bool → Bool
drives part code = is_extest (instruction part code)

-- the part has an identification code
abbrev pub is_identified : Option (List Bool) → Bool
is_identified None = false
is_identified (Some code) = true

abbrev pub has_usercode : List Instruction → Bool
has_usercode opcodes = list_any (λ opcode. same_name opcode.name (codes "USERCODE")) opcodes

-- the part has DEVICE_ID: by an identification code, or by an opcode USERCODE
abbrev pub has_device_id : DeviceType → Bool
has_device_id part = is_identified part.idcode || has_usercode part.opcodes

-- the greatest length of a named register
abbrev pub longest_named : List NamedRegister → ℕ
longest_named [] = 0
longest_named (register ∷ registers) = max register.length (longest_named registers)

-- the greatest length of a register that the part has
abbrev pub longest : DeviceType → ℕ
longest part = max (max 1 part.boundary_length) (max (if has_device_id part then 32 else 0) (longest_named part.named))

-- the registers by number: BYPASS, BOUNDARY, DEVICE_ID by IDCODE and by USERCODE, and then the named ones
abbrev pub numbered : ℕ → Register
numbered zero = Bypass
numbered (suc zero) = Boundary
numbered (suc (suc zero)) = Idcode
numbered (suc (suc (suc zero))) = Usercode
numbered (suc (suc (suc (suc at)))) = Named at

-- how many registers there are
abbrev pub register_count : DeviceType → ℕ
register_count part = 4 + length part.named

-- the name of a named register
abbrev pub name_in : List NamedRegister → ℕ → List ℕ
name_in [] at = []
name_in (register ∷ registers) zero = register.name
name_in (register ∷ registers) (suc at) = name_in registers at

-- the name of a data register
abbrev pub register_name : DeviceType → Register → List ℕ
register_name part Bypass = codes "BYPASS"
register_name part Boundary = codes "BOUNDARY"
register_name part Idcode = codes "DEVICE_ID"
register_name part Usercode = codes "DEVICE_ID"
register_name part (Named at) = name_in part.named at

-- ---- what the code keeps

abbrev pub instruction_of : Selection → Instruction
instruction_of selection = record { name = selection.name; patterns = selection.patterns; register = numbered selection.register }

abbrev pub instructions_of : List Selection → List Instruction
instructions_of selections = map instruction_of selections

-- each selects a register that is there
abbrev pub all_below : ℕ → List Selection → Bool
all_below count selections = list_all (λ selection. nat_lt selection.register count) selections

-- codes of as many bits as the instruction register, registers that are there, and numbers of 32 bits for them
pub record Fits (ir_len capture reset : ℕ) (opcodes : List Selection) (named : List DataRegister) : Type 0 where
  pub capture_fits : capture < 2 ^ ir_len
  pub reset_fits : reset < 2 ^ ir_len
  pub few : length named < 2 ^ 32 - 4
  pub below : all_below (4 + length named) opcodes ≡ true

-- the device type of these fields
abbrev pub kept : ℕ → ℕ → ℕ → Option ℕ → ℕ → ℕ → List Selection → List DataRegister → DeviceType
kept ir_len capture reset idcode usercode boundary opcodes named = record {
  ir_length = ir_len;
  opcodes = instructions_of opcodes;
  ir_captures = bits_of ir_len capture;
  reset_code = bits_of ir_len reset;
  idcode = option_map (bits_of 32) idcode;
  usercode = bits_of 32 usercode;
  boundary_length = boundary;
  named = named_of named;
}
