-- What holds of every device type that a plan makes: the lengths of its codes and of its registers (IEEE 1149.1).
use Rattle.std.specs.Prelude.{◌≡◌, ℕ, ◌<◌, ◌≤◌, Bool, true, List, length}
use Rattle.std.specs.declared.option.Option.{Option}
use Rattle.std.specs.declared.option.Option.TheVariants.{None, Some}
use Rattle.part_model.specs.Parts.{DeviceType, NamedRegister, Register, selected, width, length_of, named_length, longest, is_identified, has_usercode}
use Rattle.part_model.specs.Parts.Register.{Bypass, Boundary, Idcode, Usercode, Named}
use Rattle.part_model.specs.Plans.{IsPart}

-- from one number to another, both included
abbrev pub Within : ℕ → ℕ → ℕ → Type 0
Within least most n = (least ≤ n) × (n ≤ most)

-- the register, where it is a named one, is one of these
abbrev pub HasRegister : List NamedRegister → Register → Type 0
HasRegister named (Named at) = at < length named
HasRegister named _ = Unit {0}

-- the code, where there is one, has so many bits
abbrev pub HasBits : ℕ → Option (List Bool) → Type 0
HasBits count None = Unit {0}
HasBits count (Some bits) = length bits ≡ count

-- the part has the register: DEVICE_ID by IDCODE where it has an identification code, and by USERCODE where it has that instruction
abbrev pub IsRegisterOf : DeviceType → Register → Type 0
IsRegisterOf part Bypass = Unit {0}
IsRegisterOf part Boundary = Unit {0}
IsRegisterOf part Idcode = is_identified part.idcode ≡ true
IsRegisterOf part Usercode = has_usercode part.opcodes ≡ true
IsRegisterOf part (Named at) = at < length part.named

-- the instruction register has 2 to 64 bits, and the codes that it loads have as many; a data register has 1 to 65,536 bits;
-- a code selects a register that the part has, and none of those is longer than `longest`
pub record IsSoundPart (part : DeviceType) : Type 0 where
  pub instruction_range : Within 2 64 part.ir_length
  pub captures : length part.ir_captures ≡ part.ir_length
  pub reset : length part.reset_code ≡ part.ir_length
  pub idcode : HasBits 32 part.idcode
  pub usercode : length part.usercode ≡ 32
  pub registers : (code : List Bool) → HasRegister part.named (selected part code)
  pub selects : (code : List Bool) → IsRegisterOf part (selected part code)
  pub boundary_range : Within 1 65536 part.boundary_length
  pub named_range : (at : ℕ) → at < length part.named → Within 1 65536 (named_length part.named at)
  pub register_range : (register : Register) → Within 1 65536 (length_of part register)
  pub fits_longest : (register : Register) → IsRegisterOf part register → length_of part register ≤ longest part
  pub width_range : (code : List Bool) → Within 1 (longest part) (width part code)
  pub longest_range : Within 1 65536 (longest part)

-- each device type that a plan makes is sound
abbrev pub PartsAreSound : Type 0
PartsAreSound = (part : DeviceType) → IsPart part → IsSoundPart part
