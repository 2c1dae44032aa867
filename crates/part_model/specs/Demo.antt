-- The demo part: an example that the tests and worked rows use.
use Rattle.std.specs.Prelude.{ℕ, Bool, true, false, List, [], ◌∷◌, codes}
use Rattle.std.specs.declared.option.Option.TheVariants.{None, Some}
use Rattle.scan_bits.specs.Words.{bits_of}
use Rattle.part_model.specs.declared.Digit.{Digit}
use Rattle.part_model.specs.declared.Digit.TheVariants.{Zero, One}
use Rattle.part_model.specs.Parts.{DeviceType}
use Rattle.part_model.specs.Plans.{PartAttributes, OpcodeEntry, part_of}

-- the pattern of these bits, without X
abbrev pub digits_of_bits : List Bool → List Digit
digits_of_bits [] = []
digits_of_bits (true ∷ bits) = One ∷ digits_of_bits bits
digits_of_bits (false ∷ bits) = Zero ∷ digits_of_bits bits

-- an instruction with an opcode of four bits
abbrev pub entry : List ℕ → ℕ → OpcodeEntry
entry name code = record { name = name; patterns = digits_of_bits (bits_of 4 code) ∷ [] }

-- four instruction bits, five instructions, an identification, and a named register of eight bits
abbrev pub demo_plan : PartAttributes
demo_plan = record {
  ir_len = 4;
  opcodes = entry (codes "EXTEST") 0 ∷ entry (codes "SAMPLE") 1 ∷ entry (codes "IDCODE") 2 ∷ entry (codes "USER1") 8 ∷ entry (codes "BYPASS") 15 ∷ [];
  capture = digits_of_bits (bits_of 4 1);
  idcode = Some (digits_of_bits (bits_of 32 0x1abcd00f));
  usercode = None;
  access = record { register = codes "BOUNDARY"; length = None; instructions = codes "EXTEST" ∷ codes "SAMPLE" ∷ [] }
      ∷ record { register = codes "USER"; length = Some 8; instructions = codes "USER1" ∷ [] } ∷ [];
  boundary = 4;
}

-- the device type of the demo part
abbrev pub demo_part : DeviceType
demo_part = part_of demo_plan
