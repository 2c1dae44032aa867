-- What codes select, each at the place of its number in a table.
use Rattle.std.specs.Prelude.{◌≡◌, ◌<◌, ℕ, List, slice_get}
use Rattle.std.specs.declared.option.Option.TheVariants.{Some}
use Rattle.scan_bits.specs.Words.{bits_of}
use Rattle.part_model.specs.declared.code_table.Selected.{Selected}
use Rattle.part_model.specs.Parts.{DeviceType, numbered, register_count, selected, width}

-- the register that a code selects is one of the part, and has so many bits
pub record Selects (part : DeviceType) (code : ℕ) (entry : Selected) : Type 0 where
  pub register : numbered entry.register ≡ selected part (bits_of part.ir_length code)
  pub there : entry.register < register_count part
  pub length : entry.length ≡ width part (bits_of part.ir_length code)

-- each entry is what the code of its place selects
pub record IsTableOf (part : DeviceType) (table : List Selected) : Type 0 where
  pub entries : (code : ℕ) (entry : Selected) → slice_get table code ≡ Some entry → Selects part code entry
