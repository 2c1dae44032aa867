-- What a layout's contracts hand out beside what a layout is.
use Rattle.std.specs.Prelude.{ℕ, ◌≡◌, List, map, slice_get}
use Rattle.std.specs.declared.option.Option.TheVariants.{Some}
use Rattle.part_model.specs.Parts.{DeviceType}
use Rattle.part_model.specs.Plans.{IsPart}
use Rattle.grant_table.specs.Layouts.{LayoutShape, ir_total, bypass_word}
use Rattle.grant_table.specs.Faults.{IsLayout}

-- each of these is the device type of a plan
abbrev pub AllParts : List DeviceType → Type 0
AllParts parts = (place : ℕ) (part : DeviceType) → slice_get parts place ≡ Some part → IsPart part

-- a layout without fault, whose device types are those of plans, with the sum of its instruction lengths and the codes of BYPASS
pub record IsKept (layout : LayoutShape) (sum : ℕ) (bypass : List ℕ) : Type 0 where
  pub is : IsLayout layout
  pub parts : AllParts layout.parts
  pub total : sum ≡ ir_total layout
  pub codes : bypass ≡ map bypass_word layout.parts
