-- Which devices of a scan chain are granted together, at which TCP port and by which protocol.
-- The place of a device counts from 0, from TDI on.
use Rattle.std.specs.Prelude.{ℕ, zero, suc, Bool, true, ◌==◌, List, [], ◌∷◌, replicate, slice_get, if◌then◌else◌}
use Rattle.std.specs.Option.{option_map}
use Rattle.std.specs.List.{sum_by, filter_map}
use Rattle.std.specs.declared.option.Option.{Option}
use Rattle.std.specs.declared.option.Option.TheVariants.{None, Some}
use Rattle.scan_bits.specs.Words.{number_of}
use Rattle.part_model.specs.declared.Net.{Net}
use Rattle.part_model.specs.Parts.{DeviceType, longest}
use Rattle.grant_table.specs.declared.Protocol.{Protocol}

-- a grant as it stands in a layout: the places of its devices, rising, its port, and its protocol
pub record GrantShape : Type 0 where
  pub group : List ℕ
  pub port : ℕ
  pub protocol : Protocol

-- a layout: the device types of the chain from TDI on, its grants, and its nets
pub record LayoutShape : Type 0 where
  pub parts : List DeviceType
  pub grants : List GrantShape
  pub nets : List Net

-- the length of an instruction scan of the whole chain: the sum of INSTRUCTION_LENGTH over its devices
abbrev pub ir_total : LayoutShape → ℕ
ir_total layout = sum_by (λ part. part.ir_length) layout.parts

-- the code of BYPASS as a word: a one for each bit of the instruction register
abbrev pub bypass_word : DeviceType → ℕ
bypass_word part = number_of (replicate part.ir_length true)

-- the first place at which a test passes
abbrev pub first_place : {X : Type 0} → (X → Bool) → List X → Option ℕ
first_place test [] = None
first_place test (x ∷ xs) = if test x then Some 0 else option_map suc (first_place test xs)

-- the number of the first grant that has the port
abbrev pub grant_at_port : List GrantShape → ℕ → Option ℕ
grant_at_port grants port = first_place (λ shape. shape.port == port) grants

-- the grant that a port belongs to, none where it belongs to none
abbrev pub grant_of : LayoutShape → ℕ → Option ℕ
grant_of layout port = grant_at_port layout.grants port

-- the places of a grant's devices; none where there is no such grant
abbrev pub group_of : List GrantShape → ℕ → List ℕ
group_of [] grant = []
group_of (shape ∷ grants) zero = shape.group
group_of (shape ∷ grants) (suc grant) = group_of grants grant

-- the most bits that a data register scan of the group's devices can have
abbrev pub longest_of : LayoutShape → List ℕ → ℕ
longest_of layout group = sum_by longest (filter_map (slice_get layout.parts) group)
