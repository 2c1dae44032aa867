-- Which register a name is of.
use Rattle.std.specs.Prelude.{ℕ, List, if◌then◌else◌, codes}
use Rattle.part_model.specs.Parts.{same_name}
use Rattle.part_model.specs.declared.names.RegisterName.{RegisterName}
use Rattle.part_model.specs.declared.names.RegisterName.TheVariants.{Bypass, Boundary, DeviceId, Other}

-- the register that a name is of
abbrev pub register_name : List ℕ → RegisterName
register_name name =
    if same_name name (codes "BYPASS") then Bypass else
    (if same_name name (codes "BOUNDARY") then Boundary else
    (if same_name name (codes "DEVICE_ID") then DeviceId else Other))
