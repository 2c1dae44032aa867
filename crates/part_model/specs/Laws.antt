-- Laws of device types that plans make.
use Rattle.std.specs.Prelude.{◌≡◌, true, false, take, [], ◌∷◌}
use Rattle.part_model.specs.Parts.{DeviceType, selected, is_identified}
use Rattle.part_model.specs.Parts.Register.{Bypass, Idcode}
use Rattle.part_model.specs.Plans.{IsPart}

-- the two lowest bits that Capture-IR loads are 01, the 1 nearest TDO
abbrev pub CapturedEndsIn01 : Type 0
CapturedEndsIn01 = (part : DeviceType) → IsPart part → take 2 part.ir_captures ≡ true ∷ false ∷ []

-- the reset code selects DEVICE_ID by IDCODE where there is an identification, and BYPASS where there is none
abbrev pub ResetIdentifies : Type 0
ResetIdentifies = (part : DeviceType) → IsPart part → is_identified part.idcode ≡ true → selected part part.reset_code ≡ Idcode

abbrev pub ResetBypasses : Type 0
ResetBypasses = (part : DeviceType) → IsPart part → is_identified part.idcode ≡ false → selected part part.reset_code ≡ Bypass
