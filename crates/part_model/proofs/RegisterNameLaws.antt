-- A register of another name than DEVICE_ID.
use Rattle.std.proofs.Common.{◌≡◌, ℕ, List, false, not, ◌&&◌, inl, inr, refl, sym, subst, ap, codes}
use Rattle.std.specs.List.{list_any}
use Rattle.std.specs.declared.option.Option.{Option}
use Rattle.std.specs.declared.option.Option.TheVariants.{None, Some}
use Rattle.std.proofs.lemmas.Bool.{cases_Bool}
use Rattle.part_model.specs.declared.Digit.{Digit}
use Rattle.part_model.specs.declared.names.RegisterName.TheVariants.{DeviceId}
use Rattle.part_model.specs.Parts.{same_name}
use Rattle.part_model.specs.Plans.{no_identification}
use Rattle.part_model.specs.RegisterNames.{register_name}
use Rattle.part_model.proofs.PlaceLaws.{same_is}

not_device_id : (name : List ℕ) → (register_name name ≡ DeviceId → ⊥) → same_name name (codes "DEVICE_ID") ≡ false
not_device_id name other = elim (cases_Bool (same_name name (codes "DEVICE_ID"))) [
  | inl same ↦ absurd (other (ap register_name (same_is name (codes "DEVICE_ID") same)))
  | inr apart ↦ apart
]

pub another_register : (idcode : Option (List Digit)) (name : List ℕ) (instructions : List (List ℕ)) → (register_name name ≡ DeviceId → ⊥) → false ≡ no_identification idcode name instructions
another_register None name instructions other = ap (λ same. same && list_any (λ instruction. not (same_name instruction (codes "USERCODE"))) instructions) (sym (not_device_id name other))
another_register (Some pattern) name instructions other = refl
