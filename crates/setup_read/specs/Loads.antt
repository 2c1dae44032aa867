-- What is loaded, and what a shelf tells of it.
use Rattle.std.specs.Prelude.{◌≡◌, ◌≤◌, ◌++◌, ℕ, List, [], map, Result, Ok, Err}
use Rattle.base_types.specs.Counts.{Rose}
use Rattle.ports.specs.declared.shelf.Load.{Load}
use Rattle.setup_document.specs.declared.plan.DeviceEntry.{DeviceEntry}
use Rattle.setup_document.specs.declared.plan.SetupPlan.{SetupPlan}
use Rattle.setup_document.specs.Keys.{DocumentFault}
use Rattle.setup_read.specs.declared.setup.SetupRefusal.{SetupRefusal}
use Rattle.setup_read.specs.declared.setup.SetupRefusal.TheVariants as refusal

-- the names of the BSDL files that a plan names, in the order of the devices
abbrev pub bsdl_names : List DeviceEntry → List (List ℕ)
bsdl_names devices = map (λ device. device.bsdl) devices

-- those of a setup file; none of bytes that are none
abbrev pub names_of : Result SetupPlan DocumentFault → List (List ℕ)
names_of (Ok plan) = bsdl_names plan.devices
names_of (Err fault) = []

-- the loads that were made stand behind those before, and have these names in order but for the last, which are left
pub record AddsAllBut (before now : List Load) (names left : List (List ℕ)) : Type 0 where
  pub added : List Load
  pub behind : now ≡ before ++ added
  pub called : names ≡ map (λ load. load.name) added ++ left

-- all of these names were loaded
abbrev pub AddsAll : List Load → List Load → List (List ℕ) → Type 0
AddsAll before now names = AddsAllBut before now names []

-- the first of these names were loaded, and no other
pub record AddsFirst (before now : List Load) (names : List (List ℕ)) : Type 0 where
  pub left : List (List ℕ)
  pub adds : AddsAllBut before now names left

-- the count of faults rises where a load fails, and stays otherwise
abbrev pub Counts : {A : Type 0} → ℕ → ℕ → Result A SetupRefusal → Type 0
Counts before now (Err refusal.Fault) = Rose before now
Counts before now _ = now ≡ before

-- `Fault` comes only where the count rose, and no other answer changes the count; no count falls
pub record HasSetupCause {A : Type 0} (before now : ℕ) (answer : Result A SetupRefusal) : Type 0 where
  pub later : before ≤ now
  pub counts : Counts before now answer

-- what loads nothing does not answer `Fault`
abbrev pub LoadsNothing : {A : Type 0} → Result A SetupRefusal → Type 0
LoadsNothing (Err refusal.Fault) = ⊥
LoadsNothing _ = Unit {0}
