-- The setup of a name over the files of a shelf, why there is none, and what is loaded for it.
use Rattle.std.specs.Prelude.{◌≡◌, ℕ, List, [], ◌∷◌, ◌++◌, map, take, codes, IfSome, Result, Ok, Err}
use Rattle.std.specs.Option.{option_map}
use Rattle.std.specs.declared.option.Option.{Option}
use Rattle.std.specs.declared.option.Option.TheVariants.{None, Some}
use Rattle.ports.specs.Shelves.{NamedBytes, named}
use Rattle.ports.specs.declared.shelf.Load.{Load}
use Rattle.setup_document.specs.Documents.{plan_of}
use Rattle.setup_read.specs.Loads.{names_of}
use Rattle.setup_read.specs.declared.setup.Setup.{Setup}
use Rattle.setup_read.specs.declared.setup.SetupRefusal.{SetupRefusal}
use Rattle.setup_read.specs.declared.setup.SetupRefusal.TheVariants as refusal
use Rattle.setup_read.specs.Setups.{setup_of}
use Rattle.share_top.specs.Checks.{refusal_line, refusal_status}
use Rattle.share_top.specs.Outcomes.{Grew}
use Rattle.share_top.specs.declared.setup.NoSetup.{NoSetup}
use Rattle.share_top.specs.declared.setup.NoSetup.TheVariants.{Absent, Refused}

-- the bytes of the setup file: 1 MiB of it, and one byte more
abbrev pub setup_bytes : List NamedBytes → List ℕ → Option (List ℕ)
setup_bytes told name = option_map (take 1048577) (named told name)

-- what they say over the files; none where there is no such file
unfoldable pub setup_at : List NamedBytes → List ℕ → Option (Result Setup SetupRefusal)
setup_at told name = option_map (setup_of (named told)) (setup_bytes told name)

-- where the files are told, they say this setup
abbrev pub SetupAt : Setup → Option (List NamedBytes) → List ℕ → Type 0
SetupAt setup files name = IfSome files (λ told. setup_at told name ≡ Some (Ok setup))

-- unless memory runs out or a load fails, this is what the files are refused for
abbrev pub IsRefusal : SetupRefusal → List NamedBytes → List ℕ → Type 0
IsRefusal refusal.Memory told name = Unit {0}
IsRefusal refusal.Fault told name = Unit {0}
IsRefusal refused told name = setup_at told name ≡ Some (Err refused)

-- where the files are told, this is why they say none
abbrev pub NoSetupAt : NoSetup → Option (List NamedBytes) → List ℕ → Type 0
NoSetupAt Absent files name = IfSome files (λ told. setup_at told name ≡ None)
NoSetupAt (Refused refused) files name = IfSome files (λ told. IsRefusal refused told name)

-- a load that failed comes only where the shelf's count of faults rose, and all else leaves that count
abbrev pub LoadCauses : NoSetup → ℕ → ℕ → Type 0
LoadCauses (Refused refusal.Fault) shelf shelf' = Grew shelf shelf'
LoadCauses _ shelf shelf' = shelf' ≡ shelf

-- the status, and the last line
abbrev pub no_setup_status : NoSetup → ℕ
no_setup_status Absent = 12
no_setup_status (Refused refused) = refusal_status refused

abbrev pub no_setup_line : NoSetup → List ℕ
no_setup_line Absent = codes "absent setup\n"
no_setup_line (Refused refused) = refusal_line refused

-- ---- what is loaded

-- the BSDL files that the bytes of a load name, in the order of the devices; none where there are no bytes, or they are no setup file
unfoldable pub names_in : Option (List ℕ) → List (List ℕ)
names_in None = []
names_in (Some bytes) = names_of (plan_of bytes)

-- what may be loaded, by the loads that were made: the setup, and the files that the bytes of the first load name
abbrev pub listed : List ℕ → List Load → List (List ℕ)
listed name [] = name ∷ []
listed name (load ∷ loads) = name ∷ names_in load.answer

-- the loads that were made stand behind those before, and have the first of these names
pub record LoadsListed (before now : List Load) (name : List ℕ) : Type 0 where
  pub added : List Load
  pub left : List (List ℕ)
  pub behind : now ≡ before ++ added
  pub called : listed name added ≡ map (λ load. load.name) added ++ left
