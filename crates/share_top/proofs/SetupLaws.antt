-- From the loads and the reader's answers to the setup of a name.
use Rattle.std.proofs.Common.{◌≡◌, ℕ, ◌≤◌, List, [], ◌∷◌, ◌++◌, take, refl, ap, sym, subst, ◌∙◌, Some, None, Ok, Err, append_assoc, append-nil}
use Rattle.std.specs.Prelude.{IfSome, Result}
use Rattle.std.specs.Option.{option_map}
use Rattle.std.specs.declared.option.Option.{Option}
use Rattle.base_types.specs.Counts.{Rose}
use Rattle.ports.specs.Shelves.{NamedBytes, named}
use Rattle.ports.specs.Shelves.{after_load}
use Rattle.ports.specs.declared.shelf.Load.{Load}
use Rattle.ports.specs.declared.shelf.LoadFault.TheVariants as fault
use Rattle.setup_document.specs.Documents.{plan_of}
use Rattle.setup_read.specs.declared.setup.Setup.{Setup}
use Rattle.setup_read.specs.declared.setup.SetupRefusal.{SetupRefusal}
use Rattle.setup_read.specs.declared.setup.SetupRefusal.TheVariants as refusal
use Rattle.setup_read.specs.Boards.{RefusesAs}
use Rattle.setup_read.specs.Setups.{setup_of}
use Rattle.setup_read.specs.Loads.{HasSetupCause, AddsFirst, names_of}
use Rattle.share_top.specs.Setups.{setup_bytes, setup_at, IsRefusal, LoadCauses, names_in, LoadsListed}
use Rattle.share_top.specs.declared.setup.NoSetup.TheVariants.{Refused}

-- what the bytes of a name say
said : (told : List NamedBytes) (name bytes : List ℕ) (answer : Result Setup SetupRefusal) → setup_bytes told name ≡ Some bytes → setup_of (named told) bytes ≡ answer → setup_at told name ≡ Some answer
unfolding setup_at
said told name bytes answer is says = ap (option_map (setup_of (named told))) is ∙ ap Some says

refused_as : (refused : SetupRefusal) (told : List NamedBytes) (name bytes : List ℕ) → setup_bytes told name ≡ Some bytes → RefusesAs refused (setup_of (named told) bytes) → IsRefusal refused told name
refused_as refusal.Memory told name bytes is says = tt
refused_as refusal.Fault told name bytes is says = tt
refused_as (refusal.Plain cause place) told name bytes is says = said told name bytes (Err (refusal.Plain cause place)) is says
refused_as (refusal.Layout fault) told name bytes is says = said told name bytes (Err (refusal.Layout fault)) is says
refused_as (refusal.Absent device) told name bytes is says = said told name bytes (Err (refusal.Absent device)) is says
refused_as (refusal.Bsdl device at cause) told name bytes is says = said told name bytes (Err (refusal.Bsdl device at cause)) is says
refused_as (refusal.Pins device) told name bytes is says = said told name bytes (Err (refusal.Pins device)) is says
refused_as (refusal.Cell net) told name bytes is says = said told name bytes (Err (refusal.Cell net)) is says

-- the same where the files are told
pub refused_over : (refused : SetupRefusal) (files files' : Option (List NamedBytes)) (name bytes : List ℕ) → IfSome files (λ told. setup_bytes told name ≡ Some bytes) → files' ≡ files
    → IfSome files' (λ told. RefusesAs refused (setup_of (named told) bytes)) → IfSome files (λ told. IsRefusal refused told name)
refused_over refused None files' name bytes is same says = tt
refused_over refused (Some told) files' name bytes is same says = refused_as refused told name bytes is (subst (λ f. IfSome f (λ told. RefusesAs refused (setup_of (named told) bytes))) same says)

pub found_over : (setup : Setup) (files files' : Option (List NamedBytes)) (name bytes : List ℕ) → IfSome files (λ told. setup_bytes told name ≡ Some bytes) → files' ≡ files
    → IfSome files' (λ told. setup_of (named told) bytes ≡ Ok setup) → IfSome files (λ told. setup_at told name ≡ Some (Ok setup))
found_over setup None files' name bytes is same says = tt
found_over setup (Some told) files' name bytes is same says = said told name bytes (Ok setup) is (subst (λ f. IfSome f (λ told. setup_of (named told) bytes ≡ Ok setup)) same says)

pub absent_over : (files : Option (List NamedBytes)) (name : List ℕ) → IfSome files (λ told. named told name ≡ None) → IfSome files (λ told. setup_at told name ≡ None)
unfolding setup_at
absent_over None name is = tt
absent_over (Some told) name is = ap (λ o. option_map (setup_of (named told)) (option_map (take 1048577) o)) is

-- the shelf's count by the reader's refusal, after a load that did not fail
pub refused_causes : (refused : SetupRefusal) (before between now : ℕ) → between ≡ before → HasSetupCause {A = Setup} between now (Err refused) → LoadCauses (Refused refused) before now
refused_causes refusal.Memory before between now same h = h.counts ∙ same
refused_causes refusal.Fault before between now same h = (subst (λ n. n ≤ now) same h.later, subst (λ n. Rose n now) same h.counts)
refused_causes (refusal.Plain cause place) before between now same h = h.counts ∙ same
refused_causes (refusal.Layout fault) before between now same h = h.counts ∙ same
refused_causes (refusal.Absent device) before between now same h = h.counts ∙ same
refused_causes (refusal.Bsdl device at cause) before between now same h = h.counts ∙ same
refused_causes (refusal.Pins device) before between now same h = h.counts ∙ same
refused_causes (refusal.Cell net) before between now same h = h.counts ∙ same

-- ---- what was loaded

-- memory was wanting
pub listed_none : (before now : List Load) (name : List ℕ) → now ≡ after_load before name (Err fault.Memory) → LoadsListed before now name
listed_none before now name is = record { added = []; left = name ∷ []; behind = is ∙ sym (append-nil before); called = refl }

-- the setup alone
listed_one : (before now : List Load) (name : List ℕ) → now ≡ before ++ record { name = name; answer = None } ∷ [] → LoadsListed before now name
unfolding names_in
listed_one before now name is = record { added = record { name = name; answer = None } ∷ []; left = []; behind = is; called = refl }

pub listed_absent : (before now : List Load) (name : List ℕ) → now ≡ after_load before name (Err fault.Absent) → LoadsListed before now name
listed_absent before now name is = listed_one before now name is

pub listed_fault : (before now : List Load) (name : List ℕ) → now ≡ after_load before name (Err fault.Fault) → LoadsListed before now name
listed_fault before now name is = listed_one before now name is

-- and the files that its bytes name
pub listed_more : (before between now : List Load) (name bytes : List ℕ) → between ≡ after_load before name (Ok bytes) → AddsFirst between now (names_of (plan_of bytes)) → LoadsListed before now name
unfolding names_in
listed_more before between now name bytes is first = record {
  added = record { name = name; answer = Some bytes } ∷ first.adds.added;
  left = first.left;
  behind = first.adds.behind ∙ ap (λ loads. loads ++ first.adds.added) is ∙ append_assoc before (record { name = name; answer = Some bytes } ∷ []) first.adds.added;
  called = ap (λ names. name ∷ names) first.adds.called;
}
