-- Loads one behind the other, and the counts of faults.
use Rattle.std.proofs.Common.{◌≡◌, ℕ, suc, drop, List, [], ◌∷◌, ◌++◌, map, Result, Ok, Err, refl, sym, ap, ◌∙◌, arith, append-nil, append_assoc}
use Rattle.std.proofs.lemmas.List.{map-append}
use Rattle.ports.specs.declared.shelf.Load.{Load}
use Rattle.setup_read.specs.declared.setup.SetupRefusal.{SetupRefusal}
use Rattle.setup_read.specs.declared.setup.SetupRefusal.TheVariants as refusal
use Rattle.setup_document.specs.declared.plan.DeviceEntry.{DeviceEntry}
use Rattle.setup_read.specs.Loads.{AddsAllBut, AddsAll, AddsFirst, bsdl_names, HasSetupCause, LoadsNothing}

pub no_first : (before now : List Load) (names : List (List ℕ)) → now ≡ before → AddsFirst before now names
no_first before now names is = record { left = names; adds = record { added = []; behind = is ∙ sym (append-nil before); called = refl } }

-- loads behind loads
pub adds_on : (before between now : List Load) (all names left behind : List (List ℕ)) → AddsAllBut before between all (names ++ behind) → AddsAllBut between now names left → AddsAllBut before now all (left ++ behind)
adds_on before between now all names left behind first second = record {
  added = first.added ++ second.added;
  behind = second.behind ∙ ap (λ loads. loads ++ second.added) first.behind ∙ append_assoc before first.added second.added;
  called = first.called
      ∙ ap (λ rest. map (λ load. load.name) first.added ++ (rest ++ behind)) second.called
      ∙ ap (λ rest. map (λ load. load.name) first.added ++ rest) (append_assoc (map (λ load. load.name) second.added) left behind)
      ∙ sym (append_assoc (map (λ load. load.name) first.added) (map (λ load. load.name) second.added) (left ++ behind))
      ∙ ap (λ called. called ++ (left ++ behind)) (sym (map-append (λ load. load.name) first.added second.added));
}

pub one_more : (before between now : List Load) (all : List (List ℕ)) (name : List ℕ) (behind : List (List ℕ)) → AddsAllBut before between all (name ∷ behind) → AddsAll between now (name ∷ []) → AddsAllBut before now all behind
one_more before between now all name behind first second = adds_on before between now all (name ∷ []) [] behind first second

pub first_more : (before between now : List Load) (all : List (List ℕ)) (name : List ℕ) (behind : List (List ℕ)) → AddsAllBut before between all (name ∷ behind) → AddsFirst between now (name ∷ []) → AddsFirst before now all
first_more before between now all name behind first second = record { left = second.left ++ behind; adds = adds_on before between now all (name ∷ []) second.left behind first second.adds }

-- an answer of what loads nothing
pub counts_nothing : {A : Type 0} (before now : ℕ) (answer : Result A SetupRefusal) → LoadsNothing answer → now ≡ before → HasSetupCause before now answer
counts_nothing before now (Ok x) loads is = record { later = omega (arith, is); counts = is }
counts_nothing before now (Err (refusal.Plain cause place)) loads is = record { later = omega (arith, is); counts = is }
counts_nothing before now (Err (refusal.Layout refused)) loads is = record { later = omega (arith, is); counts = is }
counts_nothing before now (Err (refusal.Absent device)) loads is = record { later = omega (arith, is); counts = is }
counts_nothing before now (Err (refusal.Bsdl device at cause)) loads is = record { later = omega (arith, is); counts = is }
counts_nothing before now (Err (refusal.Pins device)) loads is = record { later = omega (arith, is); counts = is }
counts_nothing before now (Err (refusal.Cell net)) loads is = record { later = omega (arith, is); counts = is }
counts_nothing before now (Err refusal.Fault) loads is = absurd loads
counts_nothing before now (Err refusal.Memory) loads is = record { later = omega (arith, is); counts = is }

-- ---- the loads of devices

pub loaded_next : (before between now : List Load) (all : List DeviceEntry) (index : ℕ) (entry : DeviceEntry) → drop index all ≡ entry ∷ drop (suc index) all → AddsAllBut before between (bsdl_names all) (bsdl_names (drop index all)) → AddsAll between now (entry.bsdl ∷ []) → AddsAllBut before now (bsdl_names all) (bsdl_names (drop (suc index) all))
loaded_next before between now all index entry left first second =
    let so_far = rw left at first in
    one_more before between now (bsdl_names all) entry.bsdl (bsdl_names (drop (suc index) all)) so_far second

pub loaded_first : (before between now : List Load) (all : List DeviceEntry) (index : ℕ) (entry : DeviceEntry) → drop index all ≡ entry ∷ drop (suc index) all → AddsAllBut before between (bsdl_names all) (bsdl_names (drop index all)) → AddsFirst between now (entry.bsdl ∷ []) → AddsFirst before now (bsdl_names all)
loaded_first before between now all index entry left first second =
    let so_far = rw left at first in
    first_more before between now (bsdl_names all) entry.bsdl (bsdl_names (drop (suc index) all)) so_far second
