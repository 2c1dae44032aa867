-- Groups whose places rise, and the nets that lead to them.
use Rattle.std.proofs.Common.{◌≡◌, ◌≤◌, ◌<◌, ℕ, zero, suc, Bool, true, false, ◌||◌, List, [], ◌∷◌, length, refl, ap, sym, ◌∙◌, arith, Some, None, nat_eq}
use Rattle.std.specs.Prelude.{◌==◌, slice_get}
use Rattle.std.specs.Option.{option_map}
use Rattle.std.proofs.lemmas.Bool.{ne_eqb, eq-eqb}
use Rattle.std.proofs.lemmas.Option.{same_Some}
use Rattle.part_model.specs.declared.Net.{Net}
use Rattle.grant_table.specs.Layouts.{LayoutShape, first_place}
use Rattle.grant_table.specs.Faults.{is_one_of}
use Rattle.grant_table.specs.Apart.{RisesFrom, ComesFrom}
use Rattle.scan_share.specs.PrivateChains.{place_in}
use Rattle.scan_share.specs.Laws as laws
use Rattle.scan_share.proofs.Facts.{Apart, IsGroup, NetsStay}
use Rattle.scan_share.proofs.Lookups.{some_none}
use Rattle.scan_share.proofs.Geometry.{in_group}

above_none : (low at : ℕ) (group : List ℕ) → low < at → RisesFrom at group → first_place (λ p. p == low) group ≡ None
above_none low at [] lt rises = refl
above_none low at (place ∷ group) lt rises =
    let le : at ≤ place = rises.0 in
    rw (ne_eqb place low (λ e. omega (arith, e, le, lt))) (ap (option_map suc) (above_none low (suc place) group (omega (arith, le, lt)) rises.1))

pub rising_apart : (at : ℕ) (group : List ℕ) → RisesFrom at group → Apart group
rising_apart at [] rises = tt
rising_apart at (place ∷ group) rises = (above_none place (suc place) group (omega arith) rises.1, rising_apart (suc place) group rises.1)

-- a number in a list is one of it
is_there : (group : List ℕ) (g place : ℕ) → slice_get group g ≡ Some place → is_one_of place group ≡ true
is_there [] g place is = some_none place (sym is)
is_there (first ∷ group) zero place is = rw (eq-eqb first place (same_Some first place is)) refl
is_there (first ∷ group) (suc g) place is = second (nat_eq first place) (is_one_of place group) (is_there group g place is)
  where
    second : (a b : Bool) → b ≡ true → (a || b) ≡ true
    second true b h = refl
    second false b h = h

-- and one of it has a place in it
has_place : (group : List ℕ) (place : ℕ) → is_one_of place group ≡ true → (h : ℕ) × (first_place (λ p. p == place) group ≡ Some h)
has_place [] place is = absurd (let q : false ≡ true = is in cc)
has_place (first ∷ group) place is = by (nat_eq first place) refl (has_place group place)
  where
    by : (t : Bool) → nat_eq first place ≡ t → (is_one_of place group ≡ true → (h : ℕ) × (first_place (λ p. p == place) group ≡ Some h)) → (h : ℕ) × (first_place (λ p. p == place) (first ∷ group) ≡ Some h)
    by true e rest = (0, rw e refl)
    by false e rest = let found = rest (rw e at is) in (suc (found.0), rw e (ap (option_map suc) (found.1)))

-- a net that comes from the group has its first device there
comes_place : (group : List ℕ) (net : Net) → ComesFrom group net → (h : ℕ) × (place_in group net.from_device ≡ Some h)
comes_place group net comes =
    let found = has_place group comes.place comes.within in
    (found.0, ap (place_in group) (sym comes.is) ∙ Rattle.scan_share.proofs.Geometry.place_in_suc group comes.place ∙ found.1)

nets_stay : (group : List ℕ) (nets : List Net)
    → ((place at : ℕ) (net : Net) → slice_get nets at ≡ Some net → suc place ≡ net.to_device → is_one_of place group ≡ true → ComesFrom group net) → NetsStay group nets
nets_stay group [] comes = tt
nets_stay group (net ∷ nets) comes = (
  λ g to. let at = in_group group net.to_device g to in
      comes_place group net (comes (at.0) 0 net refl (at.2) (is_there group g (at.0) (at.1))),
  nets_stay group nets (λ place at. comes place (suc at)),
)

pub group_of_laws : (layout : LayoutShape) (group : List ℕ) → laws.IsGroup layout group → IsGroup group (length layout.parts)
group_of_laws layout group is = record { within = λ g place at. is.within place (is_there group g place at); apart = rising_apart 0 group is.rising }

pub nets_of_laws : (layout : LayoutShape) (group : List ℕ) → laws.IsGroup layout group → NetsStay group layout.nets
nets_of_laws layout group is = nets_stay group layout.nets is.nets
