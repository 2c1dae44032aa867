-- What a layout without fault has: how many devices and grants, and groups of places that rise.
use Rattle.std.proofs.Common.{◌≡◌, ◌≢◌, ℕ, zero, suc, ◌+◌, ◌≤◌, ◌<◌, ◌||◌, ◌==◌, nat_lt, true, false, List, [], ◌∷◌, length, refl, ap, sym, subst, ◌∙◌, arith, None, get_or, nat_eq}
use Rattle.std.specs.declared.option.Option.{Option}
use Rattle.std.specs.List.{All}
use Rattle.std.proofs.lemmas.Bool.{ltb-false, eqb-false, eq-eqb}
use Rattle.std.proofs.lemmas.List.{length-map}
use Rattle.grant_table.specs.Layouts.{LayoutShape, GrantShape, group_of}
use Rattle.grant_table.specs.Faults.{IsLayout, LayoutFault, or_fault, fault_if, count_fault, grants_fault, nets_fault, is_one_of}
use Rattle.grant_table.specs.Apart.{RisesFrom}
use Rattle.grant_table.specs.Kept.{IsKept}
use Rattle.grant_table.proofs.Groups.{first_none, second_none, not_so, left_false, right_false, first_true, second_true, keeps_apart}
use Rattle.grant_table.proofs.Sums.{total_few}

-- ---- counts

counted : (most count : ℕ) → count_fault most count ≡ None → (1 ≤ count) × (count ≤ most)
counted most count h =
    let none : (count == 0 || nat_lt most count) ≡ false = not_so (count == 0 || nat_lt most count) 5 0 count h in
    let some : count ≡ 0 → ⊥ = eqb-false count 0 (left_false (count == 0) (nat_lt most count) none) in
    (omega (arith, some), ltb-false most count (right_false (count == 0) (nat_lt most count) none))

module _ (layout : LayoutShape) (is : IsLayout layout) where
  abbrev behind : Option LayoutFault
  behind = or_fault (grants_fault (length layout.parts) 1 [] [] is.entries)
      (or_fault (fault_if (nat_lt 4096 (length layout.nets)) 8 0 (length layout.nets)) (nets_fault is.entries 1 [] layout.nets))

  pub some_devices : (1 ≤ length layout.parts) × (length layout.parts ≤ 32)
  some_devices = counted 32 (length layout.parts) (first_none (count_fault 32 (length layout.parts)) (or_fault (count_fault 16 (length is.entries)) behind) is.faultless)

  some_entries : (1 ≤ length is.entries) × (length is.entries ≤ 16)
  some_entries = counted 16 (length is.entries) (first_none (count_fault 16 (length is.entries)) behind
      (second_none (count_fault 32 (length layout.parts)) (or_fault (count_fault 16 (length is.entries)) behind) is.faultless))

  pub some_grants : (1 ≤ length layout.grants) × (length layout.grants ≤ 16)
  some_grants =
      let same : length layout.grants ≡ length is.entries = ap (λ l. length l.grants) is.made ∙ length-map is.entries _ in
      (omega (arith, same, some_entries.0), omega (arith, same, some_entries.1))

-- ---- groups

pub group_at : (grants : List GrantShape) (grant : ℕ) (shape : GrantShape) → grant < length grants → shape ≡ get_or grants grant shape → group_of grants grant ≡ shape.group
group_at [] grant shape lt is = absurd (omega (arith, lt))
group_at (first ∷ grants) zero shape lt is = ap (λ s. s.group) (sym is)
group_at (first ∷ grants) (suc grant) shape lt is = group_at grants grant shape (omega (arith, lt)) is

pub all_below : (most : ℕ) (group : List ℕ) → ((place : ℕ) → is_one_of place group ≡ true → place < most) → All (λ place. place < most) group
all_below most [] h k d lt = absurd (omega (arith, lt))
all_below most (place ∷ group) h zero d lt = h place (first_true (nat_eq place place) (is_one_of place group) (eq-eqb place place refl))
all_below most (place ∷ group) h (suc k) d lt = all_below most group (λ other i. h other (second_true (nat_eq place other) (is_one_of other group) i)) k d (omega (arith, lt))

rises_below : (low most : ℕ) (group : List ℕ) → low ≤ most → RisesFrom low group → All (λ place. place < most) group → low + length group ≤ most
rises_below low most [] le rises below = omega (arith, le)
rises_below low most (place ∷ group) le rises below =
    let own : place < most = below 0 0 (omega arith) in
    let rest : suc place + length group ≤ most = rises_below (suc place) most group (omega (arith, own)) rises.1 (λ k d lt. below (suc k) d (omega (arith, lt))) in
    omega (arith, rises.0, rest)

some_place : (group : List ℕ) → group ≢ [] → 1 ≤ length group
some_place [] some = absurd (some refl)
some_place (place ∷ group) some = omega arith

module _ (layout : LayoutShape) (is : IsLayout layout) (grant : ℕ) (group : List ℕ) (group_is : group ≡ group_of layout.grants grant) where
  pub group_rises : RisesFrom 0 group
  group_rises = subst (RisesFrom 0) (sym group_is) ((keeps_apart layout is).rising grant)

  pub group_within : All (λ place. place < length layout.parts) group
  group_within = subst (All (λ place. place < length layout.parts)) (sym group_is) (all_below (length layout.parts) (group_of layout.grants grant) ((keeps_apart layout is).within grant))

  pub group_low : All (λ place. place < 32) group
  group_low k d lt =
      let own : get_or group k d < length layout.parts = group_within k d lt in
      omega (arith, own, (some_devices layout is).1)

  pub group_few : grant < length layout.grants → (1 ≤ length group) × (length group ≤ 32)
  group_few lt =
      let some : group ≢ [] = subst (λ g. g ≢ []) (sym group_is) ((keeps_apart layout is).some grant lt) in
      let few : 0 + length group ≤ length layout.parts = rises_below 0 (length layout.parts) group (omega arith) group_rises group_within in
      (some_place group some, omega (arith, few, (some_devices layout is).1))

pub total_within : (layout : LayoutShape) (sum : ℕ) (bypass : List ℕ) → IsKept layout sum bypass → sum ≤ 2048
total_within layout sum bypass kept = omega (arith, kept.total, total_few layout.parts kept.parts, (some_devices layout kept.is).1)
