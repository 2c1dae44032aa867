-- What a layout without fault is good for: no two of its grants have a device or a port in common, and no net leads from one to another.
use Rattle.std.specs.Prelude.{◌≡◌, ◌≢◌, ◌≤◌, ◌<◌, ℕ, suc, true, false, List, [], ◌∷◌, length, slice_get}
use Rattle.std.specs.declared.option.Option.TheVariants.{Some}
use Rattle.part_model.specs.declared.Net.{Net}
use Rattle.grant_table.specs.Layouts.{LayoutShape, GrantShape, group_of, grant_of}
use Rattle.grant_table.specs.Faults.{IsLayout, is_one_of}

-- the places rise, from one on: each is above those before it
abbrev pub RisesFrom : ℕ → List ℕ → Type 0
RisesFrom low [] = Unit {0}
RisesFrom low (place ∷ places) = (low ≤ place) × RisesFrom (suc place) places

-- the net comes from a device of the group
pub record ComesFrom (group : List ℕ) (net : Net) : Type 0 where
  pub place : ℕ
  pub is : suc place ≡ net.from_device
  pub within : is_one_of place group ≡ true

-- the grants of a layout keep apart
pub record KeepsApart (layout : LayoutShape) : Type 0 where
  -- a group's places rise
  pub rising : (grant : ℕ) → RisesFrom 0 (group_of layout.grants grant)
  -- and are places of the chain
  pub within : (grant place : ℕ) → is_one_of place (group_of layout.grants grant) ≡ true → place < length layout.parts
  -- each grant has a device
  pub some : (grant : ℕ) → grant < length layout.grants → group_of layout.grants grant ≢ []
  -- no device is in two groups
  pub apart : (grant other place : ℕ) → grant ≢ other → is_one_of place (group_of layout.grants grant) ≡ true → is_one_of place (group_of layout.grants other) ≡ false
  -- a port that a grant has belongs to that grant
  pub port : (grant : ℕ) (shape : GrantShape) → slice_get layout.grants grant ≡ Some shape → grant_of layout shape.port ≡ Some grant
  -- a net that leads to a device of a group comes from the same group
  pub nets : (grant place at : ℕ) (net : Net) → slice_get layout.nets at ≡ Some net → suc place ≡ net.to_device → is_one_of place (group_of layout.grants grant) ≡ true → ComesFrom (group_of layout.grants grant) net

-- every layout without fault
abbrev pub LayoutsKeepApart : Type 0
LayoutsKeepApart = (layout : LayoutShape) → IsLayout layout → KeepsApart layout
