-- The length of a scan of the shared chain, in the group's own bits.
use Rattle.std.specs.Prelude.{◌≡◌, ◌<◌, ◌+◌, ℕ, Bool, true, List, length}
use Rattle.std.specs.List.{sum_by}
use Rattle.grant_table.specs.Layouts.{LayoutShape}
use Rattle.grant_table.specs.Faults.{is_one_of}
use Rattle.grant_table.specs.Apart.{RisesFrom}
use Rattle.scan_share.specs.PrivateChains.{entries_at}
use Rattle.scan_share.specs.Scans.{widths_during, scan_length}

-- a group of a chain of so many devices, with a code for each: its places rise, and are in the chain
pub record HasCodes (count : ℕ) (group : List ℕ) (codes : List (List Bool)) : Type 0 where
  pub rising : RisesFrom 0 group
  pub within : (place : ℕ) → is_one_of place group ≡ true → place < count
  pub coded : length codes ≡ length group

-- the bits of the group's registers under its codes
abbrev pub own_length : LayoutShape → List ℕ → List (List Bool) → ℕ
own_length layout group codes = sum_by (λ width. width) (widths_during (entries_at layout.parts group) codes)

-- a scan has the bits of the group's registers, and one for each device that is not in the group
abbrev pub ScansOwnAndOthers : Type 0
ScansOwnAndOthers = (layout : LayoutShape) (group : List ℕ) (codes : List (List Bool)) → HasCodes (length layout.parts) group codes
    → scan_length layout group codes + length group ≡ own_length layout group codes + length layout.parts
