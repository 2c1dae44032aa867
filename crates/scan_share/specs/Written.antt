-- What a write shifts into the shared chain.
use Rattle.std.specs.Prelude.{ℕ, suc, Bool, false, List, [], ◌∷◌}
use Rattle.grant_table.specs.Layouts.{LayoutShape}
use Rattle.scan_share.specs.PrivateChains.{entries_at}
use Rattle.scan_share.specs.Scans.{widths_during, code_during, parted}

-- the widths of a group's registers under its codes
abbrev pub group_widths : LayoutShape → List ℕ → List (List Bool) → List ℕ
group_widths layout group codes = widths_during (entries_at layout.parts group) codes

-- a stage for each device from a place on: the group's own, and a 0 for each other device, which is in BYPASS
abbrev pub stages_from : {X : Type 0} → List ℕ → List (List Bool) → ℕ → List X → List (List Bool)
stages_from group pieces place [] = []
stages_from group pieces place (x ∷ xs) = code_during group pieces place (false ∷ []) ∷ stages_from group pieces (suc place) xs

-- the stages of the whole chain that write a group's bits
abbrev pub written : LayoutShape → List ℕ → List (List Bool) → List Bool → List (List Bool)
written layout group codes bits = stages_from group (parted (group_widths layout group codes) bits) 0 layout.parts
