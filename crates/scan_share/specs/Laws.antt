-- What scans of the shared chain do for a group, over every layout, every group of its devices and every chain of the layout.
use Rattle.std.specs.Prelude.{ℕ, suc, ◌≡◌, ◌≤◌, ◌<◌, Bool, true, false, List, [], ◌∷◌, ◌++◌, map, length, slice_get, Some}
use Rattle.std.specs.List.{sum_by}
use Rattle.tap_states.specs.declared.Tap.TheVariants.{TestLogicReset}
use Rattle.scan_bits.specs.Registers.{joined}
use Rattle.part_model.specs.declared.Net.{Net}
use Rattle.part_model.specs.Plans.{IsPart}
use Rattle.chain_model.specs.Chains.{ChainState, Placed, powered, reset}
use Rattle.chain_model.specs.Cycles.{Clock, after_cycles, after_calls, answers}
use Rattle.grant_table.specs.Layouts.{LayoutShape, group_of, longest_of}
use Rattle.grant_table.specs.Faults.{is_one_of}
use Rattle.grant_table.specs.Kept.{AllParts}
use Rattle.grant_table.specs.Apart.{RisesFrom, ComesFrom}
use Rattle.scan_walks.specs.Walks.{with_tms}
use Rattle.scan_share.specs.PrivateChains.{entries_at}
use Rattle.scan_share.specs.Scans.{IsWhole, IsParked, IsOpenFor, Captures, Updates, Starts, Abandons, codes_during, code_list, same_codes, scan_length, widths_during, group_bits}
use Rattle.scan_share.specs.Walks.{load_walk, capture_walk, shift_out, read_walk, write_walk, start_walk}
use Rattle.scan_share.specs.Written.{group_widths, written}
use Rattle.scan_share.specs.Views.{own_width}

-- a group of the layout's devices: its places rise and are in the chain, and a net that leads to one of them comes from one of them
pub record IsGroup (layout : LayoutShape) (group : List ℕ) : Type 0 where
  pub rising : RisesFrom 0 group
  pub within : (place : ℕ) → is_one_of place group ≡ true → place < length layout.parts
  pub nets : (place at : ℕ) (net : Net) → slice_get layout.nets at ≡ Some net → suc place ≡ net.to_device → is_one_of place group ≡ true → ComesFrom group net

-- each code is as long as the instruction register of its device
abbrev pub CodesFit : LayoutShape → List ℕ → List (List Bool) → Type 0
CodesFit layout group codes = map length codes ≡ map (λ part. part.ir_length) (entries_at layout.parts group)

-- a group of the layout's devices, and an instruction code for each
pub record IsScan (layout : LayoutShape) (group : List ℕ) (codes : List (List Bool)) : Type 0 where
  pub parts : AllParts layout.parts
  pub some : 1 ≤ length layout.parts
  pub group_is : IsGroup layout group
  pub codes_fit : CodesFit layout group codes

-- the bits that come out while so many are shifted, after these cycles
abbrev pub read_out : List Clock → ℕ → ChainState → List Bool
read_out before count chain = answers (shift_out count) (after_cycles before chain)

-- the group's bits among those that come out
abbrev pub own_bits : LayoutShape → List ℕ → List (List Bool) → List Bool → List Bool
own_bits layout group codes out = group_bits group (widths_during layout.parts (codes_during layout group codes)) out

-- the cycles that load the codes
abbrev pub load_codes : LayoutShape → List ℕ → List (List Bool) → List Clock
load_codes layout group codes = load_walk (joined (codes_during layout group codes))

-- where the codes that are loaded are others, an instruction scan and a read-out capture for the group
abbrev pub LoadAndCapture : Type 0
LoadAndCapture = (layout : LayoutShape) (group : List ℕ) (codes : List (List Bool)) (calls : ℕ) (old : ChainState)
    → IsScan layout group codes → IsWhole layout old → IsParked old → same_codes (code_list old) (codes_during layout group codes) ≡ false
    → Captures layout group codes (own_bits layout group codes (read_out (load_codes layout group codes ++ capture_walk) (scan_length layout group codes) old)) old
    (after_calls calls (load_codes layout group codes ++ read_walk (scan_length layout group codes)) old)

-- where they are loaded already, the read-out alone does
abbrev pub CaptureLoaded : Type 0
CaptureLoaded = (layout : LayoutShape) (group : List ℕ) (codes : List (List Bool)) (calls : ℕ) (old : ChainState)
    → IsScan layout group codes → IsWhole layout old → IsParked old → code_list old ≡ codes_during layout group codes
    → Captures layout group codes (own_bits layout group codes (read_out capture_walk (scan_length layout group codes) old)) old
    (after_calls calls (read_walk (scan_length layout group codes)) old)

-- a write of the group's bits updates the group
abbrev pub WriteUpdates : Type 0
WriteUpdates = (layout : LayoutShape) (group : List ℕ) (codes : List (List Bool)) (bits : List Bool) (calls : ℕ) (old : ChainState)
    → IsScan layout group codes → IsWhole layout old → IsOpenFor layout group codes old → length bits ≡ sum_by (λ w. w) (group_widths layout group codes)
    → Updates layout group codes bits old (after_calls calls (write_walk (joined (written layout group codes bits))) old)

-- six cycles lead from power-up to rest
abbrev pub StartRests : Type 0
StartRests = (layout : LayoutShape) (calls : ℕ) (old : ChainState)
    → AllParts layout.parts → IsWhole layout old → old.state ≡ TestLogicReset → old.scan_open ≡ false → Starts layout old (after_calls calls start_walk old)

-- and after a reset one cycle does
abbrev pub ResetAbandons : Type 0
ResetAbandons = (layout : LayoutShape) (calls : ℕ) (old : ChainState)
    → AllParts layout.parts → IsWhole layout old → Abandons layout old (after_calls calls (with_tms false ∷ []) (reset old))

-- the pins of each board are as many as its boundary cells
abbrev pub EachIsBoard : List Placed → Type 0
EachIsBoard [] = Unit {0}
EachIsBoard (board ∷ boards) = (IsPart board.part × (length board.pins ≡ board.part.boundary_length)) × EachIsBoard boards

-- a chain at power-up is whole
abbrev pub PoweredIsWhole : Type 0
PoweredIsWhole = (layout : LayoutShape) (boards : List Placed) → EachIsBoard boards → layout.parts ≡ map (λ board. board.part) boards → IsWhole layout (powered boards layout.nets)

-- whatever the codes, the registers of a grant's devices have no more bits than the longest register of each
abbrev pub OwnWidthsFit : Type 0
OwnWidthsFit = (layout : LayoutShape) (grant : ℕ) (codes : List ℕ) → AllParts layout.parts → own_width layout grant codes ≤ longest_of layout (group_of layout.grants grant)
