-- What contracts see of a shared chain between two calls, and what is true of it.
use Rattle.std.specs.Prelude.{ℕ, ◌≡◌, ◌≤◌, ◌+◌, Bool, true, List, map}
use Rattle.std.specs.List.{sum_by}
use Rattle.std.specs.declared.result.Result.{Result}
use Rattle.std.specs.declared.result.Result.TheVariants.{Ok, Err}
use Rattle.base_types.specs.Counts.{raised}
use Rattle.tap_states.specs.declared.Tap.TheVariants.{PauseDr}
use Rattle.scan_bits.specs.Words.{number_of}
use Rattle.chain_model.specs.Chains.{ChainState}
use Rattle.grant_table.specs.Layouts.{LayoutShape, group_of, ir_total}
use Rattle.scan_walks.specs.Walks.{calls_for}
use Rattle.scan_share.specs.PrivateChains.{entries_at}
use Rattle.scan_share.specs.Scans.{IsParked, code_list, codes_during, codes_of, scan_length}
use Rattle.scan_share.specs.Written.{group_widths}

-- a chain at rest: its cable, and the instruction code of each device, from TDI on
pub record ParkedView (C : Type 0) : Type 0 where
  pub cable : C
  pub loaded : List ℕ

-- a chain with an open scan: its cable, the instruction code of each device, the grant that holds the scan, and its codes
pub record OpenView (C : Type 0) : Type 0 where
  pub cable : C
  pub loaded : List ℕ
  pub grant : ℕ
  pub codes : List ℕ

-- the chain of a cable that failed
pub record BrokenView (C : Type 0) : Type 0 where
  pub cable : C

-- codes as words
abbrev pub words_of : List (List Bool) → List ℕ
words_of codes = map number_of codes

-- the devices have these instruction codes, and no scan is open
pub record RestsWith (loaded : List ℕ) (chain : ChainState) : Type 0 where
  pub codes_are : loaded ≡ words_of (code_list chain)
  pub parked : IsParked chain

-- the devices have these instruction codes, and a scan is open in Pause-DR
pub record OpenWith (loaded : List ℕ) (chain : ChainState) : Type 0 where
  pub codes_are : loaded ≡ words_of (code_list chain)
  pub state : chain.state ≡ PauseDr
  pub scan : chain.scan_open ≡ true

-- the codes of a grant's devices, each as bits of its device type's instruction length
abbrev pub codes_for : LayoutShape → ℕ → List ℕ → List (List Bool)
codes_for layout grant words = codes_of (entries_at layout.parts (group_of layout.grants grant)) words

-- the codes that are loaded are those of a scan for the grant
abbrev pub IsLoadedFor : LayoutShape → ℕ → List ℕ → List ℕ → Type 0
IsLoadedFor layout grant words loaded = loaded ≡ words_of (codes_during layout (group_of layout.grants grant) (codes_for layout grant words))

-- how many bits the registers of a grant's devices have under these codes
abbrev pub own_width : LayoutShape → ℕ → List ℕ → ℕ
own_width layout grant words = sum_by (λ w. w) (group_widths layout (group_of layout.grants grant) (codes_for layout grant words))

-- the calls of a capture and of an update at most: for the codes of the whole chain, for the bits of the scan, and for the way
abbrev pub capture_calls : LayoutShape → ℕ → List ℕ → ℕ
capture_calls layout grant words = calls_for (ir_total layout) + calls_for (scan_length layout (group_of layout.grants grant) (codes_for layout grant words)) + 3

abbrev pub update_calls : LayoutShape → ℕ → List ℕ → ℕ
update_calls layout grant words = calls_for (scan_length layout (group_of layout.grants grant) (codes_for layout grant words)) + 2

-- the cable in an answer
abbrev pub parked_or_broken : {C : Type 0} → Result (ParkedView C) (BrokenView C) → C
parked_or_broken (Ok parked) = parked.cable
parked_or_broken (Err broken) = broken.cable

abbrev pub open_or_broken : {C : Type 0} → Result (OpenView C) (BrokenView C) → C
open_or_broken (Ok held) = held.cable
open_or_broken (Err broken) = broken.cable

-- the cable was asked for cycles at most so many times
abbrev pub AsksAtMost : ℕ → ChainState → ChainState → Type 0
AsksAtMost calls old new = new.asked ≤ raised old.asked calls
