-- The bits that a scan of the shared chain shifts in, and those of the group among the bits that come out.
use Rattle.std.specs.declared.option.Option.TheVariants.{Some}
use Rattle.std.specs.Prelude.{ℕ, zero, suc, ◌≡◌, slice_get, ◌≤◌, ◌<◌, ◌+◌, ◌-◌, ◌^◌, Bool, true, false, List, [], ◌∷◌, ◌++◌, map, length, replicate}
use Rattle.std.specs.List.{All, slice_index_or}
use Rattle.scan_bits.specs.Words.{bits_of, number_of}
use Rattle.part_model.specs.Parts.{DeviceType}
use Rattle.grant_table.specs.Layouts.{LayoutShape}
use Rattle.grant_table.specs.Kept.{AllParts}
use Rattle.grant_table.specs.Apart.{RisesFrom}
use Rattle.scan_share.specs.PrivateChains.{entries_at}
use Rattle.scan_share.specs.Scans.{code_during, codes_of, codes_during}
use Rattle.scan_share.specs.Codes.{AreCodes}
use Rattle.scan_share.specs.Written.{group_widths, stages_from}

-- what a scan is for: a group of a layout's devices, and the instruction code of each as a word
pub record ScanView : Type 0 where
  pub layout : LayoutShape
  pub group : List ℕ
  pub codes : List ℕ

-- the places of the group rise and are in the chain, and each has a code
pub record IsScanOf (layout : LayoutShape) (group codes : List ℕ) : Type 0 where
  pub parts : AllParts layout.parts
  pub rising : RisesFrom 0 group
  pub within : All (λ place. place < length layout.parts) group
  pub few : length group ≤ 32
  pub coded : AreCodes (entries_at layout.parts group) codes

-- the group's codes, each as bits of its device type's instruction length
abbrev pub own_codes : ScanView → List (List Bool)
own_codes scan = codes_of (entries_at scan.layout.parts scan.group) scan.codes

-- the instruction of each device
abbrev pub scan_codes : ScanView → List (List Bool)
scan_codes scan = codes_during scan.layout scan.group (own_codes scan)

-- and as a word
abbrev pub scan_words : ScanView → List ℕ
scan_words scan = map number_of (scan_codes scan)

-- for each device a stage of its data register's length: ones for the group's own, and a 0 for each other device, which is in BYPASS
abbrev pub own_stages : ScanView → List (List Bool)
own_stages scan = stages_from scan.group (map (λ width. replicate width true) (group_widths scan.layout scan.group (own_codes scan))) 0 scan.layout.parts

-- how many of the bits are 1
abbrev pub own_count : List Bool → ℕ
own_count [] = 0
own_count (false ∷ places) = own_count places
own_count (true ∷ places) = suc (own_count places)

-- bits put one after the other into the places that have a 1, and 0 into those that have a 0
abbrev pub woven : List Bool → List Bool → List Bool
woven [] bits = []
woven (false ∷ places) bits = false ∷ woven places bits
woven (true ∷ places) [] = []
woven (true ∷ places) (bit ∷ bits) = bit ∷ woven places bits

-- the bits at the places that have a 1
abbrev pub chosen : List Bool → List Bool → List Bool
chosen [] bits = []
chosen (place ∷ places) [] = []
chosen (false ∷ places) (bit ∷ bits) = chosen places bits
chosen (true ∷ places) (bit ∷ bits) = bit ∷ chosen places bits

-- so many devices of the group stand below a place
pub record IsSplit (group : List ℕ) (own place : ℕ) : Type 0 where
  pub below : (i other : ℕ) → i < own → slice_get group i ≡ Some other → other < place
  pub above : (i other : ℕ) → own ≤ i → slice_get group i ≡ Some other → place ≤ other

-- a group of at most 32 devices whose registers have these widths, and how many of it stand below a place
pub record IsRow (group widths : List ℕ) (own place : ℕ) : Type 0 where
  pub rising : RisesFrom 0 group
  pub counted : length widths ≡ length group
  pub wide : (i : ℕ) (width : ℕ) → slice_get widths i ≡ Some width → 1 ≤ width
  pub low : (i other : ℕ) → slice_get group i ≡ Some other → other < 32
  pub few : place ≤ 32
  pub within : own ≤ length group
  pub split : IsSplit group own place

-- the devices of a group are neighbours: each stands behind the one before it
pub record AreNeighbours (group : List ℕ) : Type 0 where
  pub some : 1 ≤ length group
  pub each : (i other : ℕ) → slice_get group i ≡ Some other → other ≡ slice_index_or group 0 0 + i

-- the last of the devices below a place is the last of so many of a group
pub record IsNext (group : List ℕ) (own place : ℕ) : Type 0 where
  pub some : 1 ≤ own
  pub left : 1 ≤ place
  pub here : slice_get group (own - 1) ≡ Some (place - 1)

-- the bits of the devices below a place in a scan, the last device first: ones for the group's own registers, which have these widths,
-- and a 0 for each other device, which is in BYPASS
abbrev pub marks_below : List ℕ → List ℕ → ℕ → List Bool
marks_below group widths zero = []
marks_below group widths (suc place) = code_during group (map (λ width. replicate width true) widths) place (false ∷ []) ++ marks_below group widths place

-- and so many bits of the group's own before them
abbrev pub marks_left : List ℕ → List ℕ → ℕ → ℕ → List Bool
marks_left group widths place count = replicate count true ++ marks_below group widths place

-- the codes of a chain's devices are loaded: those below a place are left, and so many bits of a word before them
pub record IsLoad (parts : List DeviceType) (codes : List ℕ) (place count bits : ℕ) : Type 0 where
  pub coded : AreCodes parts codes
  pub within : place ≤ length parts
  pub low : place ≤ 32
  pub few : count ≤ 64
  pub bound : bits < 2 ^ count

-- of the lowest bits of a word, which were the next of a scan, these are the group's; where there was room for them, there is as much less
pub record TakesOwn (n word count bits : ℕ) (before after : List Bool) : Type 0 where
  pub bound : bits < 2 ^ count
  pub few : count ≤ n
  pub taken : (more : List Bool) → bits_of count bits ++ chosen after more ≡ chosen before (bits_of n word ++ more)
  pub room : (m : ℕ) → n ≤ length (woven before (replicate m false)) → (count ≤ m) × (length (woven after (replicate (m - count) false)) + n ≡ length (woven before (replicate m false)))
