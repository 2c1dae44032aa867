-- What the laws of scans are proved from.
use Rattle.std.proofs.Common.{ℕ, ◌≡◌, ◌≤◌, ◌<◌, Bool, List, [], ◌∷◌, map, length, Some, None}
use Rattle.std.specs.Prelude.{◌==◌, slice_get}
use Rattle.std.specs.List.{slice_index_or}
use Rattle.part_model.specs.declared.Net.{Net}
use Rattle.part_model.specs.Parts.{DeviceType, selected, width, named_length}
use Rattle.part_model.specs.Parts.Register.{Named}
use Rattle.chain_model.specs.Chains.{ChainState, DeviceState, Content, code_or_zeros}
use Rattle.chain_model.specs.Cycles.{Clock, after_cycles, answers}
use Rattle.grant_table.specs.Layouts.{LayoutShape, first_place}
use Rattle.scan_share.specs.PrivateChains.{place_in, entries_at}
use Rattle.scan_share.specs.Scans.{codes_from, code_list, contents_of, CapturesGroup, UpdatesGroup, IsOpenFor, IsParked, codes_during, scan_length, widths_during, group_bits}
use Rattle.scan_share.specs.Walks.{shift_out}

-- a part and its content fit: every register captures as many bits as it has
pub record FitsDevice (part : DeviceType) (content : Content) : Type 0 where
  pub some : 1 ≤ part.ir_length
  pub captures : length part.ir_captures ≡ part.ir_length
  pub pins : length content.pins ≡ part.boundary_length
  pub idcode : length (code_or_zeros part.idcode) ≡ 32
  pub usercode : length part.usercode ≡ 32
  pub named : (code : List Bool) (at : ℕ) → selected part code ≡ Named at → length (slice_index_or content.named at []) ≡ named_length part.named at
  pub wide : (code : List Bool) → 1 ≤ width part code

abbrev pub FitAll : List DeviceState → Type 0
FitAll [] = Unit {0}
FitAll (device ∷ devices) = FitsDevice device.part device.content × FitAll devices

-- no place stands twice
abbrev pub Apart : List ℕ → Type 0
Apart [] = Unit {0}
Apart (place ∷ group) = (first_place (λ p. p == place) group ≡ None) × Apart group

-- a group of a chain of so many devices: the places are in it, and no place stands twice
pub record IsGroup (group : List ℕ) (count : ℕ) : Type 0 where
  pub within : (g place : ℕ) → slice_get group g ≡ Some place → place < count
  pub apart : Apart group

-- no net leads into the group from outside
abbrev pub NetsStay : List ℕ → List Net → Type 0
NetsStay group [] = Unit {0}
NetsStay group (net ∷ nets) = ((g : ℕ) → place_in group net.to_device ≡ Some g → (h : ℕ) × (place_in group net.from_device ≡ Some h)) × NetsStay group nets

-- two devices of one part with one code and one content
pub record Alike (one other : DeviceState) : Type 0 where
  pub part : one.part ≡ other.part
  pub code : one.code ≡ other.code
  pub content : one.content ≡ other.content

-- a chain that was loaded for the group, and the chain before it
pub record LoadedFrom (group : List ℕ) (nets : List Net) (codes : List (List Bool)) (old new : ChainState) : Type 0 where
  pub group_is : IsGroup group (length old.devices)
  pub size : length codes ≡ length group
  pub parts : map (λ device. device.part) new.devices ≡ map (λ device. device.part) old.devices
  pub codes_are : code_list new ≡ codes_from group codes 0 (map (λ device. device.part) old.devices)
  pub contents : contents_of new ≡ contents_of old
  pub nets_are : new.nets ≡ nets
  pub stay : NetsStay group nets

-- the codes of a group are as long as its parts' instruction registers
abbrev pub CodesFit : List DeviceType → List ℕ → List (List Bool) → Type 0
CodesFit parts group codes = map length codes ≡ map (λ part. part.ir_length) (entries_at parts group)

-- a chain of the layout, with a group and its codes
pub record ReadyFor (layout : LayoutShape) (group : List ℕ) (codes : List (List Bool)) (chain : ChainState) : Type 0 where
  pub parts : map (λ device. device.part) chain.devices ≡ layout.parts
  pub nets : chain.nets ≡ layout.nets
  pub fit : FitAll chain.devices
  pub some : 1 ≤ length chain.devices
  pub group_is : IsGroup group (length layout.parts)
  pub stay : NetsStay group layout.nets
  pub codes_fit : CodesFit layout.parts group codes

-- what a part must be for its devices to fit
pub record PartFits (part : DeviceType) : Type 0 where
  pub some : 1 ≤ part.ir_length
  pub captures : length part.ir_captures ≡ part.ir_length
  pub idcode : length (code_or_zeros part.idcode) ≡ 32
  pub usercode : length part.usercode ≡ 32
  pub in_range : (code : List Bool) (at : ℕ) → selected part code ≡ Named at → at < length part.named
  pub wide : (code : List Bool) → 1 ≤ width part code

-- after these cycles the group has captured, and these were the bits read out
pub record CapturesBy (layout : LayoutShape) (group : List ℕ) (codes : List (List Bool)) (clocks entry : List Clock) (old new : ChainState) (read : List Bool) : Type 0 where
  pub leads : after_cycles clocks old ≡ new
  pub row : answers (shift_out (scan_length layout group codes)) (after_cycles entry old) ≡ read
  pub contents : CapturesGroup group layout.nets codes (group_bits group (widths_during layout.parts (codes_during layout group codes)) read) old new
  pub holds : IsOpenFor layout group codes new

-- after these cycles the group was updated
pub record UpdatesBy (layout : LayoutShape) (group : List ℕ) (codes : List (List Bool)) (bits : List Bool) (clocks : List Clock) (old new : ChainState) : Type 0 where
  pub leads : after_cycles clocks old ≡ new
  pub contents : UpdatesGroup group layout.nets codes bits old new
  pub parked : IsParked new
  pub codes_are : code_list new ≡ code_list old
