-- A data register scan of the shared chain for the devices of one grant, the group. All other devices are in BYPASS.
-- Codes and stages stand as lists of bits, the lowest, which is nearest TDO, first.
use Rattle.std.specs.Prelude.{ℕ, suc, ◌+◌, ◌≡◌, ◌≤◌, Bool, true, false, ◌&&◌, ◌==◌, List, [], ◌∷◌, ◌++◌, map, take, drop, length, replicate, slice_set, if◌then◌else◌}
use Rattle.std.specs.List.{sum_by}
use Rattle.tap_states.specs.declared.Tap.{Tap}
use Rattle.tap_states.specs.declared.Tap.TheVariants.{CaptureDr, RunTestIdle, PauseDr, UpdateDr}
use Rattle.scan_bits.specs.Words.{bits_of}
use Rattle.scan_bits.specs.Registers.{joined}
use Rattle.part_model.specs.declared.Net.{Net}
use Rattle.part_model.specs.Parts.{DeviceType, width}
use Rattle.base_types.specs.Counts.{raised}
use Rattle.chain_model.specs.Chains.{ChainState, DeviceState, Content}
use Rattle.chain_model.specs.Cycles.{on_rise, updated, dr_stages}
use Rattle.grant_table.specs.Layouts.{LayoutShape, ir_total}
use Rattle.scan_share.specs.PrivateChains.{entries_at, nets_within}

-- what the devices of a chain hold, from TDI on: pins, latches, and counts of captures and updates
abbrev pub contents_of : ChainState → List Content
contents_of chain = map (λ device. device.content) chain.devices

-- instruction codes that are words, each as bits of its device type's instruction length
abbrev pub codes_of : List DeviceType → List ℕ → List (List Bool)
codes_of [] words = []
codes_of (part ∷ parts) [] = []
codes_of (part ∷ parts) (word ∷ words) = bits_of part.ir_length word ∷ codes_of parts words

-- devices with these instruction codes
abbrev pub with_codes : List DeviceState → List (List Bool) → List DeviceState
with_codes [] codes = []
with_codes (device ∷ devices) [] = device ∷ devices
with_codes (device ∷ devices) (code ∷ codes) = record device { code = code } ∷ with_codes devices codes

-- the group's devices, with what they hold on the shared chain, as a chain of their own: in a state of the controller, with these codes
abbrev pub group_chain : Tap → List ℕ → List Net → List (List Bool) → ChainState → ChainState
group_chain state group nets codes chain = record {
  state = state;
  tdo = true;
  scan_open = false;
  devices = with_codes (entries_at chain.devices group) codes;
  nets = nets_within group nets;
  made = 0;
  asked = 0;
}

-- what all devices hold, where those at the group's places hold this instead
abbrev pub with_contents : List ℕ → List Content → List Content → List Content
with_contents [] own all = all
with_contents (place ∷ group) [] all = all
with_contents (place ∷ group) (content ∷ own) all = with_contents group own (slice_set all place content)

-- the group's own chain after the rising edge in Capture-DR
abbrev pub captured_group : List ℕ → List Net → List (List Bool) → ChainState → ChainState
captured_group group nets codes chain = on_rise CaptureDr (group_chain CaptureDr group nets codes chain) false

-- the bits of one long register, divided into stages of these widths from TDI on: the first bits are the last device's
abbrev pub parted : List ℕ → List Bool → List (List Bool)
parted [] bits = []
parted (width ∷ widths) bits = drop (sum_by (λ w. w) widths) bits ∷ parted widths (take (sum_by (λ w. w) widths) bits)

-- devices with these data stages
abbrev pub with_stages : List DeviceState → List (List Bool) → List DeviceState
with_stages [] stages = []
with_stages (device ∷ devices) [] = device ∷ devices
with_stages (device ∷ devices) (stage ∷ stages) = record device { dr_stage = stage } ∷ with_stages devices stages

-- the widths of the registers that the devices' codes select
abbrev pub widths_of : List DeviceState → List ℕ
widths_of devices = map (λ device. width device.part device.code) devices

-- the chain with an open scan of these bits
abbrev pub scanning : List Bool → ChainState → ChainState
scanning bits chain = record chain { scan_open = true; devices = with_stages chain.devices (parted (widths_of chain.devices) bits) }

-- the group's own chain after the falling edge in Update-DR, with these bits in its stages
abbrev pub updated_group : List ℕ → List Net → List (List Bool) → List Bool → ChainState → ChainState
updated_group group nets codes bits chain = updated (scanning bits (group_chain UpdateDr group nets codes chain))

-- a capture for the group: the group's devices hold what their own chain would, and these are the bits that it captures; all other devices stay as they were
abbrev pub CapturesGroup : List ℕ → List Net → List (List Bool) → List Bool → ChainState → ChainState → Type 0
CapturesGroup group nets codes bits old new =
    (contents_of new ≡ with_contents group (contents_of (captured_group group nets codes old)) (contents_of old))
    × (bits ≡ joined (dr_stages (captured_group group nets codes old).devices))

-- an update of the group from these bits: its devices hold what their own chain would; all other devices stay as they were
abbrev pub UpdatesGroup : List ℕ → List Net → List (List Bool) → List Bool → ChainState → ChainState → Type 0
UpdatesGroup group nets codes bits old new = contents_of new ≡ with_contents group (contents_of (updated_group group nets codes bits old)) (contents_of old)

-- the instruction of the device at a place during a scan for the group: its own code, or all ones, which is BYPASS (IEEE 1149.1)
abbrev pub code_during : List ℕ → List (List Bool) → ℕ → List Bool → List Bool
code_during [] codes place ones = ones
code_during (first ∷ group) [] place ones = ones
code_during (first ∷ group) (code ∷ codes) place ones = if first == place then code else code_during group codes place ones

-- the instructions during a scan for the group, of the devices from a place on
abbrev pub codes_from : List ℕ → List (List Bool) → ℕ → List DeviceType → List (List Bool)
codes_from group codes place [] = []
codes_from group codes place (part ∷ parts) = code_during group codes place (replicate part.ir_length true) ∷ codes_from group codes (suc place) parts

-- the instructions of the whole chain during a scan for the group
abbrev pub codes_during : LayoutShape → List ℕ → List (List Bool) → List (List Bool)
codes_during layout group codes = codes_from group codes 0 layout.parts

-- equal bits
abbrev pub same_bits : List Bool → List Bool → Bool
same_bits [] [] = true
same_bits (true ∷ xs) (true ∷ ys) = same_bits xs ys
same_bits (false ∷ xs) (false ∷ ys) = same_bits xs ys
same_bits _ _ = false

-- equal codes
abbrev pub same_codes : List (List Bool) → List (List Bool) → Bool
same_codes [] [] = true
same_codes (x ∷ xs) (y ∷ ys) = same_bits x y && same_codes xs ys
same_codes _ _ = false

-- the instruction codes of the devices of a chain, from TDI on
abbrev pub code_list : ChainState → List (List Bool)
code_list chain = map (λ device. device.code) chain.devices

-- the widths of the registers that these codes select
abbrev pub widths_during : List DeviceType → List (List Bool) → List ℕ
widths_during [] codes = []
widths_during (part ∷ parts) [] = []
widths_during (part ∷ parts) (code ∷ codes) = width part code ∷ widths_during parts codes

-- the bits between TDI and TDO during a scan for the group: its own registers', and one of BYPASS for each other device
abbrev pub scan_length : LayoutShape → List ℕ → List (List Bool) → ℕ
scan_length layout group codes = sum_by (λ w. w) (widths_during layout.parts (codes_during layout group codes))

-- the cycles of TCK of a capture: an instruction scan, and a data scan of so many bits up to Pause-DR; nine lead there
abbrev pub capture_cost : (codes scan : ℕ) → ℕ
capture_cost codes scan = codes + scan + 9

-- the cycles of an update: a data scan of so many bits from Pause-DR to Run-Test/Idle; four lead there
abbrev pub update_cost : ℕ → ℕ
update_cost scan = scan + 4

-- the cycles that were made are at most those that are due
abbrev pub IsWithin : (made due : ℕ) → Type 0
IsWithin made due = made ≤ due

-- the cycles that a capture makes: where all devices have their codes already, the instruction scan is left out, and four lead there
abbrev pub capture_cycles : LayoutShape → List ℕ → List (List Bool) → ChainState → ℕ
capture_cycles layout group codes chain =
    if same_codes (code_list chain) (codes_during layout group codes)
    then scan_length layout group codes + 4
    else capture_cost (ir_total layout) (scan_length layout group codes)

-- the cycles that an update makes
abbrev pub update_cycles : LayoutShape → List ℕ → List (List Bool) → ℕ
update_cycles layout group codes = update_cost (scan_length layout group codes)

-- between two scans the chain is in Run-Test/Idle, and no scan is open
abbrev pub IsParked : ChainState → Type 0
IsParked chain = (chain.state ≡ RunTestIdle) × (chain.scan_open ≡ false)

-- while a scan for the group is open, the chain is in Pause-DR, with the group's codes, and BYPASS elsewhere
abbrev pub IsOpenFor : LayoutShape → List ℕ → List (List Bool) → ChainState → Type 0
IsOpenFor layout group codes chain = (chain.state ≡ PauseDr) × (chain.scan_open ≡ true) × (code_list chain ≡ codes_during layout group codes)

-- the group's bits among those of a scan of the whole chain
abbrev pub group_bits : List ℕ → List ℕ → List Bool → List Bool
group_bits group widths bits = joined (entries_at (parted widths bits) group)

-- the bits are the group's among those that were read out: of the answers that the capture took, the read-out is as many as the scan
-- is long, before the very last one
pub record IsReadOut (layout : LayoutShape) (group : List ℕ) (codes : List (List Bool)) (before after bits : List Bool) : Type 0 where
  pub way : List Bool
  pub read : List Bool
  pub last : Bool
  pub taken : before ≡ way ++ read ++ last ∷ after
  pub whole : length read ≡ scan_length layout group codes
  pub own : bits ≡ group_bits group (widths_during layout.parts (codes_during layout group codes)) read

-- ---- what a chain is made of

-- the types of the devices of a chain
abbrev pub types_of : ChainState → List DeviceType
types_of chain = map (λ device. device.part) chain.devices

-- all that a device keeps has its length
pub record DeviceFits (scanning : Bool) (device : DeviceState) : Type 0 where
  pub code : length device.code ≡ device.part.ir_length
  pub ir_stage : length device.ir_stage ≡ device.part.ir_length
  pub dr_stage : length device.dr_stage ≡ (if scanning then width device.part device.code else 0)
  pub pins : length device.content.pins ≡ device.part.boundary_length
  pub boundary : length device.content.boundary ≡ device.part.boundary_length
  pub named : map length device.content.named ≡ map (λ register. register.length) device.part.named

-- each device's
abbrev pub EachFits : Bool → List DeviceState → Type 0
EachFits scanning [] = Unit {0}
EachFits scanning (device ∷ devices) = DeviceFits scanning device × EachFits scanning devices

-- the chain is made of these device types and nets, and all that its devices keep has its length
pub record IsMadeOf (parts : List DeviceType) (nets : List Net) (chain : ChainState) : Type 0 where
  pub parts_are : types_of chain ≡ parts
  pub nets_are : chain.nets ≡ nets
  pub fits : EachFits chain.scan_open chain.devices

-- the chain is made of the group's devices, in their order, and of the nets within the group
abbrev pub IsOver : LayoutShape → List ℕ → ChainState → Type 0
IsOver layout group chain = IsMadeOf (entries_at layout.parts group) (nets_within group layout.nets) chain

-- the chain is made of all devices and nets of the layout
abbrev pub IsWhole : LayoutShape → ChainState → Type 0
IsWhole layout chain = IsMadeOf layout.parts layout.nets chain

-- ---- what the calls of the shared chain promise

-- a capture for the group opens a scan for it
pub record Captures (layout : LayoutShape) (group : List ℕ) (codes : List (List Bool)) (bits : List Bool) (old new : ChainState) : Type 0 where
  pub contents : CapturesGroup group layout.nets codes bits old new
  pub holds : IsOpenFor layout group codes new
  pub whole : IsWhole layout new
  pub made : new.made ≡ raised old.made (capture_cycles layout group codes old)

-- an update of the group's registers closes the scan
pub record Updates (layout : LayoutShape) (group : List ℕ) (codes : List (List Bool)) (bits : List Bool) (old new : ChainState) : Type 0 where
  pub contents : UpdatesGroup group layout.nets codes bits old new
  pub parked : IsParked new
  pub whole : IsWhole layout new
  pub codes_are : code_list new ≡ code_list old
  pub made : new.made ≡ raised old.made (update_cycles layout group codes)

-- TRST abandons the scan: nothing is updated, and all devices have their instructions of Test-Logic-Reset
pub record Abandons (layout : LayoutShape) (old new : ChainState) : Type 0 where
  pub contents : contents_of new ≡ contents_of old
  pub parked : IsParked new
  pub whole : IsWhole layout new
  pub codes_are : code_list new ≡ map (λ part. part.reset_code) layout.parts
  pub made : new.made ≡ raised old.made 1

-- a chain at power-up is led to Run-Test/Idle
pub record Starts (layout : LayoutShape) (old new : ChainState) : Type 0 where
  pub contents : contents_of new ≡ contents_of old
  pub parked : IsParked new
  pub whole : IsWhole layout new
  pub codes_are : code_list new ≡ map (λ part. part.reset_code) layout.parts
  pub made : new.made ≡ raised old.made 6
