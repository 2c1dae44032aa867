-- What a chain is made of stays: edges, resets and updates keep its types, its nets, and the lengths of all that its devices keep.
use Rattle.std.proofs.Common.{◌≡◌, ℕ, zero, suc, ◌<◌, Bool, true, false, cond, List, [], ◌∷◌, ◌++◌, length, map, refl, ap, sym, subst, ◌∙◌, arith, length-append, Some, None}
use Rattle.std.specs.List.{slice_index_or, slice_set, slice_get, cons_option}
use Rattle.std.specs.Option.{option_map}
use Rattle.std.specs.declared.option.Option.{Option}
use Rattle.std.proofs.lemmas.List.{length-replicate}
use Rattle.std.proofs.lemmas.Option.{slice_get-map}
use Rattle.tap_states.specs.declared.Tap.{Tap}
use Rattle.tap_states.specs.declared.Tap.TheVariants.{TestLogicReset, CaptureDr, ShiftDr, Exit1Dr, PauseDr, Exit2Dr, UpdateDr, CaptureIr, ShiftIr, UpdateIr}
use Rattle.tap_states.specs.States.{next, in_dr_scan}
use Rattle.scan_bits.specs.Registers.{shifted, lowest_or}
use Rattle.part_model.specs.declared.Net.{Net}
use Rattle.part_model.specs.Parts.{DeviceType, NamedRegister, Register, selected, length_of, named_length}
use Rattle.part_model.specs.Parts.Register.{Bypass, Boundary, Idcode, Usercode, Named}
use Rattle.part_model.proofs.Accepted.{IsSoundPart, HasRegister, HasBits}
use Rattle.chain_model.specs.Chains.{ChainState, DeviceState, Content, Placed, powered, powered_device, zero_latches, reset, reset_device, pin_values, captured_by, code_or_zeros}
use Rattle.chain_model.specs.Cycles.{on_rise, rise, on_fall, fall, updated, closed, captured_from, capture_device, shifted_dr, shifted_ir, capture_ir, update_device, update_ir, reset_code, latched}
use Rattle.scan_share.specs.PrivateChains.{entries_at, nets_within, private_chain}
use Rattle.scan_share.specs.Scans.{DeviceFits, EachFits, IsMadeOf, types_of}
use Rattle.scan_share.specs.Timing.{may_scan, IsTimed}

-- this holds of each entry
abbrev pub Each : {X : Type 0} → (X → Type 0) → List X → Type 0
Each P [] = Unit {0}
Each P (x ∷ xs) = P x × Each P xs

pub each_impl : {X : Type 0} (P Q : X → Type 0) → ((x : X) → P x → Q x) → (xs : List X) → Each P xs → Each Q xs
each_impl P Q f [] each = tt
each_impl P Q f (x ∷ xs) each = (f x each.0, each_impl P Q f xs each.1)

pub each_last : {X : Type 0} (P : X → Type 0) (xs : List X) (x : X) → Each P xs → P x → Each P (xs ++ x ∷ [])
each_last P [] x each p = (p, tt)
each_last P (y ∷ xs) x each p = (each.0, each_last P xs x each.1 p)

-- every device type is that of a plan, as far as lengths go
abbrev pub AllSound : List DeviceType → Type 0
AllSound parts = Each IsSoundPart parts

abbrev parts_of : List DeviceState → List DeviceType
parts_of devices = map (λ device. device.part) devices

never : {A : Type 0} → false ≡ true → A
never e = absurd (let q : false ≡ true = e in cc)

-- ---- lists of devices

-- a change of each device that keeps its type
parts_map : (change : DeviceState → DeviceState) → ((device : DeviceState) → (change device).part ≡ device.part) → (devices : List DeviceState) → parts_of (map change devices) ≡ parts_of devices
parts_map change same [] = refl
parts_map change same (device ∷ devices) = (λ i. same device i ∷ parts_map change same devices i)

-- and that keeps the lengths
fits_map : (s t : Bool) (change : DeviceState → DeviceState) → ((device : DeviceState) → IsSoundPart device.part → DeviceFits s device → DeviceFits t (change device))
    → (devices : List DeviceState) → AllSound (parts_of devices) → EachFits s devices → EachFits t (map change devices)
fits_map s t change keeps [] sound fits = tt
fits_map s t change keeps (device ∷ devices) sound fits = (keeps device sound.0 fits.0, fits_map s t change keeps devices sound.1 fits.1)

-- ---- what a register captures and keeps

named_at : (named : List (List Bool)) (registers : List NamedRegister) (at : ℕ) → map length named ≡ map (λ register. register.length) registers → at < length registers
    → length (slice_index_or named at []) ≡ named_length registers at
named_at named [] at same lt = absurd (omega arith)
named_at [] (register ∷ registers) at same lt = absurd (let q : [] ≡ register.length ∷ map (λ r. r.length) registers = same in cc)
named_at (latch ∷ named) (register ∷ registers) zero same lt = let e : length latch ≡ register.length = cc in e
named_at (latch ∷ named) (register ∷ registers) (suc at) same lt = let e : map length named ≡ map (λ r. r.length) registers = cc in named_at named registers at e (omega arith)

set_named : (named : List (List Bool)) (registers : List NamedRegister) (at : ℕ) (stage : List Bool) → map length named ≡ map (λ register. register.length) registers → length stage ≡ named_length registers at
    → map length (slice_set named at stage) ≡ map (λ register. register.length) registers
set_named [] registers at stage same long = same
set_named (latch ∷ named) [] at stage same long = absurd (let q : length latch ∷ map length named ≡ [] = same in cc)
set_named (latch ∷ named) (register ∷ registers) zero stage same long = let e : map length named ≡ map (λ r. r.length) registers = cc in (λ i. long i ∷ e i)
set_named (latch ∷ named) (register ∷ registers) (suc at) stage same long =
    let e : map length named ≡ map (λ r. r.length) registers = cc in
    let k : length latch ≡ register.length = cc in
    (λ i. k i ∷ set_named named registers at stage e long i)

length-pin_values : (chain : ChainState) (place cell : ℕ) (pins : List Bool) → length (pin_values chain place cell pins) ≡ length pins
length-pin_values chain place cell [] = refl
length-pin_values chain place cell (pin ∷ pins) = ap suc (length-pin_values chain place (suc cell) pins)

length-idcode : (code : Option (List Bool)) → HasBits 32 code → length (code_or_zeros code) ≡ 32
length-idcode None has = refl
length-idcode (Some bits) has = has

length-captured : (chain : ChainState) (place : ℕ) (s : Bool) (device : DeviceState) (register : Register) → IsSoundPart device.part → DeviceFits s device → HasRegister device.part.named register
    → length (captured_by chain place device register) ≡ length_of device.part register
length-captured chain place s device Bypass sound fits has = refl
length-captured chain place s device Boundary sound fits has = length-pin_values chain place 0 device.content.pins ∙ fits.pins
length-captured chain place s device Idcode sound fits has = length-idcode device.part.idcode sound.idcode
length-captured chain place s device Usercode sound fits has = sound.usercode
length-captured chain place s device (Named at) sound fits has = named_at device.content.named device.part.named at fits.named has

-- ---- the acts of one device

capture_fits : (chain : ChainState) (place : ℕ) (s : Bool) (device : DeviceState) → IsSoundPart device.part → DeviceFits s device → DeviceFits true (capture_device chain place device)
capture_fits chain place s device sound fits = record {
  code = fits.code;
  ir_stage = fits.ir_stage;
  dr_stage = length-captured chain place s device (selected device.part device.code) sound fits (sound.registers device.code);
  pins = fits.pins;
  boundary = fits.boundary;
  named = fits.named;
}

length-shifted : (stage : List Bool) (tdi : Bool) → length (shifted stage tdi) ≡ length stage
length-shifted [] tdi = refl
length-shifted (bit ∷ bits) tdi = omega (arith, length-append bits (tdi ∷ []))

capture_ir_fits : (s : Bool) (device : DeviceState) → IsSoundPart device.part → DeviceFits s device → DeviceFits s (capture_ir device)
capture_ir_fits s device sound fits = record { code = fits.code; ir_stage = sound.captures; dr_stage = fits.dr_stage; pins = fits.pins; boundary = fits.boundary; named = fits.named }

update_ir_fits : (device : DeviceState) → IsSoundPart device.part → DeviceFits false device → DeviceFits false (update_ir device)
update_ir_fits device sound fits = record { code = fits.ir_stage; ir_stage = fits.ir_stage; dr_stage = fits.dr_stage; pins = fits.pins; boundary = fits.boundary; named = fits.named }

reset_code_fits : (device : DeviceState) → IsSoundPart device.part → DeviceFits false device → DeviceFits false (reset_code device)
reset_code_fits device sound fits = record { code = sound.reset; ir_stage = fits.ir_stage; dr_stage = fits.dr_stage; pins = fits.pins; boundary = fits.boundary; named = fits.named }

reset_fits : (s : Bool) (device : DeviceState) → IsSoundPart device.part → DeviceFits s device → DeviceFits false (reset_device device)
reset_fits s device sound fits = record { code = sound.reset; ir_stage = length-replicate device.part.ir_length false; dr_stage = refl; pins = fits.pins; boundary = fits.boundary; named = fits.named }

-- the stage is as long as the register that takes it
record ContentFits (part : DeviceType) (content : Content) : Type 0 where
  pub pins : length content.pins ≡ part.boundary_length
  pub boundary : length content.boundary ≡ part.boundary_length
  pub named : map length content.named ≡ map (λ register. register.length) part.named

latched_fits : (part : DeviceType) (register : Register) (stage : List Bool) (content : Content) → ContentFits part content → length stage ≡ length_of part register → ContentFits part (latched register stage content)
latched_fits part Boundary stage content fits long = record { pins = fits.pins; boundary = long; named = fits.named }
latched_fits part (Named at) stage content fits long = record { pins = fits.pins; boundary = fits.boundary; named = set_named content.named part.named at stage fits.named long }
latched_fits part Bypass stage content fits long = fits
latched_fits part Idcode stage content fits long = fits
latched_fits part Usercode stage content fits long = fits

update_fits : (device : DeviceState) → IsSoundPart device.part → DeviceFits true device → DeviceFits false (update_device device)
update_fits device sound fits =
    let content = latched_fits device.part (selected device.part device.code) device.dr_stage device.content (record { pins = fits.pins; boundary = fits.boundary; named = fits.named }) fits.dr_stage in
    record { code = fits.code; ir_stage = fits.ir_stage; dr_stage = refl; pins = content.pins; boundary = content.boundary; named = content.named }

-- ---- all devices of a chain

captured_parts : (chain : ChainState) (place : ℕ) (devices : List DeviceState) → parts_of (captured_from chain place devices) ≡ parts_of devices
captured_parts chain place [] = refl
captured_parts chain place (device ∷ devices) = ap (λ rest. device.part ∷ rest) (captured_parts chain (suc place) devices)

captured_fits : (chain : ChainState) (place : ℕ) (s : Bool) (devices : List DeviceState) → AllSound (parts_of devices) → EachFits s devices → EachFits true (captured_from chain place devices)
captured_fits chain place s [] sound fits = tt
captured_fits chain place s (device ∷ devices) sound fits = (capture_fits chain place s device sound.0 fits.0, captured_fits chain (suc place) s devices sound.1 fits.1)

shifted_dr_parts : (tdi : Bool) (devices : List DeviceState) → parts_of (shifted_dr tdi devices) ≡ parts_of devices
shifted_dr_parts tdi [] = refl
shifted_dr_parts tdi (device ∷ devices) = ap (λ rest. device.part ∷ rest) (shifted_dr_parts (lowest_or tdi device.dr_stage) devices)

shifted_dr_fits : (tdi s : Bool) (devices : List DeviceState) → EachFits s devices → EachFits s (shifted_dr tdi devices)
shifted_dr_fits tdi s [] fits = tt
shifted_dr_fits tdi s (device ∷ devices) fits = (
  record { code = fits.0.code; ir_stage = fits.0.ir_stage; dr_stage = length-shifted device.dr_stage tdi ∙ fits.0.dr_stage; pins = fits.0.pins; boundary = fits.0.boundary; named = fits.0.named },
  shifted_dr_fits (lowest_or tdi device.dr_stage) s devices fits.1,
)

shifted_ir_parts : (tdi : Bool) (devices : List DeviceState) → parts_of (shifted_ir tdi devices) ≡ parts_of devices
shifted_ir_parts tdi [] = refl
shifted_ir_parts tdi (device ∷ devices) = ap (λ rest. device.part ∷ rest) (shifted_ir_parts (lowest_or tdi device.ir_stage) devices)

shifted_ir_fits : (tdi s : Bool) (devices : List DeviceState) → EachFits s devices → EachFits s (shifted_ir tdi devices)
shifted_ir_fits tdi s [] fits = tt
shifted_ir_fits tdi s (device ∷ devices) fits = (
  record { code = fits.0.code; ir_stage = length-shifted device.ir_stage tdi ∙ fits.0.ir_stage; dr_stage = fits.0.dr_stage; pins = fits.0.pins; boundary = fits.0.boundary; named = fits.0.named },
  shifted_ir_fits (lowest_or tdi device.ir_stage) s devices fits.1,
)

-- ---- when a scan is open

shut_where : (open_now : Bool) → (open_now ≡ true → false ≡ true) → open_now ≡ false
shut_where true h = never (h refl)
shut_where false h = refl

scan_states : (tck : Bool) (state : Tap) → may_scan tck state ≡ true → in_dr_scan state ≡ true
scan_states tck UpdateDr h = refl
scan_states tck _ h = h

-- the next state of one in which a scan may be open while TCK is low
next_may : (state : Tap) (tms : Bool) → may_scan false state ≡ true → may_scan true (next state tms) ≡ true
next_may ShiftDr true h = refl
next_may ShiftDr false h = refl
next_may Exit1Dr true h = refl
next_may Exit1Dr false h = refl
next_may PauseDr true h = refl
next_may PauseDr false h = refl
next_may Exit2Dr true h = refl
next_may Exit2Dr false h = refl
next_may _ tms h = never h

capture_next : (tms : Bool) → may_scan true (next CaptureDr tms) ≡ true
capture_next true = refl
capture_next false = refl

pub timed_rise : (chain : ChainState) (tms tdi : Bool) → IsTimed false chain → IsTimed true (rise chain tms tdi)
timed_rise chain tms tdi timed = by chain.state timed
  where
    by : (state : Tap) → (chain.scan_open ≡ true → may_scan false state ≡ true) → (on_rise state chain tdi).scan_open ≡ true → may_scan true (next state tms) ≡ true
    by CaptureDr h k = capture_next tms
    by ShiftDr h k = next_may ShiftDr tms (h k)
    by CaptureIr h k = next_may CaptureIr tms (h k)
    by ShiftIr h k = next_may ShiftIr tms (h k)
    by state h k = next_may state tms (h k)

pub timed_fall : (tck : Bool) (chain : ChainState) → IsTimed tck chain → IsTimed false (fall chain)
timed_fall tck chain timed = by chain.state refl timed
  where
    updated_shut : (t : Bool) → chain.scan_open ≡ t → (cond t (record chain { scan_open = false; devices = map update_device chain.devices }) chain).scan_open ≡ false
    updated_shut true e = refl
    updated_shut false e = e

    by : (state : Tap) → chain.state ≡ state → (chain.scan_open ≡ true → may_scan tck state ≡ true) → (on_fall state chain).scan_open ≡ true → may_scan false (on_fall state chain).state ≡ true
    by UpdateDr e h k = never (sym (updated_shut chain.scan_open refl) ∙ k)
    by UpdateIr e h k = rw e (h k)
    by TestLogicReset e h k = rw e (h k)
    by state e h k = rw e (h k)

pub timed_reset : (tck : Bool) (chain : ChainState) → IsTimed tck (reset chain)
timed_reset tck chain h = never h

-- where no scan is open, TCK may be high or low
pub timed_shut : (tck : Bool) (chain : ChainState) → chain.scan_open ≡ false → IsTimed tck chain
timed_shut tck chain shut h = never (sym shut ∙ h)

-- ---- what a chain is made of

module _ (parts : List DeviceType) (nets : List Net) (sound : AllSound parts) where
  own_sound : (chain : ChainState) → IsMadeOf parts nets chain → AllSound (types_of chain)
  own_sound chain made = subst AllSound (sym made.parts_are) sound

  on_rise_made : (state : Tap) (chain : ChainState) (tdi : Bool) → IsMadeOf parts nets chain → IsMadeOf parts nets (on_rise state chain tdi)
  on_rise_made CaptureDr chain tdi made = record {
    parts_are = captured_parts chain 0 chain.devices ∙ made.parts_are;
    nets_are = made.nets_are;
    fits = captured_fits chain 0 chain.scan_open chain.devices (own_sound chain made) made.fits;
  }
  on_rise_made ShiftDr chain tdi made = record { parts_are = shifted_dr_parts tdi chain.devices ∙ made.parts_are; nets_are = made.nets_are; fits = shifted_dr_fits tdi chain.scan_open chain.devices made.fits }
  on_rise_made CaptureIr chain tdi made = record {
    parts_are = parts_map capture_ir (λ device. refl) chain.devices ∙ made.parts_are;
    nets_are = made.nets_are;
    fits = fits_map chain.scan_open chain.scan_open capture_ir (capture_ir_fits chain.scan_open) chain.devices (own_sound chain made) made.fits;
  }
  on_rise_made ShiftIr chain tdi made = record { parts_are = shifted_ir_parts tdi chain.devices ∙ made.parts_are; nets_are = made.nets_are; fits = shifted_ir_fits tdi chain.scan_open chain.devices made.fits }
  on_rise_made _ chain tdi made = made

  -- a rise
  pub made_rise : (chain : ChainState) (tms tdi : Bool) → IsMadeOf parts nets chain → IsMadeOf parts nets (rise chain tms tdi)
  made_rise chain tms tdi made = let m = on_rise_made chain.state chain tdi made in record { parts_are = m.parts_are; nets_are = m.nets_are; fits = m.fits }

  -- a reset by TRST
  pub made_reset : (chain : ChainState) → IsMadeOf parts nets chain → IsMadeOf parts nets (reset chain)
  made_reset chain made = record {
    parts_are = parts_map reset_device (λ device. refl) chain.devices ∙ made.parts_are;
    nets_are = made.nets_are;
    fits = fits_map chain.scan_open false reset_device (reset_fits chain.scan_open) chain.devices (own_sound chain made) made.fits;
  }

  -- the end of an open scan
  pub made_updated : (chain : ChainState) → IsMadeOf parts nets chain → IsMadeOf parts nets (updated chain)
  made_updated chain made = by chain.scan_open refl
    where
      fits_as : (t : Bool) → chain.scan_open ≡ t → EachFits t chain.devices
      fits_as t e = subst (λ s. EachFits s chain.devices) e made.fits

      by : (t : Bool) → chain.scan_open ≡ t → IsMadeOf parts nets (cond t (record chain { scan_open = false; devices = map update_device chain.devices }) chain)
      by true e = record {
        parts_are = parts_map update_device (λ device. refl) chain.devices ∙ made.parts_are;
        nets_are = made.nets_are;
        fits = fits_map true false update_device update_fits chain.devices (own_sound chain made) (fits_as true e);
      }
      by false e = made

  pub made_closed : (chain : ChainState) → IsMadeOf parts nets chain → IsMadeOf parts nets (closed chain)
  made_closed chain made = made_reset (updated chain) (made_updated chain made)

  -- a change of all devices where no scan is open
  made_changed : (chain : ChainState) (change : DeviceState → DeviceState) → ((device : DeviceState) → (change device).part ≡ device.part)
      → ((device : DeviceState) → IsSoundPart device.part → DeviceFits false device → DeviceFits false (change device))
      → chain.scan_open ≡ false → IsMadeOf parts nets chain → IsMadeOf parts nets (record chain { devices = map change chain.devices })
  made_changed chain change same keeps shut made = record {
    parts_are = parts_map change same chain.devices ∙ made.parts_are;
    nets_are = made.nets_are;
    fits = subst (λ s. EachFits s (map change chain.devices)) (sym shut)
        (fits_map false false change keeps chain.devices (own_sound chain made) (subst (λ s. EachFits s chain.devices) shut made.fits));
  }

  on_fall_made : (state : Tap) (chain : ChainState) → (chain.scan_open ≡ true → in_dr_scan state ≡ true) → IsMadeOf parts nets chain → IsMadeOf parts nets (on_fall state chain)
  on_fall_made UpdateDr chain timed made = made_updated chain made
  on_fall_made UpdateIr chain timed made = made_changed chain update_ir (λ device. refl) update_ir_fits (shut_where chain.scan_open timed) made
  on_fall_made TestLogicReset chain timed made = made_changed chain reset_code (λ device. refl) reset_code_fits (shut_where chain.scan_open timed) made
  on_fall_made _ chain timed made = made

  -- a fall, where an open scan is in its states
  pub made_fall : (tck : Bool) (chain : ChainState) → IsTimed tck chain → IsMadeOf parts nets chain → IsMadeOf parts nets (fall chain)
  made_fall tck chain timed made =
      let m = on_fall_made chain.state chain (λ h. scan_states tck chain.state (timed h)) made in
      record { parts_are = m.parts_are; nets_are = m.nets_are; fits = m.fits }

-- ---- at power-up

-- a device type with pins of the length of its boundary register
pub record IsSoundBoard (board : Placed) : Type 0 where
  pub part : IsSoundPart board.part
  pub pins : length board.pins ≡ board.part.boundary_length

parts_on : List Placed → List DeviceType
parts_on boards = map (λ board. board.part) boards

zero_lengths : (registers : List NamedRegister) → map length (zero_latches registers) ≡ map (λ register. register.length) registers
zero_lengths [] = refl
zero_lengths (register ∷ registers) = (λ i. length-replicate register.length false i ∷ zero_lengths registers i)

powered_fits : (board : Placed) → IsSoundBoard board → DeviceFits false (powered_device board)
powered_fits board sound = record {
  code = sound.part.reset;
  ir_stage = length-replicate board.part.ir_length false;
  dr_stage = refl;
  pins = sound.pins;
  boundary = length-replicate board.part.boundary_length false;
  named = zero_lengths board.part.named;
}

all_powered : (boards : List Placed) → Each IsSoundBoard boards → EachFits false (map powered_device boards)
all_powered [] sound = tt
all_powered (board ∷ boards) sound = (powered_fits board sound.0, all_powered boards sound.1)

powered_parts : (boards : List Placed) → parts_of (map powered_device boards) ≡ map (λ board. board.part) boards
powered_parts [] = refl
powered_parts (board ∷ boards) = ap (λ rest. board.part ∷ rest) (powered_parts boards)

-- a chain at power-up is made of its boards' types
pub made_powered : (boards : List Placed) (nets : List Net) → Each IsSoundBoard boards → IsMadeOf (map (λ board. board.part) boards) nets (powered boards nets)
made_powered boards nets sound = record { parts_are = powered_parts boards; nets_are = refl; fits = all_powered boards sound }

pub boards_sound : (boards : List Placed) → Each IsSoundBoard boards → AllSound (map (λ board. board.part) boards)
boards_sound [] sound = tt
boards_sound (board ∷ boards) sound = (sound.0.part, boards_sound boards sound.1)

-- ---- the entries at places

each_at : {X : Type 0} (P : X → Type 0) (xs : List X) (place : ℕ) (x : X) → Each P xs → slice_get xs place ≡ Some x → P x
each_at P [] place x each found = absurd (let q : None ≡ Some x = found in cc)
each_at P (first ∷ xs) zero x each found = let same : first ≡ x = cc in subst P same each.0
each_at P (first ∷ xs) (suc place) x each found = each_at P xs place x each.1 found

pub entries_each : {X : Type 0} (P : X → Type 0) (xs : List X) (places : List ℕ) → Each P xs → Each P (entries_at xs places)
entries_each P xs [] each = tt
entries_each P xs (place ∷ places) each = by (slice_get xs place) refl (entries_each P xs places each)
  where
    by : (o : Option _) → slice_get xs place ≡ o → Each P (entries_at xs places) → Each P (cons_option o (entries_at xs places))
    by None found rest = rest
    by (Some x) found rest = (each_at P xs place x each found, rest)

pub entries_map : {X Y : Type 0} (view : X → Y) (xs : List X) (places : List ℕ) → map view (entries_at xs places) ≡ entries_at (map view xs) places
entries_map view xs [] = refl
entries_map view xs (place ∷ places) = by (slice_get xs place) (slice_get-map view xs place) (entries_map view xs places)
  where
    by : (o : Option _) → slice_get (map view xs) place ≡ option_map view o → map view (entries_at xs places) ≡ entries_at (map view xs) places
        → map view (cons_option o (entries_at xs places)) ≡ cons_option (slice_get (map view xs) place) (entries_at (map view xs) places)
    by None found rest = rw found rest
    by (Some x) found rest = rw found (ap (λ more. view x ∷ more) rest)

-- the private chain of a group at power-up
pub made_private : (boards : List Placed) (group : List ℕ) (nets : List Net) → Each IsSoundBoard boards
    → IsMadeOf (entries_at (map (λ board. board.part) boards) group) (nets_within group nets) (private_chain boards group nets)
made_private boards group nets sound =
    subst (λ parts. IsMadeOf parts (nets_within group nets) (private_chain boards group nets)) (entries_map (λ board. board.part) boards group)
    (made_powered (entries_at boards group) (nets_within group nets) (entries_each IsSoundBoard boards group sound))

-- a group of no devices has no nets
pub no_nets_within : (nets : List Net) → nets_within [] nets ≡ []
no_nets_within [] = refl
no_nets_within (net ∷ nets) = no_nets_within nets
