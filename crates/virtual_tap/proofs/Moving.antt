-- The edges of a virtual TAP are those of each private chain that it stands for.
use Rattle.std.proofs.Common.{◌≡◌, Bool, true, false, List, [], ◌∷◌, ◌++◌, map, replicate, refl, sym, ap, subst, ◌∙◌, Some, None}
use Rattle.std.specs.declared.option.Option.{Option}
use Rattle.std.specs.Option.{unwrap_or}
use Rattle.tap_states.specs.declared.Tap.{Tap}
use Rattle.tap_states.specs.declared.Tap.TheVariants.{TestLogicReset, CaptureDr, ShiftDr, UpdateDr, CaptureIr, ShiftIr, UpdateIr}
use Rattle.tap_states.specs.States.{is_capture_dr, next}
use Rattle.scan_bits.specs.BitLists.{BitList}
use Rattle.scan_bits.specs.Registers.{joined, lowest_or, shifted}
use Rattle.part_model.specs.declared.Net.{Net}
use Rattle.part_model.specs.Parts.{DeviceType}
use Rattle.chain_model.specs.Chains.{ChainState, DeviceState, Placed, powered, powered_device, reset, reset_device}
use Rattle.chain_model.specs.Cycles.{rise, fall, shifted_dr, shifted_ir, capture_ir, update_ir, reset_code, update_device, dr_stages, ir_stages}
use Rattle.chain_model.proofs.Rows.{joined-dr}
use Rattle.scan_share.specs.Scans.{types_of, code_list}
use Rattle.virtual_tap.specs.Views.{TapView, StandsFor, HoldsStages, MovesAs, closed_view}
use Rattle.virtual_tap.specs.Instructions.{InstructionState, GroupInstructions, at_power_up, captured, cleared, shifted_through, parts_of, stages_of, reset_codes_of, risen, fallen_codes}
use Rattle.virtual_tap.specs.Taps.{bits_shown, data_stages, turned, risen_register, ends_scan, tdo_shown, tap_of}

-- what such a virtual TAP shows
abbrev pub view_of : Tap → Bool → Bool → GroupInstructions → Option BitList → TapView
view_of state tdo scan_open instructions register = (tap_of 0 state tdo scan_open instructions register).view

pub never : {A : Type 0} → false ≡ true → A
never e = absurd (let q : false ≡ true = e in cc)

-- ---- lists of devices

pub fuse : {X Y Z : Type 0} (g : Y → Z) (f : X → Y) (xs : List X) → map g (map f xs) ≡ map (λ x. g (f x)) xs
fuse g f [] = refl
fuse g f (x ∷ xs) = ap (λ rest. g (f x) ∷ rest) (fuse g f xs)

-- what the type of each device says
by_parts : {Y : Type 0} (f : DeviceType → Y) (ds : List DeviceState) (rs : List InstructionState) → map (λ device. device.part) ds ≡ parts_of rs → map (λ device. f device.part) ds ≡ map (λ register. f register.part) rs
by_parts f [] [] same = refl
by_parts f [] (r ∷ rs) same = absurd (let q : [] ≡ r.part ∷ parts_of rs = same in cc)
by_parts f (d ∷ ds) [] same = absurd (let q : d.part ∷ map (λ (device : DeviceState). device.part) ds ≡ [] = same in cc)
by_parts f (d ∷ ds) (r ∷ rs) same =
    let first : d.part ≡ r.part = cc in
    let rest : map (λ (device : DeviceState). device.part) ds ≡ parts_of rs = cc in
    λ i. f (first i) ∷ by_parts f ds rs rest i

codes_dr : (tdi : Bool) (ds : List DeviceState) → map (λ device. device.code) (shifted_dr tdi ds) ≡ map (λ device. device.code) ds
codes_dr tdi [] = refl
codes_dr tdi (d ∷ ds) = ap (λ rest. d.code ∷ rest) (codes_dr (lowest_or tdi d.dr_stage) ds)

ir_dr : (tdi : Bool) (ds : List DeviceState) → ir_stages (shifted_dr tdi ds) ≡ ir_stages ds
ir_dr tdi [] = refl
ir_dr tdi (d ∷ ds) = ap (λ rest. d.ir_stage ∷ rest) (ir_dr (lowest_or tdi d.dr_stage) ds)

codes_ir : (tdi : Bool) (ds : List DeviceState) → map (λ device. device.code) (shifted_ir tdi ds) ≡ map (λ device. device.code) ds
codes_ir tdi [] = refl
codes_ir tdi (d ∷ ds) = ap (λ rest. d.code ∷ rest) (codes_ir (lowest_or tdi d.ir_stage) ds)

dr_ir : (tdi : Bool) (ds : List DeviceState) → dr_stages (shifted_ir tdi ds) ≡ dr_stages ds
dr_ir tdi [] = refl
dr_ir tdi (d ∷ ds) = ap (λ rest. d.dr_stage ∷ rest) (dr_ir (lowest_or tdi d.ir_stage) ds)

ir_ir : (tdi : Bool) (ds : List DeviceState) (rs : List InstructionState) → stages_of rs ≡ ir_stages ds → stages_of (shifted_through (tdi ∷ []) rs) ≡ ir_stages (shifted_ir tdi ds)
ir_ir tdi [] [] same = refl
ir_ir tdi [] (r ∷ rs) same = absurd (let q : r.stage ∷ stages_of rs ≡ [] = same in cc)
ir_ir tdi (d ∷ ds) [] same = absurd (let q : [] ≡ d.ir_stage ∷ ir_stages ds = same in cc)
ir_ir tdi (d ∷ ds) (r ∷ rs) same =
    let first : r.stage ≡ d.ir_stage = cc in
    let rest : stages_of rs ≡ ir_stages ds = cc in
    let more = ir_ir (lowest_or tdi r.stage) ds rs rest ∙ ap (λ stage. ir_stages (shifted_ir (lowest_or tdi stage) ds)) first in
    λ i. shifted (first i) tdi ∷ more i

-- ---- the joined register

holds_same : (is_open : Bool) (register : Option (List Bool)) (ds now : List DeviceState) → dr_stages now ≡ dr_stages ds → HoldsStages is_open register ds → HoldsStages is_open register now
holds_same false register ds now same holds = ap joined same ∙ holds
holds_same true register ds now same holds = holds ∙ ap (λ stages. Some (joined stages)) (sym same)

holds_turned : (is_open : Bool) (register : Option BitList) (ds : List DeviceState) (tdi : Bool) → HoldsStages is_open (bits_shown register) ds → HoldsStages is_open (bits_shown (turned is_open (tdi ∷ []) register)) (shifted_dr tdi ds)
holds_turned false register ds tdi holds = joined-dr ds tdi ∙ ap (λ bits. shifted bits tdi) holds
holds_turned true None ds tdi holds = absurd (let q : None ≡ Some (joined (dr_stages ds)) = holds in cc)
holds_turned true (Some list) ds tdi holds =
    let same : list.bits ≡ joined (dr_stages ds) = cc in
    ap (λ bits. Some bits) (ap (λ bits. shifted bits tdi) same ∙ sym (joined-dr ds tdi))

-- devices whose data stages are empty
no_stages : {X : Type 0} (f : X → DeviceState) → ((x : X) → (f x).dr_stage ≡ []) → (xs : List X) → joined (dr_stages (map f xs)) ≡ []
no_stages f empty [] = refl
no_stages f empty (x ∷ xs) = λ i. no_stages f empty xs i ++ empty x i

-- the chain in the state that the view shows
chain_as : (chain : ChainState) (state : Tap) (is_open : Bool) → state ≡ chain.state → is_open ≡ chain.scan_open → record chain { state = state; scan_open = is_open } ≡ chain
chain_as chain state is_open state_is open_is = λ i. record chain { state = state_is i; scan_open = open_is i }

-- what is known of a chain that a view stands for
pub record Known (is_open tdo : Bool) (g : GroupInstructions) (register : Option BitList) (chain : ChainState) : Type 0 where
  pub parts : types_of chain ≡ parts_of g.registers
  pub tdo_is : tdo ≡ chain.tdo
  pub codes : g.codes ≡ code_list chain
  pub ir : stages_of g.registers ≡ ir_stages chain.devices
  pub holds : HoldsStages is_open (bits_shown register) chain.devices

pub known_of : (state : Tap) (tdo is_open : Bool) (g : GroupInstructions) (register : Option BitList) (chain : ChainState) → types_of chain ≡ parts_of g.registers → StandsFor (view_of state tdo is_open g register) chain → Known is_open tdo g register chain
known_of state tdo is_open g register chain parts s = record {
  parts = parts;
  tdo_is = s.tdo;
  codes = s.codes;
  ir = s.ir_stages;
  holds = subst (λ t. HoldsStages t (bits_shown register) chain.devices) (sym s.scan) s.register;
}

-- ---- the rising edge

risen_stands : (state : Tap) (tdo is_open : Bool) (g : GroupInstructions) (register : Option BitList) (chain : ChainState) (tms tdi : Bool) → is_capture_dr state ≡ false → Known is_open tdo g register chain
    → StandsFor (view_of (next state tms) tdo is_open (record g { registers = risen state tdi g.registers }) (risen_register state is_open tdi register)) (rise (record chain { state = state; scan_open = is_open }) tms tdi)
risen_stands CaptureDr tdo is_open g register chain tms tdi other k = never (sym other)
risen_stands ShiftDr tdo is_open g register chain tms tdi other k = record {
  state = refl;
  tdo = k.tdo_is;
  codes = k.codes ∙ sym (codes_dr tdi chain.devices);
  ir_stages = k.ir ∙ sym (ir_dr tdi chain.devices);
  scan = refl;
  register = holds_turned is_open register chain.devices tdi k.holds;
}
risen_stands CaptureIr tdo is_open g register chain tms tdi other k = record {
  state = refl;
  tdo = k.tdo_is;
  scan = refl;
  codes = k.codes ∙ sym (fuse (λ (device : DeviceState). device.code) capture_ir chain.devices);
  ir_stages =
      fuse (λ (register : InstructionState). register.stage) captured g.registers
      ∙ sym (by_parts (λ part. part.ir_captures) chain.devices g.registers k.parts)
      ∙ sym (fuse (λ (device : DeviceState). device.ir_stage) capture_ir chain.devices);
  register = holds_same is_open (bits_shown register) chain.devices (map capture_ir chain.devices) (fuse (λ (device : DeviceState). device.dr_stage) capture_ir chain.devices) k.holds;
}
risen_stands ShiftIr tdo is_open g register chain tms tdi other k = record {
  state = refl;
  tdo = k.tdo_is;
  scan = refl;
  codes = k.codes ∙ sym (codes_ir tdi chain.devices);
  ir_stages = ir_ir tdi chain.devices g.registers k.ir;
  register = holds_same is_open (bits_shown register) chain.devices (shifted_ir tdi chain.devices) (dr_ir tdi chain.devices) k.holds;
}
risen_stands _ tdo is_open g register chain tms tdi other k = record { state = refl; tdo = k.tdo_is; codes = k.codes; ir_stages = k.ir; scan = refl; register = k.holds }

pub moves_rise : (state : Tap) (tdo is_open : Bool) (g : GroupInstructions) (register : Option BitList) (tms tdi : Bool) → is_capture_dr state ≡ false
    → MovesAs (parts_of g.registers) (λ chain. rise chain tms tdi) (view_of state tdo is_open g register) (view_of (next state tms) tdo is_open (record g { registers = risen state tdi g.registers }) (risen_register state is_open tdi register))
moves_rise state tdo is_open g register tms tdi other chain parts s =
    subst (λ c. StandsFor (view_of (next state tms) tdo is_open (record g { registers = risen state tdi g.registers }) (risen_register state is_open tdi register)) (rise c tms tdi))
    (chain_as chain state is_open s.state s.scan)
    (risen_stands state tdo is_open g register chain tms tdi other (known_of state tdo is_open g register chain parts s))

-- ---- the falling edge

shown_dr : (is_open : Bool) (register : Option BitList) (ds : List DeviceState) → HoldsStages is_open (bits_shown register) ds → lowest_or true (data_stages is_open (bits_shown register)) ≡ lowest_or true (joined (dr_stages ds))
shown_dr false register ds holds = ap (lowest_or true) (sym holds)
shown_dr true register ds holds = ap (λ o. lowest_or true (unwrap_or o [])) holds

fallen_stands : (state : Tap) (tdo is_open : Bool) (g : GroupInstructions) (register : Option BitList) (chain : ChainState) → ends_scan state is_open ≡ false → Known is_open tdo g register chain
    → StandsFor (view_of state (tdo_shown state is_open (bits_shown register) (stages_of g.registers)) is_open (record g { codes = fallen_codes state g.registers g.codes }) register) (fall (record chain { state = state; scan_open = is_open }))
fallen_stands UpdateDr tdo true g register chain stays k = never (sym stays)
fallen_stands UpdateDr tdo false g register chain stays k = record { state = refl; tdo = refl; codes = k.codes; ir_stages = k.ir; scan = refl; register = k.holds }
fallen_stands UpdateIr tdo is_open g register chain stays k = record {
  state = refl;
  tdo = refl;
  scan = refl;
  codes = k.ir ∙ sym (fuse (λ (device : DeviceState). device.code) update_ir chain.devices);
  ir_stages = k.ir ∙ sym (fuse (λ (device : DeviceState). device.ir_stage) update_ir chain.devices);
  register = holds_same is_open (bits_shown register) chain.devices (map update_ir chain.devices) (fuse (λ (device : DeviceState). device.dr_stage) update_ir chain.devices) k.holds;
}
fallen_stands TestLogicReset tdo is_open g register chain stays k = record {
  state = refl;
  tdo = refl;
  scan = refl;
  codes = sym (by_parts (λ part. part.reset_code) chain.devices g.registers k.parts) ∙ sym (fuse (λ (device : DeviceState). device.code) reset_code chain.devices);
  ir_stages = k.ir ∙ sym (fuse (λ (device : DeviceState). device.ir_stage) reset_code chain.devices);
  register = holds_same is_open (bits_shown register) chain.devices (map reset_code chain.devices) (fuse (λ (device : DeviceState). device.dr_stage) reset_code chain.devices) k.holds;
}
fallen_stands ShiftDr tdo is_open g register chain stays k = record { state = refl; tdo = shown_dr is_open register chain.devices k.holds; codes = k.codes; ir_stages = k.ir; scan = refl; register = k.holds }
fallen_stands ShiftIr tdo is_open g register chain stays k = record {
  state = refl;
  tdo = ap (λ stages. lowest_or true (joined stages)) k.ir;
  codes = k.codes;
  ir_stages = k.ir;
  scan = refl;
  register = k.holds;
}
fallen_stands _ tdo is_open g register chain stays k = record { state = refl; tdo = refl; codes = k.codes; ir_stages = k.ir; scan = refl; register = k.holds }

pub moves_fall : (state : Tap) (tdo is_open : Bool) (g : GroupInstructions) (register : Option BitList) → ends_scan state is_open ≡ false
    → MovesAs (parts_of g.registers) fall (view_of state tdo is_open g register) (view_of state (tdo_shown state is_open (bits_shown register) (stages_of g.registers)) is_open (record g { codes = fallen_codes state g.registers g.codes }) register)
moves_fall state tdo is_open g register stays chain parts s =
    subst (λ c. StandsFor (view_of state (tdo_shown state is_open (bits_shown register) (stages_of g.registers)) is_open (record g { codes = fallen_codes state g.registers g.codes }) register) (fall c))
    (chain_as chain state is_open s.state s.scan)
    (fallen_stands state tdo is_open g register chain stays (known_of state tdo is_open g register chain parts s))

-- where it ends the scan
closed_stands : (state : Tap) (tdo is_open : Bool) (g : GroupInstructions) (register : Option BitList) (chain : ChainState) → ends_scan state is_open ≡ true → Known is_open tdo g register chain
    → StandsFor (closed_view (view_of state (tdo_shown state is_open (bits_shown register) (stages_of g.registers)) is_open (record g { codes = fallen_codes state g.registers g.codes }) register)) (fall (record chain { state = state; scan_open = is_open }))
closed_stands UpdateDr tdo false g register chain ends k = never ends
closed_stands UpdateDr tdo true g register chain ends k = record {
  state = refl;
  tdo = refl;
  scan = refl;
  register = no_stages update_device (λ device. refl) chain.devices;
  codes = k.codes ∙ sym (fuse (λ (device : DeviceState). device.code) update_device chain.devices);
  ir_stages = k.ir ∙ sym (fuse (λ (device : DeviceState). device.ir_stage) update_device chain.devices);
}
closed_stands _ tdo is_open g register chain ends k = never ends

pub closes_fall : (state : Tap) (tdo is_open : Bool) (g : GroupInstructions) (register : Option BitList) → ends_scan state is_open ≡ true
    → MovesAs (parts_of g.registers) fall (view_of state tdo is_open g register) (closed_view (view_of state (tdo_shown state is_open (bits_shown register) (stages_of g.registers)) is_open (record g { codes = fallen_codes state g.registers g.codes }) register))
closes_fall state tdo is_open g register ends chain parts s =
    subst (λ c. StandsFor (closed_view (view_of state (tdo_shown state is_open (bits_shown register) (stages_of g.registers)) is_open (record g { codes = fallen_codes state g.registers g.codes }) register)) (fall c))
    (chain_as chain state is_open s.state s.scan)
    (closed_stands state tdo is_open g register chain ends (known_of state tdo is_open g register chain parts s))

-- ---- a reset by TRST

pub moves_reset : (state : Tap) (tdo is_open : Bool) (g : GroupInstructions) (register : Option BitList) → is_open ≡ false
    → MovesAs (parts_of g.registers) reset (view_of state tdo is_open g register) (view_of TestLogicReset true is_open (record { registers = map cleared g.registers; codes = reset_codes_of g.registers }) register)
moves_reset state tdo is_open g register shut chain parts s = record {
  state = refl;
  tdo = refl;
  scan = shut;
  register = no_stages reset_device (λ device. refl) chain.devices;
  codes = sym (by_parts (λ part. part.reset_code) chain.devices g.registers parts) ∙ sym (fuse (λ (device : DeviceState). device.code) reset_device chain.devices);
  ir_stages =
      fuse (λ (register : InstructionState). register.stage) cleared g.registers
      ∙ sym (by_parts (λ part. replicate part.ir_length false) chain.devices g.registers parts)
      ∙ sym (fuse (λ (device : DeviceState). device.ir_stage) reset_device chain.devices);
}

-- ---- power-up

pub parts_powered : (parts : List DeviceType) → parts_of (map at_power_up parts) ≡ parts
parts_powered [] = refl
parts_powered (part ∷ parts) = ap (λ rest. part ∷ rest) (parts_powered parts)

pub stands_powered : (boards : List Placed) (nets : List Net) (register : List Bool) → StandsFor (record {
  state = TestLogicReset;
  tdo = true;
  codes = reset_codes_of (map at_power_up (map (λ board. board.part) boards));
  ir_stages = stages_of (map at_power_up (map (λ board. board.part) boards));
  scan_open = false;
  register = Some register;
}) (powered boards nets)
stands_powered boards nets register = record {
  state = refl;
  tdo = refl;
  scan = refl;
  register = no_stages powered_device (λ board. refl) boards;
  codes =
      fuse (λ (register : InstructionState). register.part.reset_code) at_power_up (map (λ board. board.part) boards)
      ∙ fuse (λ (part : DeviceType). part.reset_code) (λ (board : Placed). board.part) boards
      ∙ sym (fuse (λ (device : DeviceState). device.code) powered_device boards);
  ir_stages =
      fuse (λ (register : InstructionState). register.stage) at_power_up (map (λ board. board.part) boards)
      ∙ fuse (λ (part : DeviceType). replicate part.ir_length false) (λ (board : Placed). board.part) boards
      ∙ sym (fuse (λ (device : DeviceState). device.ir_stage) powered_device boards);
}

pub stands_new : (g : GroupInstructions) (boards : List Placed) (nets : List Net) (register : List Bool) → g.registers ≡ map at_power_up (map (λ board. board.part) boards) → g.codes ≡ reset_codes_of g.registers
    → StandsFor (record { state = TestLogicReset; tdo = true; codes = g.codes; ir_stages = stages_of g.registers; scan_open = false; register = Some register }) (powered boards nets)
stands_new g boards nets register registers codes =
    let s = stands_powered boards nets register in
    record { state = refl; tdo = refl; scan = refl; register = s.register; codes = codes ∙ ap reset_codes_of registers ∙ s.codes; ir_stages = ap stages_of registers ∙ s.ir_stages }
