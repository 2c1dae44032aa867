-- Edges of TCK that capture and update nothing leave what the devices hold; and while a scan is open they leave the codes in force.
use Rattle.std.proofs.Common.{◌≡◌, Bool, true, false, cond, List, [], ◌∷◌, map, refl, ap, sym, ◌∙◌}
use Rattle.tap_states.specs.declared.Tap.{Tap}
use Rattle.tap_states.specs.declared.Tap.TheVariants.{TestLogicReset, RunTestIdle, SelectDr, CaptureDr, ShiftDr, Exit1Dr, PauseDr, Exit2Dr, UpdateDr, SelectIr, CaptureIr, ShiftIr, Exit1Ir, PauseIr, Exit2Ir, UpdateIr}
use Rattle.tap_states.specs.States.{is_capture_dr}
use Rattle.scan_bits.specs.Registers.{lowest_or}
use Rattle.chain_model.specs.Chains.{ChainState, DeviceState, reset, reset_device}
use Rattle.chain_model.specs.Cycles.{rise, fall, on_rise, on_fall, shifted_dr, shifted_ir, capture_ir, update_ir, reset_code, captured_from, update_device}
use Rattle.scan_share.specs.Scans.{contents_of, code_list, types_of}
use Rattle.scan_share.specs.Timing.{may_scan, IsTimed}

never : {A : Type 0} → false ≡ true → A
never e = absurd (let q : false ≡ true = e in cc)

-- something of each device
abbrev each : {X : Type 0} → (DeviceState → X) → List DeviceState → List X
each of devices = map of devices

shifted_dr_contents : (tdi : Bool) (ds : List DeviceState) → each (λ d. d.content) (shifted_dr tdi ds) ≡ each (λ d. d.content) ds
shifted_dr_contents tdi [] = refl
shifted_dr_contents tdi (d ∷ ds) = ap (λ rest. d.content ∷ rest) (shifted_dr_contents (lowest_or tdi d.dr_stage) ds)

shifted_dr_codes : (tdi : Bool) (ds : List DeviceState) → each (λ d. d.code) (shifted_dr tdi ds) ≡ each (λ d. d.code) ds
shifted_dr_codes tdi [] = refl
shifted_dr_codes tdi (d ∷ ds) = ap (λ rest. d.code ∷ rest) (shifted_dr_codes (lowest_or tdi d.dr_stage) ds)

shifted_ir_contents : (tdi : Bool) (ds : List DeviceState) → each (λ d. d.content) (shifted_ir tdi ds) ≡ each (λ d. d.content) ds
shifted_ir_contents tdi [] = refl
shifted_ir_contents tdi (d ∷ ds) = ap (λ rest. d.content ∷ rest) (shifted_ir_contents (lowest_or tdi d.ir_stage) ds)

shifted_ir_codes : (tdi : Bool) (ds : List DeviceState) → each (λ d. d.code) (shifted_ir tdi ds) ≡ each (λ d. d.code) ds
shifted_ir_codes tdi [] = refl
shifted_ir_codes tdi (d ∷ ds) = ap (λ rest. d.code ∷ rest) (shifted_ir_codes (lowest_or tdi d.ir_stage) ds)

-- an act on each device that leaves something of it
pub each_kept : {X : Type 0} (of : DeviceState → X) (act : DeviceState → DeviceState) → ((d : DeviceState) → of (act d) ≡ of d) → (ds : List DeviceState) → each of (map act ds) ≡ each of ds
each_kept of act kept [] = refl
each_kept of act kept (d ∷ ds) = λ i. kept d i ∷ each_kept of act kept ds i

captured_codes : (chain : ChainState) (place : _) (ds : List DeviceState) → each (λ d. d.code) (captured_from chain place ds) ≡ each (λ d. d.code) ds
captured_codes chain place [] = refl
captured_codes chain place (d ∷ ds) = ap (λ rest. d.code ∷ rest) (captured_codes chain _ ds)

pub rise_contents : (chain : ChainState) (tms tdi : Bool) → is_capture_dr chain.state ≡ false → contents_of (rise chain tms tdi) ≡ contents_of chain
rise_contents chain tms tdi h = at chain.state h
  where
    at : (t : Tap) → is_capture_dr t ≡ false → contents_of (on_rise t chain tdi) ≡ contents_of chain
    at CaptureDr k = never (sym k)
    at ShiftDr k = shifted_dr_contents tdi chain.devices
    at CaptureIr k = each_kept (λ d. d.content) capture_ir (λ d. refl) chain.devices
    at ShiftIr k = shifted_ir_contents tdi chain.devices
    at TestLogicReset k = refl
    at RunTestIdle k = refl
    at SelectDr k = refl
    at Exit1Dr k = refl
    at PauseDr k = refl
    at Exit2Dr k = refl
    at UpdateDr k = refl
    at SelectIr k = refl
    at Exit1Ir k = refl
    at PauseIr k = refl
    at Exit2Ir k = refl
    at UpdateIr k = refl

pub rise_codes : (chain : ChainState) (tms tdi : Bool) → code_list (rise chain tms tdi) ≡ code_list chain
rise_codes chain tms tdi = at chain.state
  where
    at : (t : Tap) → code_list (on_rise t chain tdi) ≡ code_list chain
    at CaptureDr = captured_codes chain 0 chain.devices
    at ShiftDr = shifted_dr_codes tdi chain.devices
    at CaptureIr = each_kept (λ d. d.code) capture_ir (λ d. refl) chain.devices
    at ShiftIr = shifted_ir_codes tdi chain.devices
    at TestLogicReset = refl
    at RunTestIdle = refl
    at SelectDr = refl
    at Exit1Dr = refl
    at PauseDr = refl
    at Exit2Dr = refl
    at UpdateDr = refl
    at SelectIr = refl
    at Exit1Ir = refl
    at PauseIr = refl
    at Exit2Ir = refl
    at UpdateIr = refl

-- a rise that does not capture leaves whether a scan is open
pub rise_scan : (chain : ChainState) (tms tdi : Bool) → is_capture_dr chain.state ≡ false → (rise chain tms tdi).scan_open ≡ chain.scan_open
rise_scan chain tms tdi h = at chain.state h
  where
    at : (t : Tap) → is_capture_dr t ≡ false → (on_rise t chain tdi).scan_open ≡ chain.scan_open
    at CaptureDr k = never (sym k)
    at ShiftDr k = refl
    at CaptureIr k = refl
    at ShiftIr k = refl
    at TestLogicReset k = refl
    at RunTestIdle k = refl
    at SelectDr k = refl
    at Exit1Dr k = refl
    at PauseDr k = refl
    at Exit2Dr k = refl
    at UpdateDr k = refl
    at SelectIr k = refl
    at Exit1Ir k = refl
    at PauseIr k = refl
    at Exit2Ir k = refl
    at UpdateIr k = refl

-- a fall that ends no scan
pub fall_contents : (chain : ChainState) → (fall chain).scan_open ≡ chain.scan_open → contents_of (fall chain) ≡ contents_of chain
fall_contents chain h = at chain.state h
  where
    by_scan : (b : Bool) → chain.scan_open ≡ b → (on_fall UpdateDr chain).scan_open ≡ chain.scan_open → contents_of (on_fall UpdateDr chain) ≡ contents_of chain
    by_scan true e k = never (sym (rw e refl) ∙ k ∙ e)
    by_scan false e k = rw e refl

    at : (t : Tap) → (on_fall t chain).scan_open ≡ chain.scan_open → contents_of (on_fall t chain) ≡ contents_of chain
    at UpdateDr k = by_scan chain.scan_open refl k
    at UpdateIr k = each_kept (λ d. d.content) update_ir (λ d. refl) chain.devices
    at TestLogicReset k = each_kept (λ d. d.content) reset_code (λ d. refl) chain.devices
    at CaptureDr k = refl
    at ShiftDr k = refl
    at CaptureIr k = refl
    at ShiftIr k = refl
    at RunTestIdle k = refl
    at SelectDr k = refl
    at Exit1Dr k = refl
    at PauseDr k = refl
    at Exit2Dr k = refl
    at SelectIr k = refl
    at Exit1Ir k = refl
    at PauseIr k = refl
    at Exit2Ir k = refl

-- a fall that leaves a scan open, which is in the states of one
pub fall_codes : (tck : Bool) (chain : ChainState) → IsTimed tck chain → chain.scan_open ≡ true → (fall chain).scan_open ≡ chain.scan_open → code_list (fall chain) ≡ code_list chain
fall_codes tck chain timed is_open h = at chain.state (timed is_open) h
  where
    by_scan : (b : Bool) → chain.scan_open ≡ b → (on_fall UpdateDr chain).scan_open ≡ chain.scan_open → code_list (on_fall UpdateDr chain) ≡ code_list chain
    by_scan true e k = never (sym (rw e refl) ∙ k ∙ e)
    by_scan false e k = rw e refl

    at : (t : Tap) → may_scan tck t ≡ true → (on_fall t chain).scan_open ≡ chain.scan_open → code_list (on_fall t chain) ≡ code_list chain
    at UpdateDr m k = by_scan chain.scan_open refl k
    at UpdateIr m k = never m
    at TestLogicReset m k = never m
    at CaptureDr m k = refl
    at ShiftDr m k = refl
    at CaptureIr m k = refl
    at ShiftIr m k = refl
    at RunTestIdle m k = refl
    at SelectDr m k = refl
    at Exit1Dr m k = refl
    at PauseDr m k = refl
    at Exit2Dr m k = refl
    at SelectIr m k = refl
    at Exit1Ir m k = refl
    at PauseIr m k = refl
    at Exit2Ir m k = refl

-- ---- the device types

shifted_dr_types : (tdi : Bool) (ds : List DeviceState) → each (λ d. d.part) (shifted_dr tdi ds) ≡ each (λ d. d.part) ds
shifted_dr_types tdi [] = refl
shifted_dr_types tdi (d ∷ ds) = ap (λ rest. d.part ∷ rest) (shifted_dr_types (lowest_or tdi d.dr_stage) ds)

shifted_ir_types : (tdi : Bool) (ds : List DeviceState) → each (λ d. d.part) (shifted_ir tdi ds) ≡ each (λ d. d.part) ds
shifted_ir_types tdi [] = refl
shifted_ir_types tdi (d ∷ ds) = ap (λ rest. d.part ∷ rest) (shifted_ir_types (lowest_or tdi d.ir_stage) ds)

captured_types : (chain : ChainState) (place : _) (ds : List DeviceState) → each (λ d. d.part) (captured_from chain place ds) ≡ each (λ d. d.part) ds
captured_types chain place [] = refl
captured_types chain place (d ∷ ds) = ap (λ rest. d.part ∷ rest) (captured_types chain _ ds)

pub rise_types : (chain : ChainState) (tms tdi : Bool) → types_of (rise chain tms tdi) ≡ types_of chain
rise_types chain tms tdi = at chain.state
  where
    at : (t : Tap) → types_of (on_rise t chain tdi) ≡ types_of chain
    at CaptureDr = captured_types chain 0 chain.devices
    at ShiftDr = shifted_dr_types tdi chain.devices
    at CaptureIr = each_kept (λ d. d.part) capture_ir (λ d. refl) chain.devices
    at ShiftIr = shifted_ir_types tdi chain.devices
    at TestLogicReset = refl
    at RunTestIdle = refl
    at SelectDr = refl
    at Exit1Dr = refl
    at PauseDr = refl
    at Exit2Dr = refl
    at UpdateDr = refl
    at SelectIr = refl
    at Exit1Ir = refl
    at PauseIr = refl
    at Exit2Ir = refl
    at UpdateIr = refl

updated_types : (b : Bool) (chain : ChainState) → types_of (cond b (record chain { scan_open = false; devices = map update_device chain.devices }) chain) ≡ types_of chain
updated_types true chain = each_kept (λ d. d.part) update_device (λ d. refl) chain.devices
updated_types false chain = refl

pub fall_types : (chain : ChainState) → types_of (fall chain) ≡ types_of chain
fall_types chain = at chain.state
  where
    at : (t : Tap) → types_of (on_fall t chain) ≡ types_of chain
    at UpdateDr = updated_types chain.scan_open chain
    at UpdateIr = each_kept (λ d. d.part) update_ir (λ d. refl) chain.devices
    at TestLogicReset = each_kept (λ d. d.part) reset_code (λ d. refl) chain.devices
    at CaptureDr = refl
    at ShiftDr = refl
    at CaptureIr = refl
    at ShiftIr = refl
    at RunTestIdle = refl
    at SelectDr = refl
    at Exit1Dr = refl
    at PauseDr = refl
    at Exit2Dr = refl
    at SelectIr = refl
    at Exit1Ir = refl
    at PauseIr = refl
    at Exit2Ir = refl

pub reset_types : (chain : ChainState) → types_of (reset chain) ≡ types_of chain
reset_types chain = each_kept (λ d. d.part) reset_device (λ d. refl) chain.devices
