-- A capture and an update see of a device its type, its code, what it holds, and (an update) its data stage: chains that agree there do alike.
use Rattle.std.proofs.Common.{◌≡◌, ℕ, suc, ◌-◌, Bool, false, List, [], ◌∷◌, map, length, refl, ap, sym, ◌∙◌, arith, Some, None, slice_get}
use Rattle.std.specs.declared.option.Option.{Option}
use Rattle.std.specs.Option.{option_map}
use Rattle.std.proofs.lemmas.Option.{slice_get-map}
use Rattle.tap_states.specs.declared.Tap.TheVariants.{TestLogicReset}
use Rattle.part_model.specs.declared.Net.{Net}
use Rattle.part_model.specs.Parts.{Register, selected, width}
use Rattle.part_model.specs.Parts.Register.{Bypass, Boundary, Idcode, Usercode, Named}
use Rattle.chain_model.specs.Chains.{ChainState, DeviceState, driven_by, pin_by, net_to, pin_values, captured_by}
use Rattle.chain_model.specs.Cycles.{capture_device, captured_from, update_device, dr_stages}
use Rattle.scan_share.specs.Scans.{with_codes, with_stages, widths_of}

-- ---- a capture

-- a device without its shift stages
abbrev bare : DeviceState → DeviceState
bare device = record device { ir_stage = []; dr_stage = [] }

-- a chain of which nothing is left but its devices without their shift stages, and its nets
abbrev bare_chain : List DeviceState → List Net → ChainState
bare_chain devices nets = record { state = TestLogicReset; tdo = false; scan_open = false; devices = map bare devices; nets = nets; made = 0; asked = 0 }

driven_bare : (source : Option DeviceState) (cell : ℕ) (pin : Bool) → driven_by source cell pin ≡ driven_by (option_map bare source) cell pin
driven_bare None cell pin = refl
driven_bare (Some device) cell pin = refl

pin_bare : (devices : List DeviceState) (net : Option Net) (pin : Bool) → pin_by devices net pin ≡ pin_by (map bare devices) net pin
pin_bare devices None pin = refl
pin_bare devices (Some net) pin =
    driven_bare (slice_get devices (net.from_device - 1)) net.from_cell pin
    ∙ ap (λ source. driven_by source net.from_cell pin) (sym (slice_get-map bare devices (net.from_device - 1)))

pins_bare : (chain : ChainState) (place cell : ℕ) (pins : List Bool) → pin_values chain place cell pins ≡ pin_values (bare_chain chain.devices chain.nets) place cell pins
pins_bare chain place cell [] = refl
pins_bare chain place cell (pin ∷ pins) = λ i. pin_bare chain.devices (net_to chain.nets place cell) pin i ∷ pins_bare chain place (suc cell) pins i

captured_bare : (chain : ChainState) (place : ℕ) (device : DeviceState) (register : Register) → captured_by chain place device register ≡ captured_by (bare_chain chain.devices chain.nets) place (bare device) register
captured_bare chain place device Bypass = refl
captured_bare chain place device Boundary = pins_bare chain place 0 device.content.pins
captured_bare chain place device Idcode = refl
captured_bare chain place device Usercode = refl
captured_bare chain place device (Named at) = refl

stages_bare : (chain : ChainState) (place : ℕ) (devices : List DeviceState) → dr_stages (captured_from chain place devices) ≡ dr_stages (captured_from (bare_chain chain.devices chain.nets) place (map bare devices))
stages_bare chain place [] = refl
stages_bare chain place (device ∷ devices) = λ i. captured_bare chain place device (selected device.part device.code) i ∷ stages_bare chain (suc place) devices i

contents_bare : (chain other : ChainState) (place : ℕ) (devices : List DeviceState) → map (λ d. d.content) (captured_from chain place devices) ≡ map (λ d. d.content) (captured_from other place (map bare devices))
contents_bare chain other place [] = refl
contents_bare chain other place (device ∷ devices) = ap (λ rest. (capture_device chain place device).content ∷ rest) (contents_bare chain other (suc place) devices)

-- two chains agree on the nets, and each device on its type, its code and what it holds
pub record Agree (one other : ChainState) : Type 0 where
  pub nets : one.nets ≡ other.nets
  pub parts : map (λ d. d.part) one.devices ≡ map (λ d. d.part) other.devices
  pub codes : map (λ d. d.code) one.devices ≡ map (λ d. d.code) other.devices
  pub contents : map (λ d. d.content) one.devices ≡ map (λ d. d.content) other.devices

same_bare : (ds es : List DeviceState) → map (λ d. d.part) ds ≡ map (λ d. d.part) es → map (λ d. d.code) ds ≡ map (λ d. d.code) es → map (λ d. d.content) ds ≡ map (λ d. d.content) es → map bare ds ≡ map bare es
same_bare [] [] p c h = refl
same_bare [] (e ∷ es) p c h = absurd (omega (arith, ap length p))
same_bare (d ∷ ds) [] p c h = absurd (omega (arith, ap length p))
same_bare (d ∷ ds) (e ∷ es) p c h =
    let part : d.part ≡ e.part = cc in
    let code : d.code ≡ e.code = cc in
    let content : d.content ≡ e.content = cc in
    let parts : map (λ d. d.part) ds ≡ map (λ d. d.part) es = cc in
    let codes : map (λ d. d.code) ds ≡ map (λ d. d.code) es = cc in
    let contents : map (λ d. d.content) ds ≡ map (λ d. d.content) es = cc in
    let first : bare d ≡ bare e = λ i. record { part = part i; code = code i; ir_stage = []; dr_stage = []; content = content i } in
    λ i. first i ∷ same_bare ds es parts codes contents i

bare_same : (one other : ChainState) → Agree one other → bare_chain one.devices one.nets ≡ bare_chain other.devices other.nets
bare_same one other a = let devices = same_bare one.devices other.devices a.parts a.codes a.contents in
    λ i. record { state = TestLogicReset; tdo = false; scan_open = false; devices = devices i; nets = a.nets i; made = 0; asked = 0 }

pub capture_stages : (one other : ChainState) → Agree one other → dr_stages (captured_from one 0 one.devices) ≡ dr_stages (captured_from other 0 other.devices)
capture_stages one other a =
    stages_bare one 0 one.devices
    ∙ (λ i. dr_stages (captured_from (bare_same one other a i) 0 (same_bare one.devices other.devices a.parts a.codes a.contents i)))
    ∙ sym (stages_bare other 0 other.devices)

pub capture_contents : (one other : ChainState) → Agree one other → map (λ d. d.content) (captured_from one 0 one.devices) ≡ map (λ d. d.content) (captured_from other 0 other.devices)
capture_contents one other a =
    contents_bare one one 0 one.devices
    ∙ ap (λ ds. map (λ d. d.content) (captured_from one 0 ds)) (same_bare one.devices other.devices a.parts a.codes a.contents)
    ∙ sym (contents_bare other one 0 other.devices)

-- ---- an update

pub update_contents : (ds es : List DeviceState) → map (λ d. d.part) ds ≡ map (λ d. d.part) es → map (λ d. d.code) ds ≡ map (λ d. d.code) es → dr_stages ds ≡ dr_stages es → map (λ d. d.content) ds ≡ map (λ d. d.content) es
    → map (λ d. d.content) (map update_device ds) ≡ map (λ d. d.content) (map update_device es)
update_contents [] [] p c s h = refl
update_contents [] (e ∷ es) p c s h = absurd (omega (arith, ap length p))
update_contents (d ∷ ds) [] p c s h = absurd (omega (arith, ap length p))
update_contents (d ∷ ds) (e ∷ es) p c s h =
    let part : d.part ≡ e.part = cc in
    let code : d.code ≡ e.code = cc in
    let stage : d.dr_stage ≡ e.dr_stage = cc in
    let content : d.content ≡ e.content = cc in
    let parts : map (λ d. d.part) ds ≡ map (λ d. d.part) es = cc in
    let codes : map (λ d. d.code) ds ≡ map (λ d. d.code) es = cc in
    let stages : dr_stages ds ≡ dr_stages es = cc in
    let contents : map (λ d. d.content) ds ≡ map (λ d. d.content) es = cc in
    let first : (update_device d).content ≡ (update_device e).content = λ i. (update_device (record { part = part i; code = code i; ir_stage = []; dr_stage = stage i; content = content i })).content in
    λ i. first i ∷ update_contents ds es parts codes stages contents i

-- ---- devices with other codes or stages

pub coded_parts : (ds : List DeviceState) (codes : List (List Bool)) → map (λ d. d.part) (with_codes ds codes) ≡ map (λ d. d.part) ds
coded_parts [] codes = refl
coded_parts (d ∷ ds) [] = refl
coded_parts (d ∷ ds) (code ∷ codes) = ap (λ rest. d.part ∷ rest) (coded_parts ds codes)

pub coded_contents : (ds : List DeviceState) (codes : List (List Bool)) → map (λ d. d.content) (with_codes ds codes) ≡ map (λ d. d.content) ds
coded_contents [] codes = refl
coded_contents (d ∷ ds) [] = refl
coded_contents (d ∷ ds) (code ∷ codes) = ap (λ rest. d.content ∷ rest) (coded_contents ds codes)

pub coded_codes : (ds : List DeviceState) (codes : List (List Bool)) → length codes ≡ length ds → map (λ d. d.code) (with_codes ds codes) ≡ codes
coded_codes [] [] size = refl
coded_codes [] (code ∷ codes) size = absurd (omega (arith, size))
coded_codes (d ∷ ds) [] size = absurd (omega (arith, size))
coded_codes (d ∷ ds) (code ∷ codes) size = ap (λ rest. code ∷ rest) (coded_codes ds codes (omega (arith, size)))

pub staged_stages : (ds : List DeviceState) (stages : List (List Bool)) → length stages ≡ length ds → dr_stages (with_stages ds stages) ≡ stages
staged_stages [] [] size = refl
staged_stages [] (stage ∷ stages) size = absurd (omega (arith, size))
staged_stages (d ∷ ds) [] size = absurd (omega (arith, size))
staged_stages (d ∷ ds) (stage ∷ stages) size = ap (λ rest. stage ∷ rest) (staged_stages ds stages (omega (arith, size)))

pub widths_same : (ds es : List DeviceState) → map (λ d. d.part) ds ≡ map (λ d. d.part) es → map (λ d. d.code) ds ≡ map (λ d. d.code) es → widths_of ds ≡ widths_of es
widths_same [] [] p c = refl
widths_same [] (e ∷ es) p c = absurd (omega (arith, ap length p))
widths_same (d ∷ ds) [] p c = absurd (omega (arith, ap length p))
widths_same (d ∷ ds) (e ∷ es) p c =
    let part : d.part ≡ e.part = cc in
    let code : d.code ≡ e.code = cc in
    let parts : map (λ d. d.part) ds ≡ map (λ d. d.part) es = cc in
    let codes : map (λ d. d.code) ds ≡ map (λ d. d.code) es = cc in
    λ i. width (part i) (code i) ∷ widths_same ds es parts codes i
