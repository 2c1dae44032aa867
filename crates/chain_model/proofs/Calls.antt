-- Calls in a row: the counts of cycles and calls change nothing else.
use Rattle.std.proofs.Common.{◌≡◌, ℕ, suc, ◌+◌, Bool, true, false, List, [], ◌∷◌, ◌++◌, map, length, refl, sym, ◌∙◌, ap, arith, length-append, if◌then◌else◌}
use Rattle.tap_states.specs.declared.Tap.{Tap}
use Rattle.tap_states.specs.declared.Tap.TheVariants.{CaptureDr, UpdateDr}
use Rattle.part_model.specs.Parts.{Register, selected}
use Rattle.part_model.specs.Parts.Register.{Boundary}
use Rattle.base_types.specs.Counts.{raised}
use Rattle.chain_model.specs.Chains.{ChainState, DeviceState, pin_values, pin_by, net_to, captured_by}
use Rattle.chain_model.specs.Cycles.{Clock, captured_from, capture_device, counted, update_device, on_rise, on_fall, rise, fall, cycle, after_cycles, after_calls, after_call, answers}
use Rattle.chain_model.proofs.Rows.{after_cycles-append, answers-append}
use Rattle.chain_model.proofs.EdgeKeeps.{kept_cycles}

-- a chain with other counts
abbrev pub counted_as : ℕ → ℕ → ChainState → ChainState
counted_as made asked chain = record chain { made = made; asked = asked }

pin_values-counted : (made asked : ℕ) (chain : ChainState) (place cell : ℕ) (pins : List Bool) → pin_values (counted_as made asked chain) place cell pins ≡ pin_values chain place cell pins
pin_values-counted made asked chain place cell [] = refl
pin_values-counted made asked chain place cell (pin ∷ pins) =
    ap (λ (rest : List Bool). pin_by chain.devices (net_to chain.nets place cell) pin ∷ rest) (pin_values-counted made asked chain place (suc cell) pins)

captured_by-counted : (made asked : ℕ) (chain : ChainState) (place : ℕ) (device : DeviceState) (register : Register) → captured_by (counted_as made asked chain) place device register ≡ captured_by chain place device register
captured_by-counted made asked chain place device Boundary = pin_values-counted made asked chain place 0 device.content.pins
captured_by-counted made asked chain place device _ = refl

captured_from-counted : (made asked : ℕ) (chain : ChainState) (place : ℕ) (devices : List DeviceState) → captured_from (counted_as made asked chain) place devices ≡ captured_from chain place devices
captured_from-counted made asked chain place [] = refl
captured_from-counted made asked chain place (device ∷ devices) =
    λ i. record device {
      dr_stage = captured_by-counted made asked chain place device (selected device.part device.code) i;
      content = record device.content { captures = counted (selected device.part device.code) device.content.captures };
    } ∷ captured_from-counted made asked chain (suc place) devices i

on_rise-counted : (made asked : ℕ) (state : Tap) (chain : ChainState) (tdi : Bool) → on_rise state (counted_as made asked chain) tdi ≡ counted_as made asked (on_rise state chain tdi)
on_rise-counted made asked CaptureDr chain tdi =
    ap (λ (devices : List DeviceState). record chain { scan_open = true; devices = devices; made = made; asked = asked }) (captured_from-counted made asked chain 0 chain.devices)
on_rise-counted made asked _ chain tdi = refl

updated-counted : (is_open : Bool) (made asked : ℕ) (chain : ChainState)
    → (if is_open then record chain { scan_open = false; devices = map update_device chain.devices; made = made; asked = asked } else counted_as made asked chain)
    ≡ counted_as made asked (if is_open then record chain { scan_open = false; devices = map update_device chain.devices } else chain)
updated-counted true made asked chain = refl
updated-counted false made asked chain = refl

on_fall-counted : (made asked : ℕ) (state : Tap) (chain : ChainState) → on_fall state (counted_as made asked chain) ≡ counted_as made asked (on_fall state chain)
on_fall-counted made asked UpdateDr chain = updated-counted chain.scan_open made asked chain
on_fall-counted made asked _ chain = refl

rise-counted : (made asked : ℕ) (chain : ChainState) (tms tdi : Bool) → rise (counted_as made asked chain) tms tdi ≡ counted_as made asked (rise chain tms tdi)
rise-counted made asked chain tms tdi = λ i. record (on_rise-counted made asked chain.state chain tdi i) { state = (rise chain tms tdi).state }

fall-counted : (made asked : ℕ) (chain : ChainState) → fall (counted_as made asked chain) ≡ counted_as made asked (fall chain)
fall-counted made asked chain = ap (λ (fallen : ChainState). Rattle.chain_model.specs.Cycles.with_tdo fallen) (on_fall-counted made asked chain.state chain)

cycle-counted : (made asked : ℕ) (chain : ChainState) (clock : Clock) → cycle (counted_as made asked chain) clock ≡ counted_as made asked (cycle chain clock)
cycle-counted made asked chain clock = ap fall (rise-counted made asked chain clock.tms clock.tdi) ∙ fall-counted made asked (rise chain clock.tms clock.tdi)

after_cycles-counted : (made asked : ℕ) (clocks : List Clock) (chain : ChainState) → after_cycles clocks (counted_as made asked chain) ≡ counted_as made asked (after_cycles clocks chain)
after_cycles-counted made asked [] chain = refl
after_cycles-counted made asked (clock ∷ clocks) chain = ap (after_cycles clocks) (cycle-counted made asked chain clock) ∙ after_cycles-counted made asked clocks (cycle chain clock)

answers-counted : (made asked : ℕ) (clocks : List Clock) (chain : ChainState) → answers clocks (counted_as made asked chain) ≡ answers clocks chain
answers-counted made asked [] chain = refl
answers-counted made asked (clock ∷ clocks) chain =
    ap (λ (rest : List Bool). chain.tdo ∷ rest) (ap (answers clocks) (cycle-counted made asked chain clock) ∙ answers-counted made asked clocks (cycle chain clock))

raised-raised : (count first second : ℕ) → raised (raised count first) second ≡ raised count (first + second)
raised-raised count first second = omega arith

-- calls and then more calls
pub after_calls-append : (calls more : ℕ) (first second : List Clock) (chain : ChainState) → after_calls more second (after_calls calls first chain) ≡ after_calls (calls + more) (first ++ second) chain
after_calls-append calls more first second chain =
    let made = raised chain.made (length first) in
    let asked = raised chain.asked calls in
    let ran : after_cycles second (after_calls calls first chain) ≡ counted_as made asked (after_cycles (first ++ second) chain)
    = after_cycles-counted made asked second (after_cycles first chain) ∙ ap (counted_as made asked) (sym (after_cycles-append first second chain)) in
    let count : raised made (length second) ≡ raised chain.made (length (first ++ second))
    = raised-raised chain.made (length first) (length second) ∙ ap (raised chain.made) (sym (length-append first second)) in
    λ i. record (ran i) { made = count i; asked = raised-raised chain.asked calls more i }

-- and what they answer
pub answers-calls : (calls : ℕ) (first second : List Clock) (chain : ChainState) → answers (first ++ second) chain ≡ answers first chain ++ answers second (after_calls calls first chain)
answers-calls calls first second chain =
    answers-append first second chain ∙ ap (λ (rest : List Bool). answers first chain ++ rest) (sym (answers-counted (raised chain.made (length first)) (raised chain.asked calls) second (after_cycles first chain)))

pub length-answers : (clocks : List Clock) (chain : ChainState) → length (answers clocks chain) ≡ length clocks
length-answers [] chain = refl
length-answers (clock ∷ clocks) chain = ap (λ (n : ℕ). suc n) (length-answers clocks (cycle chain clock))

-- calls take no device away
pub length-called : (calls : ℕ) (clocks : List Clock) (chain : ChainState) → length (after_calls calls clocks chain).devices ≡ length chain.devices
length-called calls clocks chain = (kept_cycles clocks chain).devices
