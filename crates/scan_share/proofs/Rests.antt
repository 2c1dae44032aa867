-- Where a walk leads: the chain after each part of it.
use Rattle.std.proofs.Common.{◌≡◌, ◌≤◌, Bool, true, false, List, [], ◌∷◌, length, map, refl, ap, ◌∙◌, arith}
use Rattle.tap_states.specs.declared.Tap.{Tap}
use Rattle.tap_states.specs.declared.Tap.TheVariants.{RunTestIdle, CaptureDr, ShiftDr, Exit1Dr, PauseDr, UpdateDr, ShiftIr, Exit1Ir, UpdateIr}
use Rattle.scan_bits.specs.Registers.{lowest_or, shifted, shifted_out, joined}
use Rattle.chain_model.specs.Chains.{ChainState, DeviceState}
use Rattle.chain_model.specs.Cycles.{after_cycles, answers, shifted_dr, shifted_ir, dr_stages, ir_stages, capture_ir, update_ir, captured_from, updated}
use Rattle.chain_model.proofs.Rows.{after_cycles-append, joined-dr}
use Rattle.scan_bits.proofs.Queue.{length-shifted}
use Rattle.scan_walks.specs.Walks.{with_tms, shift_in}
use Rattle.scan_share.specs.Walks.{load_walk, write_walk}

-- devices after a row of shifts
abbrev pub ir_after : List Bool → List DeviceState → List DeviceState
ir_after [] devices = devices
ir_after (bit ∷ bits) devices = ir_after bits (shifted_ir bit devices)

abbrev pub dr_after : List Bool → List DeviceState → List DeviceState
dr_after [] devices = devices
dr_after (bit ∷ bits) devices = dr_after bits (shifted_dr bit devices)

-- a chain names its state
pub in_state : (chain : ChainState) (state : Tap) → chain.state ≡ state → chain ≡ record chain { state = state }
in_state chain state is = λ i. record chain { state = is i }

pub shift_ir : (bit : Bool) (bits : List Bool) (chain : ChainState)
    → after_cycles (shift_in (bit ∷ bits)) (record chain { state = ShiftIr }) ≡ record chain { state = Exit1Ir; tdo = true; devices = ir_after (bit ∷ bits) chain.devices }
shift_ir bit [] chain = refl
shift_ir bit (next ∷ bits) chain = shift_ir next bits (record chain { tdo = lowest_or true (joined (ir_stages (shifted_ir bit chain.devices))); devices = shifted_ir bit chain.devices })

pub shift_dr : (bit : Bool) (bits : List Bool) (chain : ChainState)
    → after_cycles (shift_in (bit ∷ bits)) (record chain { state = ShiftDr }) ≡ record chain { state = Exit1Dr; tdo = true; devices = dr_after (bit ∷ bits) chain.devices }
shift_dr bit [] chain = refl
shift_dr bit (next ∷ bits) chain = shift_dr next bits (record chain { tdo = lowest_or true (joined (dr_stages (shifted_dr bit chain.devices))); devices = shifted_dr bit chain.devices })

-- the chain in Update-IR after the instruction part
pub load_leads : (bit : Bool) (bits : List Bool) (chain : ChainState)
    → after_cycles (load_walk (bit ∷ bits)) (record chain { state = RunTestIdle })
    ≡ record chain { state = UpdateIr; tdo = true; devices = map update_ir (ir_after (bit ∷ bits) (map capture_ir chain.devices)) }
load_leads bit bits chain =
    after_cycles-append (shift_in (bit ∷ bits)) (with_tms true ∷ []) (record chain { state = ShiftIr; tdo = lowest_or true (joined (ir_stages (map capture_ir chain.devices))); devices = map capture_ir chain.devices })
    ∙ ap (after_cycles (with_tms true ∷ [])) (shift_ir bit bits (record chain { tdo = lowest_or true (joined (ir_stages (map capture_ir chain.devices))); devices = map capture_ir chain.devices }))

-- the chain in Shift-DR after its capture
abbrev pub captured_chain : ChainState → ChainState
captured_chain chain = record chain { state = ShiftDr; scan_open = true; tdo = lowest_or true (joined (dr_stages (captured_from (record chain { state = CaptureDr; tdo = true }) 0 chain.devices))); devices = captured_from (record chain { state = CaptureDr; tdo = true }) 0 chain.devices }

pub capture_leads_idle : (chain : ChainState) → after_cycles (with_tms true ∷ with_tms false ∷ with_tms false ∷ []) (record chain { state = RunTestIdle }) ≡ captured_chain chain
capture_leads_idle chain = refl

pub capture_leads_loaded : (chain : ChainState) → after_cycles (with_tms true ∷ with_tms false ∷ with_tms false ∷ []) (record chain { state = UpdateIr }) ≡ captured_chain chain
capture_leads_loaded chain = refl

any_lowest : (r : List Bool) (a b : Bool) → 1 ≤ length r → lowest_or a r ≡ lowest_or b r
any_lowest [] a b some = absurd (omega (arith, some))
any_lowest (x ∷ r) a b some = refl

-- the answers of a row of shifts are the first bits of the joined stages
pub shift_answers : (bit : Bool) (bits : List Bool) (chain : ChainState) → chain.tdo ≡ lowest_or true (joined (dr_stages chain.devices))
    → length (bit ∷ bits) ≤ length (joined (dr_stages chain.devices))
    → answers (shift_in (bit ∷ bits)) (record chain { state = ShiftDr }) ≡ shifted_out (joined (dr_stages chain.devices)) (bit ∷ bits)
shift_answers bit [] chain tdo fits = ap (λ b. b ∷ []) (tdo ∙ any_lowest (joined (dr_stages chain.devices)) true bit (omega (arith, fits)))
shift_answers bit (next ∷ bits) chain tdo fits =
    let devices = shifted_dr bit chain.devices in
    let moved : joined (dr_stages (shifted_dr bit chain.devices)) ≡ shifted (joined (dr_stages chain.devices)) bit = joined-dr chain.devices bit in
    let short : length (next ∷ bits) ≤ length (joined (dr_stages (shifted_dr bit chain.devices))) = omega (arith, fits, ap length moved, length-shifted (joined (dr_stages chain.devices)) bit) in
    let first : chain.tdo ≡ lowest_or bit (joined (dr_stages chain.devices)) = tdo ∙ any_lowest (joined (dr_stages chain.devices)) true bit (omega (arith, fits)) in
    let rest : answers (shift_in (next ∷ bits)) (record chain { state = ShiftDr; tdo = lowest_or true (joined (dr_stages (shifted_dr bit chain.devices))); devices = shifted_dr bit chain.devices })
    ≡ shifted_out (joined (dr_stages (shifted_dr bit chain.devices))) (next ∷ bits)
    = shift_answers next bits (record chain { tdo = lowest_or true (joined (dr_stages (shifted_dr bit chain.devices))); devices = shifted_dr bit chain.devices }) refl short in
    λ i. first i ∷ (rest ∙ ap (λ r. shifted_out r (next ∷ bits)) moved) i

-- an update
pub write_leads : (bit : Bool) (bits : List Bool) (chain : ChainState)
    → after_cycles (write_walk (bit ∷ bits)) (record chain { state = PauseDr; scan_open = true })
    ≡ record (updated (record chain { state = UpdateDr; tdo = true; scan_open = true; devices = dr_after (bit ∷ bits) chain.devices })) { state = RunTestIdle; tdo = true }
write_leads bit bits chain =
    after_cycles-append (shift_in (bit ∷ bits)) (with_tms true ∷ with_tms false ∷ []) (record chain { state = ShiftDr; scan_open = true; tdo = lowest_or true (joined (dr_stages chain.devices)) })
    ∙ ap (after_cycles (with_tms true ∷ with_tms false ∷ [])) (shift_dr bit bits (record chain { scan_open = true; tdo = lowest_or true (joined (dr_stages chain.devices)) }))
