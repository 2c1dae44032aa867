-- The whole walk of a capture.
use Rattle.std.proofs.Common.{◌≡◌, ◌≤◌, ℕ, suc, Bool, true, false, List, [], ◌∷◌, ◌++◌, length, replicate, take, refl, ap, ◌∙◌, arith}
use Rattle.std.proofs.lemmas.List.{length-replicate}
use Rattle.tap_states.specs.declared.Tap.TheVariants.{PauseDr}
use Rattle.scan_bits.specs.Registers.{joined}
use Rattle.scan_bits.proofs.Queue.{queue_out}
use Rattle.chain_model.specs.Chains.{ChainState}
use Rattle.chain_model.specs.Cycles.{after_cycles, answers, dr_stages}
use Rattle.chain_model.proofs.Rows.{after_cycles-append, answers-append}
use Rattle.scan_walks.specs.Walks.{with_tms, shift_in}
use Rattle.scan_share.specs.Walks.{read_walk}
use Rattle.scan_share.proofs.Rests.{captured_chain, shift_dr, shift_answers, dr_after}

-- the chain after the read-out
abbrev pub read_chain : ℕ → ChainState → ChainState
read_chain count chain = record (captured_chain chain) { state = PauseDr; tdo = true; devices = dr_after (replicate count false) (captured_chain chain).devices }

-- from the state in which the data part begins: it leads to Pause-DR
pub read_leads : (count : ℕ) (chain from : ChainState) → after_cycles (with_tms true ∷ with_tms false ∷ with_tms false ∷ []) from ≡ captured_chain chain
    → after_cycles (read_walk (suc count)) from ≡ read_chain (suc count) chain
read_leads count chain from starts =
    after_cycles-append (with_tms true ∷ with_tms false ∷ with_tms false ∷ []) (shift_in (replicate (suc count) false) ++ with_tms false ∷ []) from
    ∙ ap (after_cycles (shift_in (replicate (suc count) false) ++ with_tms false ∷ [])) starts
    ∙ after_cycles-append (shift_in (replicate (suc count) false)) (with_tms false ∷ []) (captured_chain chain)
    ∙ ap (after_cycles (with_tms false ∷ [])) (shift_dr false (replicate count false) (captured_chain chain))

-- the answers of the read-out
pub row_answers : (count : ℕ) (chain : ChainState) → length (joined (dr_stages (captured_chain chain).devices)) ≡ suc count
    → answers (shift_in (replicate (suc count) false)) (captured_chain chain) ≡ joined (dr_stages (captured_chain chain).devices)
row_answers count chain size =
    let fits : length (replicate (suc count) false) ≤ length (joined (dr_stages (captured_chain chain).devices)) = omega (arith, size, length-replicate (suc count) false) in
    shift_answers false (replicate count false) (captured_chain chain) refl fits
    ∙ queue_out (joined (dr_stages (captured_chain chain).devices)) (replicate (suc count) false) fits
    ∙ whole (joined (dr_stages (captured_chain chain).devices)) (length (replicate (suc count) false)) (omega (arith, size, length-replicate (suc count) false))
  where
    all : (r : List Bool) → take (length r) r ≡ r
    all [] = refl
    all (b ∷ r) = ap (λ q. b ∷ q) (all r)

    whole : (r : List Bool) (n : ℕ) → n ≡ length r → take n r ≡ r
    whole r n is = ap (λ k. take k r) is ∙ all r

pub read_answers : (count : ℕ) (chain : ChainState) → length (joined (dr_stages (captured_chain chain).devices)) ≡ suc count
    → answers (shift_in (replicate (suc count) false) ++ with_tms false ∷ []) (captured_chain chain) ≡ joined (dr_stages (captured_chain chain).devices) ++ true ∷ []
read_answers count chain size =
    answers-append (shift_in (replicate (suc count) false)) (with_tms false ∷ []) (captured_chain chain)
    ∙ (λ i. row_answers count chain size i ++ (shift_dr false (replicate count false) (captured_chain chain) i).tdo ∷ [])
