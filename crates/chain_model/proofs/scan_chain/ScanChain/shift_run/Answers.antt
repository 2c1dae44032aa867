use Rattle.std.proofs.Common.{◌≡◌, ◌∙◌, ◌+◌, ◌*◌, ◌/◌, ap, rules}
use Rattle.scan_bits.specs.Words.{bit_value, bits_of}
use Rattle.chain_model.specs.Chains.{ChainState}
use Rattle.chain_model.specs.Cycles.{after_cycles, clocks_of}
use Rattle.chain_model.specs.Circuits.{devices_of}
use Rattle.chain_model.specs.Devices.{out_dr}
use Rattle.chain_model.specs.contracts.scan_chain.ScanChain.{the_view}
use Rattle.chain_model.proofs.ShiftRuns.{run_after, run_answers, run_fits}
use Rattle.chain_model.proofs.scan_chain.ScanChain.shift_run.Goals as goal

pub invariant_of-self : goal.invariant_of-self
invariant_of-self c =
    run_fits c.self.inside.state c.self.inside.scan_open (bits_of c.args.n c.low_bits.result) (devices_of c.self.inside.circuit) (devices_of c.shift_circuit-out.new.circuit)
    c.shift_circuit-out.ensures.after c.self.invariant

pub returns-clause-after : goal.returns-clause-after
returns-clause-after c =
    run_after c.args.n c.args.tdi c.low_bits.result (the_view c.self.inside) (devices_of c.shift_circuit-out.new.circuit) _ c.dr_out-self-inside.result c.requires.word.0
    (ap (λ (chain : ChainState). chain.state) c.self.view_is ∙ c.requires.state) c.low_bits.ensures.bits c.shift_circuit-out.ensures.after c.shift_circuit-out.ensures.nets c.dr_out-self-inside.ensures
    ∙ (λ i. after_cycles (clocks_of c.args.n 0 c.args.tdi) (c.self.view_is i))

pub returns-clause-answers : goal.returns-clause-answers
returns-clause-answers c =
    let inside : c.from.result ≡ bit_value c.self.inside.tdo = search rules in
    let bit : c.from.result ≡ bit_value c.args.self.now.tdo = inside ∙ ap (λ (chain : ChainState). bit_value chain.tdo) c.self.view_is in
    run_answers c.args.n c.args.tdi c.shift_circuit-out.result _ c.args.self.now c.requires.word.0 c.requires.state c.requires.some
    (c.shift_circuit-out.ensures.out ∙ (λ i. out_dr (c.low_bits.ensures.bits i) (c.self.view_is i).devices)) c.shift_circuit-out.ensures.bound
    (ap (λ x. c.shift_circuit-out.result / 2 * 2 + x) bit)
