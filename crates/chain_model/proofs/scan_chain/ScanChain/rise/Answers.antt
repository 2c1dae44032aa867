use Rattle.std.proofs.Common.{◌≡◌, ap, sym}
use Rattle.chain_model.specs.Chains.{ChainState}
use Rattle.chain_model.proofs.scan_chain.ScanChain.rise.Goals as goal

pub invariant_of-self : goal.invariant_of-self
invariant_of-self c =
    let opened : c.args.self.now.scan_open ≡ c.self.inside.scan_open = sym (ap (λ (chain : ChainState). chain.scan_open) c.self.view_is) in
    rw (c.next-self-inside.ensures, ← c.open_after_rise-self-inside.ensures c.args.self.now c.args.tdi opened)
    (c.rise_circuit.ensures.fits c.args.self.now c.args.tms opened)
