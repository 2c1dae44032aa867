use Rattle.std.proofs.Common.{◌≡◌, ap, sym}
use Rattle.chain_model.specs.Chains.{ChainState}
use Rattle.chain_model.proofs.scan_chain.ScanChain.fall.Goals as goal

pub invariant_of-self : goal.invariant_of-self
invariant_of-self c =
    let opened : c.args.self.now.scan_open ≡ c.self.inside.scan_open = sym (ap (λ (chain : ChainState). chain.scan_open) c.self.view_is) in
    rw (← c.open_after_fall-self-inside.ensures c.args.self.now opened) (c.fall_circuit-self-inside.ensures.fits c.args.self.now opened)
