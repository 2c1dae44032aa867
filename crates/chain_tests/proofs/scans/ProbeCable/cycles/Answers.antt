use Rattle.std.proofs.Common.{◌∙◌, ap, arith, length}
use Rattle.chain_model.specs.Chains.{ChainState}
use Rattle.chain_model.specs.Cycles.{clocks_of}
use Rattle.chain_model.proofs.Calls.{length-called}
use Rattle.chain_tests.proofs.scans.ProbeCable.cycles.Goals as goal

pub invariant_of-self-in-Ok : goal.invariant_of-self-in-Ok
invariant_of-self-in-Ok c =
    let same = ap (λ (chain : ChainState). length chain.devices) c.in-Ok.ensures.clocked.0 ∙ length-called 1 (clocks_of c.args.n c.args.tms c.args.tdi) c.self.inside.chain.chain in
    (omega (arith, same, c.self.invariant.0), c.in-Ok.ensures.trst ∙ c.self.invariant.1)
