use Rattle.std.proofs.Common.{◌∙◌, ap}
use Rattle.chain_model.specs.Cycles.{clocks_of}
use Rattle.scan_share.specs.Scans.{types_of}
use Rattle.chain_tests.proofs.DeviceTypes.{cycles_keep}
use Rattle.chain_tests.proofs.random_groups.bank.Bank.cycles.Goals as goal

pub invariant_of-self : goal.invariant_of-self
invariant_of-self c =
    let same = ap types_of c.in-Ok.ensures.clocked.0 ∙ cycles_keep (clocks_of c.args.n c.args.tms c.args.tdi) c.self.inside.chain.chain in
    (same ∙ c.self.invariant.0, c.self.invariant.1, c.in-Ok.ensures.trst ∙ c.self.invariant.2)
