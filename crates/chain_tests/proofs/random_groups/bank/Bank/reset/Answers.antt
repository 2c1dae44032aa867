use Rattle.std.proofs.Common.{◌∙◌, ap}
use Rattle.scan_share.specs.Scans.{types_of}
use Rattle.chain_tests.proofs.DeviceTypes.{reset_keeps}
use Rattle.chain_tests.proofs.random_groups.bank.Bank.reset.Goals as goal

pub invariant_of-self : goal.invariant_of-self
invariant_of-self c =
    (ap types_of c.in-Ok.ensures.reset ∙ reset_keeps c.self.inside.chain.chain.devices ∙ c.self.invariant.0, c.self.invariant.1, c.in-Ok.ensures.trst ∙ c.self.invariant.2)
