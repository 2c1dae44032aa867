use Rattle.std.proofs.Common.{◌≡◌, ◌≤◌, ◌-◌, ◌++◌, drop, map}
use Rattle.chain_model.specs.Devices.{zero_latch}
use Rattle.chain_model.proofs.registers.zero_latches.Given as goal

abbrev pub invariant-loop-register : goal.invariant-loop-register
invariant-loop-register l = record {
  latches : l.latches.items ++ map zero_latch (drop (l.register - 4) l.part.named) ≡ map zero_latch l.part.named;
  named : 4 ≤ l.register;
}
