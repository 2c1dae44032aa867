use Rattle.std.proofs.Common.{◌≡◌, ◌≤◌, length, drop}
use Rattle.chain_model.specs.Chains.{ChainState}
use Rattle.chain_model.specs.Cycles.{captured_from}
use Rattle.chain_model.specs.Devices.{EachFits}
use Rattle.chain_model.proofs.nets.capture_dr.Given as goal

abbrev pub invariant-loop-at : goal.invariant-loop-at
invariant-loop-at l = record {
  act : (chain : ChainState) → chain.nets ≡ drop l.at l.nets → chain.devices ≡ l.fn.devices → l.devices ≡ captured_from chain 0 l.fn.devices;
  fits : EachFits l.devices;
  within : l.at ≤ length l.nets;
}

abbrev pub decreases-loop-at : goal.decreases-loop-at
decreases-loop-at l = l.at
