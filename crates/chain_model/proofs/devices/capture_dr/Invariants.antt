use Rattle.std.proofs.Common.{◌≡◌, take, drop, ◌++◌, []}
use Rattle.chain_model.specs.Chains.{ChainState}
use Rattle.chain_model.specs.Cycles.{captured_from}
use Rattle.chain_model.specs.Devices.{EachFits}
use Rattle.chain_model.proofs.devices.capture_dr.Given as goal

abbrev pub invariant-loop-device : goal.invariant-loop-device
invariant-loop-device l = record {
  act : (chain : ChainState) → chain.nets ≡ [] → take l.device-index l.devices ++ captured_from chain l.device-index (drop l.device-index l.devices) ≡ captured_from chain 0 l.fn.devices;
  fits : EachFits (take l.device-index l.devices);
}
