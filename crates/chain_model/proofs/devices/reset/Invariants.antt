use Rattle.std.proofs.Common.{◌≡◌, take, drop, ◌++◌, map}
use Rattle.chain_model.specs.Chains.{reset_device}
use Rattle.chain_model.proofs.devices.reset.Given as goal

abbrev pub invariant-loop-device : goal.invariant-loop-device
invariant-loop-device l = take l.device-index l.devices ++ map reset_device (drop l.device-index l.devices) ≡ map reset_device l.fn.devices
