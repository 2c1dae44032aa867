use Rattle.std.proofs.Common.{◌≡◌, take, drop, ◌++◌, map}
use Rattle.chain_model.specs.Cycles.{update_device}
use Rattle.chain_model.specs.Devices.{EachFits}
use Rattle.chain_model.proofs.devices.update_dr.Given as goal

abbrev pub invariant-loop-device : goal.invariant-loop-device
invariant-loop-device l = record {
  act : take l.device-index l.devices ++ map update_device (drop l.device-index l.devices) ≡ map update_device l.fn.devices;
  fits : EachFits (drop l.device-index l.devices);
}
