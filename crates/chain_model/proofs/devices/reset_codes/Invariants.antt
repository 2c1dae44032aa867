use Rattle.std.proofs.Common.{◌≡◌, take, drop, ◌++◌, map}
use Rattle.chain_model.specs.Cycles.{reset_code}
use Rattle.chain_model.proofs.devices.reset_codes.Given as goal

abbrev pub invariant-loop-device : goal.invariant-loop-device
invariant-loop-device l = take l.device-index l.devices ++ map reset_code (drop l.device-index l.devices) ≡ map reset_code l.fn.devices
