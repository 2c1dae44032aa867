use Rattle.std.proofs.Common.{◌≡◌, take, drop, ◌++◌, map}
use Rattle.chain_model.specs.Cycles.{capture_ir}
use Rattle.chain_model.proofs.devices.capture_ir.Given as goal

abbrev pub invariant-loop-device : goal.invariant-loop-device
invariant-loop-device l = take l.device-index l.devices ++ map capture_ir (drop l.device-index l.devices) ≡ map capture_ir l.fn.devices
