use Rattle.std.proofs.Common.{◌≡◌, take, drop, ◌++◌}
use Rattle.chain_model.specs.Cycles.{shifted_ir}
use Rattle.chain_model.proofs.devices.shift_ir.Given as goal

abbrev pub invariant-loop-device : goal.invariant-loop-device
invariant-loop-device l = take l.device-index l.devices ++ shifted_ir l.bit (drop l.device-index l.devices) ≡ shifted_ir l.fn.tdi l.fn.devices
