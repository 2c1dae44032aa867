use Rattle.std.proofs.Common.{◌≡◌, take, drop, ◌++◌}
use Rattle.chain_model.specs.Cycles.{shifted_dr}
use Rattle.chain_model.proofs.devices.shift_dr.Given as goal

abbrev pub invariant-loop-device : goal.invariant-loop-device
invariant-loop-device l = take l.device-index l.devices ++ shifted_dr l.bit (drop l.device-index l.devices) ≡ shifted_dr l.fn.tdi l.fn.devices
