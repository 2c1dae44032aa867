use Rattle.grant_table.specs.Refusals.{devices_of}
use Rattle.grant_table.proofs.FaultLaws.{DevicesTried}
use Rattle.grant_table.proofs.faults.check_devices.Given as goal

abbrev pub invariant-loop-at : goal.invariant-loop-at
invariant-loop-at l = DevicesTried l.fn.count l.fn.number (devices_of l.fn.earlier) l.fn.devices l.at
