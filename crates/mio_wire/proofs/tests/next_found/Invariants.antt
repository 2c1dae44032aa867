use Rattle.std.proofs.Common.{◌≡◌, true, false}
use Rattle.mio_wire.specs.Doors.{door_of}
use Rattle.mio_wire.proofs.tests.next_found.Given as goal

abbrev pub invariant-loop : goal.invariant-loop
invariant-loop l = ((door_of l.wire.door).up ≡ true) × ((door_of l.wire.door).over ≡ false)
