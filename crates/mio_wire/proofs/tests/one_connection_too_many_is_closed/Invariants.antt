use Rattle.std.proofs.Common.{◌≡◌, true, false}
use Rattle.mio_wire.specs.Doors.{door_of}
use Rattle.mio_wire.proofs.tests.one_connection_too_many_is_closed.Given as goal

abbrev pub invariant-loop-conn : goal.invariant-loop-conn
invariant-loop-conn g l = ((door_of l.wire.door).up ≡ true) × ((door_of l.wire.door).over ≡ false)
