use Rattle.std.proofs.Common.{◌≡◌, true, false}
use Rattle.mio_wire.specs.Doors.{door_of}
use Rattle.mio_wire.proofs.tests.polls_before_end.Given as goal

abbrev pub invariant-loop-count : goal.invariant-loop-count
invariant-loop-count l = ((door_of l.wire.door).up ≡ true) × ((door_of l.wire.door).over ≡ false)
