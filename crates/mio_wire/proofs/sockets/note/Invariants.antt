use Rattle.mio_wire.specs.Tables.{KeepsAll}
use Rattle.mio_wire.proofs.sockets.note.Given as goal

abbrev pub invariant-loop-event : goal.invariant-loop-event
invariant-loop-event l = KeepsAll l.fn.links.table l.links.table
