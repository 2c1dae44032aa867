use Rattle.mio_wire.specs.Tables.{KeepsAll}
use Rattle.mio_wire.proofs.link.Links.tell.Given as goal

abbrev pub invariant-loop-key : goal.invariant-loop-key
invariant-loop-key l = KeepsAll l.fn.self.table l.self.table
