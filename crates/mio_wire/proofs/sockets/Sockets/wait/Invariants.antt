use Rattle.mio_wire.specs.Tables.{KeepsOthers}
use Rattle.mio_wire.proofs.sockets.Sockets.wait.Given as goal

abbrev pub invariant-loop : goal.invariant-loop
invariant-loop l = KeepsOthers l.number l.fn.self.links.table l.self.links.table
