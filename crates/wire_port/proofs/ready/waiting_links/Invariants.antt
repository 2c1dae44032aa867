use Rattle.std.proofs.Common.{map, drop}
use Rattle.wire_port.specs.Scripts.{line_of}
use Rattle.wire_port.specs.Playing.{Prepared}
use Rattle.wire_port.proofs.ready.waiting_links.Given as goal

abbrev pub invariant-loop-at : goal.invariant-loop-at
invariant-loop-at l = Prepared (map line_of l.lines) (map line_of (drop l.at l.lines)) l.waiting.items l.table.items
