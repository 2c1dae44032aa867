use Rattle.std.proofs.Common.{drop, map}
use Rattle.session_table.specs.Shown.{session_end}
use Rattle.text_lines.proofs.Printing.{Printing}
use Rattle.hub_server.specs.Told.{ended_lines}
use Rattle.hub_server.proofs.told.tell_ended.Given as goal

abbrev pub invariant-loop-each : goal.invariant-loop-each
invariant-loop-each g l = Printing (g.O.Sink.sent l.fn.out) (g.O.Sink.sent l.out) (g.O.Sink.fault_count l.fn.out) (g.O.Sink.fault_count l.out) (ended_lines (map session_end l.fn.ended)) (ended_lines (map session_end (drop l.each-index l.fn.ended)))
