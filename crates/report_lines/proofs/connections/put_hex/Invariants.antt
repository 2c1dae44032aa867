use Rattle.std.proofs.Common.{length}
use Rattle.text_lines.specs.Hex.{hex_bytes}
use Rattle.text_lines.proofs.Printing.{Printing}
use Rattle.report_lines.proofs.connections.put_hex.Given as goal

abbrev pub invariant-loop-rest : goal.invariant-loop-rest
invariant-loop-rest g l =
    Printing (g.O.Sink.sent l.fn.out) (g.O.Sink.sent l.out) (g.O.Sink.fault_count l.fn.out) (g.O.Sink.fault_count l.out) (hex_bytes l.fn.bytes) (hex_bytes l.rest)

abbrev pub decreases-loop-rest : goal.decreases-loop-rest
decreases-loop-rest g l = length l.rest
