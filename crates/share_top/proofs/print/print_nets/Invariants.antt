use Rattle.std.proofs.Common.{◌+◌, drop}
use Rattle.share_top.specs.Checks.{net_lines}
use Rattle.text_lines.proofs.Printing.{Printing}
use Rattle.share_top.proofs.print.print_nets.Given as goal

abbrev pub invariant-loop-at : goal.invariant-loop-at
invariant-loop-at g l = Printing (g.O.Sink.sent l.fn.out) (g.O.Sink.sent l.out) (g.O.Sink.fault_count l.fn.out) (g.O.Sink.fault_count l.out) (net_lines 1 l.fn.nets) (net_lines (l.at + 1) (drop l.at l.fn.nets))
