use Rattle.std.proofs.Common.{◌+◌, drop}
use Rattle.share_top.specs.Checks.{grant_lines}
use Rattle.text_lines.proofs.Printing.{Printing}
use Rattle.share_top.proofs.print.print_grants.Given as goal

abbrev pub invariant-loop-grant : goal.invariant-loop-grant
invariant-loop-grant g l =
    Printing (g.O.Sink.sent l.fn.out) (g.O.Sink.sent l.out) (g.O.Sink.fault_count l.fn.out) (g.O.Sink.fault_count l.out)
    (grant_lines l.fn.layout 1 l.fn.layout.grants) (grant_lines l.fn.layout (l.grant + 1) (drop l.grant l.fn.layout.grants))
