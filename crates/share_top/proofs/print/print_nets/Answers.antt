use Rattle.std.proofs.Common.{◌+◌, ◌∙◌, drop}
use Rattle.share_top.specs.Checks.{net_lines}
use Rattle.share_top.proofs.Lines.{net_lines_more}
use Rattle.text_lines.proofs.Printing.{printing_fails, printing_more}
use Rattle.share_top.proofs.print.print_nets.Goals as goal

pub returns-in_err-put : goal.returns-in_err-put
returns-in_err-put g c =
    printing_fails (g.O.Sink.sent c.args.out.now) (g.O.Sink.sent c.loop-at.out) (g.O.Sink.sent c.put.new.out) (g.O.Sink.fault_count c.args.out.now) (g.O.Sink.fault_count c.loop-at.out) (g.O.Sink.fault_count c.put.new.out)
    (net_lines 1 c.args.nets.now) (net_lines (c.loop-at.at + 1) (drop c.loop-at.at c.args.nets.now)) c.loop-at.invariant
    _ (net_lines (c.loop-at.at + 1 + 1) (drop (c.loop-at.at + 1) c.args.nets.now)) c.deref.result.now (net_lines_more c.args.nets.now c.loop-at.at _ c.loop-at-test.true) (c.deref.ensures.0 ∙ c.net_line.ensures)
    c.from_residual.result c.from_residual.ensures.0 c.in_err-put.ensures

pub loop-at-preserved : goal.loop-at-preserved
loop-at-preserved g c =
    printing_more (g.O.Sink.sent c.args.out.now) (g.O.Sink.sent c.loop-at.out) (g.O.Sink.sent c.put.new.out) (g.O.Sink.fault_count c.args.out.now) (g.O.Sink.fault_count c.loop-at.out) (g.O.Sink.fault_count c.put.new.out)
    (net_lines 1 c.args.nets.now) (net_lines (c.loop-at.at + 1) (drop c.loop-at.at c.args.nets.now)) c.loop-at.invariant
    _ (net_lines (c.loop-at.at + 1 + 1) (drop (c.loop-at.at + 1) c.args.nets.now)) c.deref.result.now (net_lines_more c.args.nets.now c.loop-at.at _ c.loop-at-test.true) (c.deref.ensures.0 ∙ c.net_line.ensures)
    c.in_ok-put.ensures
