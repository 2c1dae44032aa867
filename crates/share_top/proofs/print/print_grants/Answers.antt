use Rattle.std.proofs.Common.{◌+◌, ◌∙◌, drop, arith}
use Rattle.share_top.specs.Checks.{grant_lines}
use Rattle.share_top.proofs.Lines.{grant_lines_more, line_of_grant}
use Rattle.text_lines.proofs.Printing.{printing_fails, printing_more}
use Rattle.share_top.proofs.print.print_grants.Goals as goal

pub returns-in_err-put : goal.returns-in_err-put
returns-in_err-put g c =
    printing_fails (g.O.Sink.sent c.args.out.now) (g.O.Sink.sent c.loop-grant.out) (g.O.Sink.sent c.put.new.out) (g.O.Sink.fault_count c.args.out.now) (g.O.Sink.fault_count c.loop-grant.out) (g.O.Sink.fault_count c.put.new.out)
    (grant_lines c.args.layout.now 1 c.args.layout.now.grants) (grant_lines c.args.layout.now (c.loop-grant.grant + 1) (drop c.loop-grant.grant c.args.layout.now.grants)) c.loop-grant.invariant
    _ (grant_lines c.args.layout.now (c.loop-grant.grant + 1 + 1) (drop (c.loop-grant.grant + 1) c.args.layout.now.grants)) c.deref.result.now (grant_lines_more c.args.layout.now c.args.layout.now.grants c.loop-grant.grant (line_of_grant c.args.layout.now c.args.layout.now.grants c.loop-grant.grant c.grant_line.result.items (omega (arith, c.loop-grant-test.true, c.grants-grant-end.ensures.is)) c.grant_line.ensures).shape (omega (arith, c.loop-grant-test.true, c.grants-grant-end.ensures.is)) (line_of_grant c.args.layout.now c.args.layout.now.grants c.loop-grant.grant c.grant_line.result.items (omega (arith, c.loop-grant-test.true, c.grants-grant-end.ensures.is)) c.grant_line.ensures).is) (c.deref.ensures.0 ∙ (line_of_grant c.args.layout.now c.args.layout.now.grants c.loop-grant.grant c.grant_line.result.items (omega (arith, c.loop-grant-test.true, c.grants-grant-end.ensures.is)) c.grant_line.ensures).text_is)
    c.from_residual.result c.from_residual.ensures.0 c.in_err-put.ensures

pub loop-grant-preserved : goal.loop-grant-preserved
loop-grant-preserved g c =
    printing_more (g.O.Sink.sent c.args.out.now) (g.O.Sink.sent c.loop-grant.out) (g.O.Sink.sent c.put.new.out) (g.O.Sink.fault_count c.args.out.now) (g.O.Sink.fault_count c.loop-grant.out) (g.O.Sink.fault_count c.put.new.out)
    (grant_lines c.args.layout.now 1 c.args.layout.now.grants) (grant_lines c.args.layout.now (c.loop-grant.grant + 1) (drop c.loop-grant.grant c.args.layout.now.grants)) c.loop-grant.invariant
    _ (grant_lines c.args.layout.now (c.loop-grant.grant + 1 + 1) (drop (c.loop-grant.grant + 1) c.args.layout.now.grants)) c.deref.result.now (grant_lines_more c.args.layout.now c.args.layout.now.grants c.loop-grant.grant (line_of_grant c.args.layout.now c.args.layout.now.grants c.loop-grant.grant c.grant_line.result.items (omega (arith, c.loop-grant-test.true, c.grants-grant-end.ensures.is)) c.grant_line.ensures).shape (omega (arith, c.loop-grant-test.true, c.grants-grant-end.ensures.is)) (line_of_grant c.args.layout.now c.args.layout.now.grants c.loop-grant.grant c.grant_line.result.items (omega (arith, c.loop-grant-test.true, c.grants-grant-end.ensures.is)) c.grant_line.ensures).is) (c.deref.ensures.0 ∙ (line_of_grant c.args.layout.now c.args.layout.now.grants c.loop-grant.grant c.grant_line.result.items (omega (arith, c.loop-grant-test.true, c.grants-grant-end.ensures.is)) c.grant_line.ensures).text_is)
    c.in_ok-put.ensures
