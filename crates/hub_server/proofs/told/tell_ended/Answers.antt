use Rattle.std.proofs.Common.{◌+◌, ◌∙◌, drop, map}
use Rattle.session_table.specs.Shown.{session_end}
use Rattle.text_lines.proofs.Printing.{printing_fails, printing_more}
use Rattle.hub_server.specs.Told.{ended_lines}
use Rattle.hub_server.proofs.Telling.{few_at, told_more}
use Rattle.hub_server.proofs.told.tell_ended.Goals as goal

pub ended_line-requires : goal.ended_line-requires
ended_line-requires g c = few_at c.args.ended.now c.loop-each.each-index _ c.loop-each-test.true c.requires

pub returns-in_err-put : goal.returns-in_err-put
returns-in_err-put g c =
    printing_fails (g.O.Sink.sent c.args.out.now) (g.O.Sink.sent c.loop-each.out) (g.O.Sink.sent c.put.new.out) (g.O.Sink.fault_count c.args.out.now) (g.O.Sink.fault_count c.loop-each.out) (g.O.Sink.fault_count c.put.new.out)
    (ended_lines (map session_end c.args.ended.now)) (ended_lines (map session_end (drop c.loop-each.each-index c.args.ended.now))) c.loop-each.invariant
    _ (ended_lines (map session_end (drop (c.loop-each.each-index + 1) c.args.ended.now))) c.deref.result.now (told_more c.args.ended.now c.loop-each.each-index _ c.loop-each-test.true) (c.deref.ensures.0 ∙ c.ended_line.ensures)
    c.from_residual.result c.from_residual.ensures.0 c.in_err-put.ensures

pub loop-each-preserved : goal.loop-each-preserved
loop-each-preserved g c =
    printing_more (g.O.Sink.sent c.args.out.now) (g.O.Sink.sent c.loop-each.out) (g.O.Sink.sent c.put.new.out) (g.O.Sink.fault_count c.args.out.now) (g.O.Sink.fault_count c.loop-each.out) (g.O.Sink.fault_count c.put.new.out)
    (ended_lines (map session_end c.args.ended.now)) (ended_lines (map session_end (drop c.loop-each.each-index c.args.ended.now))) c.loop-each.invariant
    _ (ended_lines (map session_end (drop (c.loop-each.each-index + 1) c.args.ended.now))) c.deref.result.now (told_more c.args.ended.now c.loop-each.each-index _ c.loop-each-test.true) (c.deref.ensures.0 ∙ c.ended_line.ensures)
    c.in_ok-put.ensures
