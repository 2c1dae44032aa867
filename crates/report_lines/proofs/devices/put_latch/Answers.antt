use Rattle.std.proofs.Common.{refl, ◌++◌, ◌∙◌}
use Rattle.text_lines.proofs.Printing.{printing_starts, printing_more, printing_fails, printing_last}
use Rattle.report_lines.specs.Devices.{latch_head, latch_line, value_text}
use Rattle.report_lines.proofs.devices.put_latch.Goals as goal

pub returns-in_err-put : goal.returns-in_err-put
returns-in_err-put g c =
    printing_fails (g.O.Sink.sent c.args.out.now) (g.O.Sink.sent c.args.out.now) (g.O.Sink.sent c.put.new.out) (g.O.Sink.fault_count c.args.out.now) (g.O.Sink.fault_count c.args.out.now) (g.O.Sink.fault_count c.put.new.out) (latch_line c.args.device c.args.name.now c.args.bits.now.bits) (latch_head c.args.device ++ (c.args.name.now ++ (value_text c.args.bits.now.bits))) (printing_starts (g.O.Sink.sent c.args.out.now) (g.O.Sink.fault_count c.args.out.now) (latch_line c.args.device c.args.name.now c.args.bits.now.bits))
    (latch_head c.args.device) (c.args.name.now ++ (value_text c.args.bits.now.bits)) c.deref.result.now refl (c.deref.ensures.0 ∙ c.latch_head.ensures) c.from_residual.result c.from_residual.ensures.0 c.in_err-put.ensures

pub returns-in_err-put-2 : goal.returns-in_err-put-2
returns-in_err-put-2 g c =
    printing_fails (g.O.Sink.sent c.args.out.now) (g.O.Sink.sent c.put.new.out) (g.O.Sink.sent c.put-2.new.out) (g.O.Sink.fault_count c.args.out.now) (g.O.Sink.fault_count c.put.new.out) (g.O.Sink.fault_count c.put-2.new.out) (latch_line c.args.device c.args.name.now c.args.bits.now.bits) (c.args.name.now ++ (value_text c.args.bits.now.bits)) (printing_more (g.O.Sink.sent c.args.out.now) (g.O.Sink.sent c.args.out.now) (g.O.Sink.sent c.put.new.out) (g.O.Sink.fault_count c.args.out.now) (g.O.Sink.fault_count c.args.out.now) (g.O.Sink.fault_count c.put.new.out) (latch_line c.args.device c.args.name.now c.args.bits.now.bits) (latch_head c.args.device ++ (c.args.name.now ++ (value_text c.args.bits.now.bits))) (printing_starts (g.O.Sink.sent c.args.out.now) (g.O.Sink.fault_count c.args.out.now) (latch_line c.args.device c.args.name.now c.args.bits.now.bits))
    (latch_head c.args.device) (c.args.name.now ++ (value_text c.args.bits.now.bits)) c.deref.result.now refl (c.deref.ensures.0 ∙ c.latch_head.ensures) c.in_ok-put.ensures)
    (c.args.name.now) (value_text c.args.bits.now.bits) c.args.name.now refl (refl) c.from_residual-in_err-put-2.result c.from_residual-in_err-put-2.ensures.0 c.in_err-put-2.ensures

pub returns : goal.returns
returns g c =
    printing_last (g.O.Sink.sent c.args.out.now) (g.O.Sink.sent c.put-2.new.out) (g.O.Sink.sent c.put_value.new.out) (g.O.Sink.fault_count c.args.out.now) (g.O.Sink.fault_count c.put-2.new.out) (g.O.Sink.fault_count c.put_value.new.out) (latch_line c.args.device c.args.name.now c.args.bits.now.bits) (value_text c.args.bits.now.bits) (printing_more (g.O.Sink.sent c.args.out.now) (g.O.Sink.sent c.put.new.out) (g.O.Sink.sent c.put-2.new.out) (g.O.Sink.fault_count c.args.out.now) (g.O.Sink.fault_count c.put.new.out) (g.O.Sink.fault_count c.put-2.new.out) (latch_line c.args.device c.args.name.now c.args.bits.now.bits) (c.args.name.now ++ (value_text c.args.bits.now.bits)) (printing_more (g.O.Sink.sent c.args.out.now) (g.O.Sink.sent c.args.out.now) (g.O.Sink.sent c.put.new.out) (g.O.Sink.fault_count c.args.out.now) (g.O.Sink.fault_count c.args.out.now) (g.O.Sink.fault_count c.put.new.out) (latch_line c.args.device c.args.name.now c.args.bits.now.bits) (latch_head c.args.device ++ (c.args.name.now ++ (value_text c.args.bits.now.bits))) (printing_starts (g.O.Sink.sent c.args.out.now) (g.O.Sink.fault_count c.args.out.now) (latch_line c.args.device c.args.name.now c.args.bits.now.bits))
    (latch_head c.args.device) (c.args.name.now ++ (value_text c.args.bits.now.bits)) c.deref.result.now refl (c.deref.ensures.0 ∙ c.latch_head.ensures) c.in_ok-put.ensures)
    (c.args.name.now) (value_text c.args.bits.now.bits) c.args.name.now refl (refl) c.in_ok-put-2.ensures)
    (value_text c.args.bits.now.bits) (refl) c.put_value.result c.put_value.ensures
