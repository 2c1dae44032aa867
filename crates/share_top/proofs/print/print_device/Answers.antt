use Rattle.std.proofs.Common.{refl, ◌++◌, ◌∙◌}
use Rattle.share_top.specs.Checks.{device_head, device_tail}
use Rattle.text_lines.proofs.Printing.{printing_starts, printing_more, printing_fails, printing_last}
use Rattle.share_top.proofs.print.print_device.Goals as goal

pub returns-in_err-put : goal.returns-in_err-put
returns-in_err-put g c =
    printing_fails (g.O.Sink.sent c.args.out.now) (g.O.Sink.sent c.args.out.now) (g.O.Sink.sent c.put.new.out) (g.O.Sink.fault_count c.args.out.now) (g.O.Sink.fault_count c.args.out.now) (g.O.Sink.fault_count c.put.new.out) (device_head c.args.number ++ (c.args.name.now ++ (device_tail c.args.part.now))) (device_head c.args.number ++ (c.args.name.now ++ (device_tail c.args.part.now)))
    (printing_starts (g.O.Sink.sent c.args.out.now) (g.O.Sink.fault_count c.args.out.now) (device_head c.args.number ++ (c.args.name.now ++ (device_tail c.args.part.now))))
    (device_head c.args.number) (c.args.name.now ++ (device_tail c.args.part.now)) c.deref.result.now refl (c.deref.ensures.0 ∙ c.device_head.ensures) c.from_residual.result c.from_residual.ensures.0 c.in_err-put.ensures

pub returns-in_err-put-2 : goal.returns-in_err-put-2
returns-in_err-put-2 g c =
    printing_fails (g.O.Sink.sent c.args.out.now) (g.O.Sink.sent c.put.new.out) (g.O.Sink.sent c.put-2.new.out) (g.O.Sink.fault_count c.args.out.now) (g.O.Sink.fault_count c.put.new.out) (g.O.Sink.fault_count c.put-2.new.out) (device_head c.args.number ++ (c.args.name.now ++ (device_tail c.args.part.now))) (c.args.name.now ++ (device_tail c.args.part.now))
    (printing_more (g.O.Sink.sent c.args.out.now) (g.O.Sink.sent c.args.out.now) (g.O.Sink.sent c.put.new.out) (g.O.Sink.fault_count c.args.out.now) (g.O.Sink.fault_count c.args.out.now) (g.O.Sink.fault_count c.put.new.out) (device_head c.args.number ++ (c.args.name.now ++ (device_tail c.args.part.now))) (device_head c.args.number ++ (c.args.name.now ++ (device_tail c.args.part.now))) (printing_starts (g.O.Sink.sent c.args.out.now) (g.O.Sink.fault_count c.args.out.now) (device_head c.args.number ++ (c.args.name.now ++ (device_tail c.args.part.now)))) (device_head c.args.number) (c.args.name.now ++ (device_tail c.args.part.now)) c.deref.result.now refl (c.deref.ensures.0 ∙ c.device_head.ensures) c.in_ok-put.ensures)
    (c.args.name.now) (device_tail c.args.part.now) c.args.name.now refl (refl) c.from_residual-in_err-put-2.result c.from_residual-in_err-put-2.ensures.0 c.in_err-put-2.ensures

pub returns : goal.returns
returns g c =
    printing_last (g.O.Sink.sent c.args.out.now) (g.O.Sink.sent c.put-2.new.out) (g.O.Sink.sent c.put-3.new.out) (g.O.Sink.fault_count c.args.out.now) (g.O.Sink.fault_count c.put-2.new.out) (g.O.Sink.fault_count c.put-3.new.out) (device_head c.args.number ++ (c.args.name.now ++ (device_tail c.args.part.now))) (device_tail c.args.part.now)
    (printing_more (g.O.Sink.sent c.args.out.now) (g.O.Sink.sent c.put.new.out) (g.O.Sink.sent c.put-2.new.out) (g.O.Sink.fault_count c.args.out.now) (g.O.Sink.fault_count c.put.new.out) (g.O.Sink.fault_count c.put-2.new.out) (device_head c.args.number ++ (c.args.name.now ++ (device_tail c.args.part.now))) (c.args.name.now ++ (device_tail c.args.part.now)) (printing_more (g.O.Sink.sent c.args.out.now) (g.O.Sink.sent c.args.out.now) (g.O.Sink.sent c.put.new.out) (g.O.Sink.fault_count c.args.out.now) (g.O.Sink.fault_count c.args.out.now) (g.O.Sink.fault_count c.put.new.out) (device_head c.args.number ++ (c.args.name.now ++ (device_tail c.args.part.now))) (device_head c.args.number ++ (c.args.name.now ++ (device_tail c.args.part.now))) (printing_starts (g.O.Sink.sent c.args.out.now) (g.O.Sink.fault_count c.args.out.now) (device_head c.args.number ++ (c.args.name.now ++ (device_tail c.args.part.now)))) (device_head c.args.number) (c.args.name.now ++ (device_tail c.args.part.now)) c.deref.result.now refl (c.deref.ensures.0 ∙ c.device_head.ensures) c.in_ok-put.ensures) (c.args.name.now) (device_tail c.args.part.now) c.args.name.now refl (refl) c.in_ok-put-2.ensures)
    c.deref-2.result.now (c.deref-2.ensures.0 ∙ c.device_tail.ensures) c.put-3.result c.put-3.ensures
