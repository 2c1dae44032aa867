use Rattle.std.proofs.Common.{◌+◌, ◌∙◌, [], ap, get_or, drop, arith}
use Rattle.share_top.specs.Checks.{device_line, device_lines}
use Rattle.share_top.proofs.Lines.{device_lines_more, name_at}
use Rattle.text_lines.proofs.Printing.{printing_fails, printing_more}
use Rattle.share_top.proofs.print.print_devices.Goals as goal

pub returns-in_err-print_device : goal.returns-in_err-print_device
returns-in_err-print_device g c =
    printing_fails (g.O.Sink.sent c.args.out.now) (g.O.Sink.sent c.loop-place.out) (g.O.Sink.sent c.print_device.new.out) (g.O.Sink.fault_count c.args.out.now) (g.O.Sink.fault_count c.loop-place.out) (g.O.Sink.fault_count c.print_device.new.out)
    (device_lines 1 c.args.names.now c.args.layout.now.parts) (device_lines (c.loop-place.place + 1) (drop c.loop-place.place c.args.names.now) (drop c.loop-place.place c.args.layout.now.parts)) c.loop-place.invariant
    (device_line (c.loop-place.place + 1) (get_or c.args.names.now c.loop-place.place []) c.part.result.now) (device_lines (c.loop-place.place + 1 + 1) (drop (c.loop-place.place + 1) c.args.names.now) (drop (c.loop-place.place + 1) c.args.layout.now.parts)) (device_line (c.loop-place.place + 1) c.as_bytes-name.result.now c.part.result.now) (device_lines_more c.args.names.now c.args.layout.now.parts c.loop-place.place [] c.part.result.now (omega (arith, c.loop-place-test.true, c.devices-place-end.ensures.is, c.requires)) (omega (arith, c.loop-place-test.true, c.devices-place-end.ensures.is)) c.part.ensures.is) (ap (λ name. device_line (c.loop-place.place + 1) name c.part.result.now) (c.as_bytes-name.ensures.value ∙ c.as_str.ensures ∙ name_at c.args.names.now c.loop-place.place c.index-names-place.result [] (omega (arith, c.loop-place-test.true, c.devices-place-end.ensures.is, c.requires)) c.index-names-place.is))
    c.from_residual.result c.from_residual.ensures.0 c.in_err-print_device.ensures

pub loop-place-preserved : goal.loop-place-preserved
loop-place-preserved g c =
    printing_more (g.O.Sink.sent c.args.out.now) (g.O.Sink.sent c.loop-place.out) (g.O.Sink.sent c.print_device.new.out) (g.O.Sink.fault_count c.args.out.now) (g.O.Sink.fault_count c.loop-place.out) (g.O.Sink.fault_count c.print_device.new.out)
    (device_lines 1 c.args.names.now c.args.layout.now.parts) (device_lines (c.loop-place.place + 1) (drop c.loop-place.place c.args.names.now) (drop c.loop-place.place c.args.layout.now.parts)) c.loop-place.invariant
    (device_line (c.loop-place.place + 1) (get_or c.args.names.now c.loop-place.place []) c.part.result.now) (device_lines (c.loop-place.place + 1 + 1) (drop (c.loop-place.place + 1) c.args.names.now) (drop (c.loop-place.place + 1) c.args.layout.now.parts)) (device_line (c.loop-place.place + 1) c.as_bytes-name.result.now c.part.result.now) (device_lines_more c.args.names.now c.args.layout.now.parts c.loop-place.place [] c.part.result.now (omega (arith, c.loop-place-test.true, c.devices-place-end.ensures.is, c.requires)) (omega (arith, c.loop-place-test.true, c.devices-place-end.ensures.is)) c.part.ensures.is) (ap (λ name. device_line (c.loop-place.place + 1) name c.part.result.now) (c.as_bytes-name.ensures.value ∙ c.as_str.ensures ∙ name_at c.args.names.now c.loop-place.place c.index-names-place.result [] (omega (arith, c.loop-place-test.true, c.devices-place-end.ensures.is, c.requires)) c.index-names-place.is))
    c.in_ok-print_device.ensures
