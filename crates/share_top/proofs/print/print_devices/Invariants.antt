use Rattle.std.proofs.Common.{◌+◌, drop}
use Rattle.share_top.specs.Checks.{device_lines}
use Rattle.text_lines.proofs.Printing.{Printing}
use Rattle.share_top.proofs.print.print_devices.Given as goal

abbrev pub invariant-loop-place : goal.invariant-loop-place
invariant-loop-place g l =
    Printing (g.O.Sink.sent l.fn.out) (g.O.Sink.sent l.out) (g.O.Sink.fault_count l.fn.out) (g.O.Sink.fault_count l.out)
    (device_lines 1 l.fn.names l.fn.layout.parts) (device_lines (l.place + 1) (drop l.place l.fn.names) (drop l.place l.fn.layout.parts))
