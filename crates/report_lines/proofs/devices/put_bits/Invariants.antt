use Rattle.std.proofs.Common.{◌≤◌, length}
use Rattle.scan_bits.specs.Words.{number_of}
use Rattle.text_lines.specs.Hex.{hex_digits}
use Rattle.text_lines.proofs.Printing.{Printing}
use Rattle.report_lines.specs.Devices.{bits_text, digit_count}
use Rattle.report_lines.proofs.devices.put_bits.Given as goal

abbrev pub invariant-loop-left : goal.invariant-loop-left
invariant-loop-left g l = record {
  within : l.left ≤ digit_count (length l.bits.bits);
  printing : Printing (g.O.Sink.sent l.fn.out) (g.O.Sink.sent l.out) (g.O.Sink.fault_count l.fn.out) (g.O.Sink.fault_count l.out) (bits_text l.bits.bits) (hex_digits l.left (number_of l.bits.bits));
}

abbrev pub decreases-loop-left : goal.decreases-loop-left
decreases-loop-left g l = l.left
