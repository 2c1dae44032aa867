use Rattle.std.proofs.Common.{arith, ◌+◌, ◌-◌, ◌/◌, ◌%◌, ◌*◌, ◌^◌, ◌∙◌}
use Rattle.scan_bits.specs.Words.{number_of}
use Rattle.text_lines.specs.Hex.{hex_digits}
use Rattle.text_lines.proofs.Printing.{printing_fails, printing_more}
use Rattle.report_lines.specs.Devices.{bits_text}
use Rattle.report_lines.proofs.Numbers.{hex_parts}
use Rattle.report_lines.proofs.devices.put_bits.Goals as goal

pub returns-in_err-put : goal.returns-in_err-put
returns-in_err-put g c =
    printing_fails (g.O.Sink.sent c.args.out.now) (g.O.Sink.sent c.loop-left.out) (g.O.Sink.sent c.put.new.out) (g.O.Sink.fault_count c.args.out.now) (g.O.Sink.fault_count c.loop-left.out) (g.O.Sink.fault_count c.put.new.out)
    (bits_text c.args.bits.now.bits) (hex_digits c.loop-left.left (number_of c.args.bits.now.bits)) c.loop-left.invariant.printing
    (hex_digits ((c.loop-left.left - 1) % 16 + 1) (number_of c.args.bits.now.bits / 2 ^ (4 * (c.loop-left.left - ((c.loop-left.left - 1) % 16 + 1))))) (hex_digits (c.loop-left.left - ((c.loop-left.left - 1) % 16 + 1)) (number_of c.args.bits.now.bits)) c.deref.result.now
    (hex_parts c.loop-left.left (number_of c.args.bits.now.bits) (omega (arith, c.loop-left-test.true)))
    (c.deref.ensures.0 ∙ c.digits_line.ensures) c.from_residual.result c.from_residual.ensures.0 c.in_err-put.ensures

pub loop-left-preserved : goal.loop-left-preserved
loop-left-preserved g c = record {
  within = omega (arith, c.loop-left.invariant.within);
  printing =
      printing_more (g.O.Sink.sent c.args.out.now) (g.O.Sink.sent c.loop-left.out) (g.O.Sink.sent c.put.new.out) (g.O.Sink.fault_count c.args.out.now) (g.O.Sink.fault_count c.loop-left.out) (g.O.Sink.fault_count c.put.new.out)
      (bits_text c.args.bits.now.bits) (hex_digits c.loop-left.left (number_of c.args.bits.now.bits)) c.loop-left.invariant.printing
      (hex_digits ((c.loop-left.left - 1) % 16 + 1) (number_of c.args.bits.now.bits / 2 ^ (4 * (c.loop-left.left - ((c.loop-left.left - 1) % 16 + 1))))) (hex_digits (c.loop-left.left - ((c.loop-left.left - 1) % 16 + 1)) (number_of c.args.bits.now.bits)) c.deref.result.now
      (hex_parts c.loop-left.left (number_of c.args.bits.now.bits) (omega (arith, c.loop-left-test.true)))
      (c.deref.ensures.0 ∙ c.digits_line.ensures) c.in_ok-put.ensures;
}
