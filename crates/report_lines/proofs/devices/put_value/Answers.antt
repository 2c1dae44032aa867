use Rattle.std.proofs.Common.{refl, ◌++◌, codes}
use Rattle.text_lines.proofs.Printing.{printing_starts, printing_more, printing_fails, printing_last}
use Rattle.report_lines.specs.Devices.{bits_text, value_text}
use Rattle.report_lines.proofs.devices.put_value.Goals as goal

pub returns-in_err-put : goal.returns-in_err-put
returns-in_err-put g c =
    printing_fails (g.O.Sink.sent c.args.out.now) (g.O.Sink.sent c.args.out.now) (g.O.Sink.sent c.put.new.out) (g.O.Sink.fault_count c.args.out.now) (g.O.Sink.fault_count c.args.out.now) (g.O.Sink.fault_count c.put.new.out) (value_text c.args.bits.now.bits) (codes " " ++ (bits_text c.args.bits.now.bits ++ (codes "\n"))) (printing_starts (g.O.Sink.sent c.args.out.now) (g.O.Sink.fault_count c.args.out.now) (value_text c.args.bits.now.bits))
    (codes " ") (bits_text c.args.bits.now.bits ++ (codes "\n")) (codes " ") refl (refl) c.from_residual.result c.from_residual.ensures.0 c.in_err-put.ensures

pub returns-in_err-put_bits : goal.returns-in_err-put_bits
returns-in_err-put_bits g c =
    printing_fails (g.O.Sink.sent c.args.out.now) (g.O.Sink.sent c.put.new.out) (g.O.Sink.sent c.put_bits.new.out) (g.O.Sink.fault_count c.args.out.now) (g.O.Sink.fault_count c.put.new.out) (g.O.Sink.fault_count c.put_bits.new.out) (value_text c.args.bits.now.bits) (bits_text c.args.bits.now.bits ++ (codes "\n")) (printing_more (g.O.Sink.sent c.args.out.now) (g.O.Sink.sent c.args.out.now) (g.O.Sink.sent c.put.new.out) (g.O.Sink.fault_count c.args.out.now) (g.O.Sink.fault_count c.args.out.now) (g.O.Sink.fault_count c.put.new.out) (value_text c.args.bits.now.bits) (codes " " ++ (bits_text c.args.bits.now.bits ++ (codes "\n"))) (printing_starts (g.O.Sink.sent c.args.out.now) (g.O.Sink.fault_count c.args.out.now) (value_text c.args.bits.now.bits))
    (codes " ") (bits_text c.args.bits.now.bits ++ (codes "\n")) (codes " ") refl (refl) c.in_ok-put.ensures)
    (bits_text c.args.bits.now.bits) (codes "\n") (bits_text c.args.bits.now.bits) refl (refl) c.from_residual-in_err-put_bits.result c.from_residual-in_err-put_bits.ensures.0 c.in_err-put_bits.ensures

pub returns : goal.returns
returns g c =
    printing_last (g.O.Sink.sent c.args.out.now) (g.O.Sink.sent c.put_bits.new.out) (g.O.Sink.sent c.put-2.new.out) (g.O.Sink.fault_count c.args.out.now) (g.O.Sink.fault_count c.put_bits.new.out) (g.O.Sink.fault_count c.put-2.new.out) (value_text c.args.bits.now.bits) (codes "\n") (printing_more (g.O.Sink.sent c.args.out.now) (g.O.Sink.sent c.put.new.out) (g.O.Sink.sent c.put_bits.new.out) (g.O.Sink.fault_count c.args.out.now) (g.O.Sink.fault_count c.put.new.out) (g.O.Sink.fault_count c.put_bits.new.out) (value_text c.args.bits.now.bits) (bits_text c.args.bits.now.bits ++ (codes "\n")) (printing_more (g.O.Sink.sent c.args.out.now) (g.O.Sink.sent c.args.out.now) (g.O.Sink.sent c.put.new.out) (g.O.Sink.fault_count c.args.out.now) (g.O.Sink.fault_count c.args.out.now) (g.O.Sink.fault_count c.put.new.out) (value_text c.args.bits.now.bits) (codes " " ++ (bits_text c.args.bits.now.bits ++ (codes "\n"))) (printing_starts (g.O.Sink.sent c.args.out.now) (g.O.Sink.fault_count c.args.out.now) (value_text c.args.bits.now.bits))
    (codes " ") (bits_text c.args.bits.now.bits ++ (codes "\n")) (codes " ") refl (refl) c.in_ok-put.ensures)
    (bits_text c.args.bits.now.bits) (codes "\n") (bits_text c.args.bits.now.bits) refl (refl) c.in_ok-put_bits.ensures)
    (codes "\n") (refl) c.put-2.result c.put-2.ensures
