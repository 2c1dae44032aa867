use Rattle.std.proofs.Common.{◌∙◌, ◌++◌, take-append-drop}
use Rattle.text_lines.specs.Hex.{hex_bytes}
use Rattle.report_lines.proofs.Hexes.{hex_parts}
use Rattle.text_lines.proofs.Printing.{printing_fails, printing_more}
use Rattle.report_lines.proofs.connections.put_hex.Goals as goal

pub returns-in_err-put : goal.returns-in_err-put
returns-in_err-put g c =
    printing_fails (g.O.Sink.sent c.args.out.now) (g.O.Sink.sent c.loop-rest.out) (g.O.Sink.sent c.put.new.out) (g.O.Sink.fault_count c.args.out.now) (g.O.Sink.fault_count c.loop-rest.out) (g.O.Sink.fault_count c.put.new.out)
    (hex_bytes c.args.bytes.now) (hex_bytes c.loop-rest.rest.now) c.loop-rest.invariant (hex_bytes c.split_at.result.0.now) (hex_bytes c.split_at.result.1.now) c.deref.result.now
    (hex_parts c.loop-rest.rest.now c.split_at.result.0.now c.split_at.result.1.now ((λ i. c.split_at.ensures.front i ++ c.split_at.ensures.back i) ∙ take-append-drop c.min.result c.loop-rest.rest.now))
    (c.deref.ensures.0 ∙ c.hex_line.ensures) c.from_residual.result c.from_residual.ensures.0 c.in_err-put.ensures

pub loop-rest-preserved : goal.loop-rest-preserved
loop-rest-preserved g c =
    printing_more (g.O.Sink.sent c.args.out.now) (g.O.Sink.sent c.loop-rest.out) (g.O.Sink.sent c.put.new.out) (g.O.Sink.fault_count c.args.out.now) (g.O.Sink.fault_count c.loop-rest.out) (g.O.Sink.fault_count c.put.new.out)
    (hex_bytes c.args.bytes.now) (hex_bytes c.loop-rest.rest.now) c.loop-rest.invariant (hex_bytes c.split_at.result.0.now) (hex_bytes c.split_at.result.1.now) c.deref.result.now
    (hex_parts c.loop-rest.rest.now c.split_at.result.0.now c.split_at.result.1.now ((λ i. c.split_at.ensures.front i ++ c.split_at.ensures.back i) ∙ take-append-drop c.min.result c.loop-rest.rest.now))
    (c.deref.ensures.0 ∙ c.hex_line.ensures) c.in_ok-put.ensures
