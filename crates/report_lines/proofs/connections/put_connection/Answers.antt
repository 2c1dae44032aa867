use Rattle.std.proofs.Common.{refl, ◌++◌, ◌∙◌, ap}
use Rattle.text_lines.proofs.Printing.{printing_starts, printing_more, printing_fails, printing_last}
use Rattle.report_lines.specs.Connections.{bytes_text, connection_head, connection_line, connection_tail}
use Rattle.report_lines.proofs.connections.put_connection.Goals as goal

pub returns-in_err-put : goal.returns-in_err-put
returns-in_err-put g c =
    printing_fails (g.O.Sink.sent c.args.out.now) (g.O.Sink.sent c.args.out.now) (g.O.Sink.sent c.put.new.out) (g.O.Sink.fault_count c.args.out.now) (g.O.Sink.fault_count c.args.out.now) (g.O.Sink.fault_count c.put.new.out) (connection_line c.args.connection.now) (connection_head c.args.connection.now ++ (bytes_text c.args.connection.now.gave ++ (connection_tail c.args.connection.now.standing))) (printing_starts (g.O.Sink.sent c.args.out.now) (g.O.Sink.fault_count c.args.out.now) (connection_line c.args.connection.now))
    (connection_head c.args.connection.now) (bytes_text c.args.connection.now.gave ++ (connection_tail c.args.connection.now.standing)) c.deref.result.now refl (c.deref.ensures.0 ∙ c.head.ensures) c.from_residual.result c.from_residual.ensures.0 c.in_err-put.ensures

pub returns-in_err-put_bytes : goal.returns-in_err-put_bytes
returns-in_err-put_bytes g c =
    printing_fails (g.O.Sink.sent c.args.out.now) (g.O.Sink.sent c.put.new.out) (g.O.Sink.sent c.put_bytes.new.out) (g.O.Sink.fault_count c.args.out.now) (g.O.Sink.fault_count c.put.new.out) (g.O.Sink.fault_count c.put_bytes.new.out) (connection_line c.args.connection.now) (bytes_text c.args.connection.now.gave ++ (connection_tail c.args.connection.now.standing)) (printing_more (g.O.Sink.sent c.args.out.now) (g.O.Sink.sent c.args.out.now) (g.O.Sink.sent c.put.new.out) (g.O.Sink.fault_count c.args.out.now) (g.O.Sink.fault_count c.args.out.now) (g.O.Sink.fault_count c.put.new.out) (connection_line c.args.connection.now) (connection_head c.args.connection.now ++ (bytes_text c.args.connection.now.gave ++ (connection_tail c.args.connection.now.standing))) (printing_starts (g.O.Sink.sent c.args.out.now) (g.O.Sink.fault_count c.args.out.now) (connection_line c.args.connection.now))
    (connection_head c.args.connection.now) (bytes_text c.args.connection.now.gave ++ (connection_tail c.args.connection.now.standing)) c.deref.result.now refl (c.deref.ensures.0 ∙ c.head.ensures) c.in_ok-put.ensures)
    (bytes_text c.args.connection.now.gave) (connection_tail c.args.connection.now.standing) (bytes_text c.connection.inside.gave.now) refl (ap (λ of. bytes_text of.gave) c.connection.view_is) c.from_residual-in_err-put_bytes.result c.from_residual-in_err-put_bytes.ensures.0 c.in_err-put_bytes.ensures

pub returns : goal.returns
returns g c =
    printing_last (g.O.Sink.sent c.args.out.now) (g.O.Sink.sent c.put_bytes.new.out) (g.O.Sink.sent c.put-2.new.out) (g.O.Sink.fault_count c.args.out.now) (g.O.Sink.fault_count c.put_bytes.new.out) (g.O.Sink.fault_count c.put-2.new.out) (connection_line c.args.connection.now) (connection_tail c.args.connection.now.standing) (printing_more (g.O.Sink.sent c.args.out.now) (g.O.Sink.sent c.put.new.out) (g.O.Sink.sent c.put_bytes.new.out) (g.O.Sink.fault_count c.args.out.now) (g.O.Sink.fault_count c.put.new.out) (g.O.Sink.fault_count c.put_bytes.new.out) (connection_line c.args.connection.now) (bytes_text c.args.connection.now.gave ++ (connection_tail c.args.connection.now.standing)) (printing_more (g.O.Sink.sent c.args.out.now) (g.O.Sink.sent c.args.out.now) (g.O.Sink.sent c.put.new.out) (g.O.Sink.fault_count c.args.out.now) (g.O.Sink.fault_count c.args.out.now) (g.O.Sink.fault_count c.put.new.out) (connection_line c.args.connection.now) (connection_head c.args.connection.now ++ (bytes_text c.args.connection.now.gave ++ (connection_tail c.args.connection.now.standing))) (printing_starts (g.O.Sink.sent c.args.out.now) (g.O.Sink.fault_count c.args.out.now) (connection_line c.args.connection.now))
    (connection_head c.args.connection.now) (bytes_text c.args.connection.now.gave ++ (connection_tail c.args.connection.now.standing)) c.deref.result.now refl (c.deref.ensures.0 ∙ c.head.ensures) c.in_ok-put.ensures)
    (bytes_text c.args.connection.now.gave) (connection_tail c.args.connection.now.standing) (bytes_text c.connection.inside.gave.now) refl (ap (λ of. bytes_text of.gave) c.connection.view_is) c.in_ok-put_bytes.ensures)
    c.deref-2.result.now (c.deref-2.ensures.0 ∙ c.tail.ensures ∙ ap (λ of. connection_tail of.standing) c.connection.view_is) c.put-2.result c.put-2.ensures
