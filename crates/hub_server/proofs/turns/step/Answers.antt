use Rattle.hub_server.proofs.Going.{fault_then, goes_then}
use Rattle.hub_server.proofs.turns.step.Goals as goal

pub returns-in_err-serve_ready-clause-serves : goal.returns-in_err-serve_ready-clause-serves
returns-in_err-serve_ready-clause-serves g c = fault_then (Unit {0}) c.in_err-serve_ready.field-0.0 c.from_residual-in_err-serve_ready.result c.args.hub.now.hub c.attend.new.hub.hub c.serve_ready.new.hub.hub (g.C.Cable.chain c.args.hub.now.cable) (g.C.Cable.chain c.attend.new.hub.cable) (g.C.Cable.chain c.serve_ready.new.hub.cable)
    (g.W.Wire.told c.args.wire.now) (g.W.Wire.told c.attend.new.wire) (g.W.Wire.told c.serve_ready.new.wire) (g.O.Sink.sent c.args.out.now) (g.O.Sink.sent c.attend.new.out) (g.O.Sink.sent c.serve_ready.new.out)
    c.from_residual-in_err-serve_ready.ensures.1 c.in_ok-over.ensures.serves c.in_err-serve_ready.ensures.serves

pub returns-clause-serves : goal.returns-clause-serves
returns-clause-serves g c = goes_then c.args.hub.now.hub c.attend.new.hub.hub c.serve_ready.new.hub.hub (g.C.Cable.chain c.args.hub.now.cable) (g.C.Cable.chain c.attend.new.hub.cable) (g.C.Cable.chain c.serve_ready.new.hub.cable)
    (g.W.Wire.told c.args.wire.now) (g.W.Wire.told c.attend.new.wire) (g.W.Wire.told c.serve_ready.new.wire) (g.O.Sink.sent c.args.out.now) (g.O.Sink.sent c.attend.new.out) (g.O.Sink.sent c.serve_ready.new.out)
    c.in_ok-over.ensures.serves c.in_ok-serve_ready.ensures.serves
