use Rattle.std.proofs.Common.{sym, ◌∙◌}
use Rattle.share_top.proofs.ServeCommandLaws.{known_status, serves_so}
use Rattle.share_top.proofs.serving.serve_command.Goals as goal

pub returns-in-Some-clause-served : goal.returns-in-Some-clause-served
returns-in-Some-clause-served g c = λ name words.
    serves_so c.serve_named.result.status (g.S.Shelf.files c.args.shelf.now) (g.S.Shelf.files c.serve_named.new.shelf) (g.S.Shelf.loads c.args.shelf.now) (g.S.Shelf.loads c.serve_named.new.shelf) c.in-Some.name.now (g.B.Cable.trst c.args.bench)
    (record { chain = g.B.Cable.chain c.args.bench; wire = g.W.Wire.told c.args.wire; door = g.W.Wire.door c.args.wire; sent = g.O.Sink.sent c.args.out })
    (record { chain = g.B.Cable.chain c.serve_named.result.bench; wire = g.W.Wire.told c.serve_named.result.wire; door = g.W.Wire.door c.serve_named.result.wire; sent = g.O.Sink.sent c.serve_named.result.out })
    (record { shelf = g.S.Shelf.fault_count c.args.shelf.now; poller = g.W.Wire.fault_count c.args.wire; cable = g.B.Cable.fault_count c.args.bench; sink = g.O.Sink.fault_count c.args.out })
    (record { shelf = g.S.Shelf.fault_count c.serve_named.new.shelf; poller = g.W.Wire.fault_count c.serve_named.result.wire; cable = g.B.Cable.fault_count c.serve_named.result.bench; sink = g.O.Sink.fault_count c.serve_named.result.out })
    name (sym c.in-Some.ensures.named ∙ words) c.serve_named.ensures.runs c.serve_named.ensures.loads (known_status c.serve_named.result.status (g.S.Shelf.files c.args.shelf.now) c.in-Some.name.now (g.B.Cable.trst c.args.bench)
    (record { chain = g.B.Cable.chain c.args.bench; wire = g.W.Wire.told c.args.wire; door = g.W.Wire.door c.args.wire; sent = g.O.Sink.sent c.args.out })
    (record { chain = g.B.Cable.chain c.serve_named.result.bench; wire = g.W.Wire.told c.serve_named.result.wire; door = g.W.Wire.door c.serve_named.result.wire; sent = g.O.Sink.sent c.serve_named.result.out })
    (record { shelf = g.S.Shelf.fault_count c.args.shelf.now; poller = g.W.Wire.fault_count c.args.wire; cable = g.B.Cable.fault_count c.args.bench; sink = g.O.Sink.fault_count c.args.out })
    (record { shelf = g.S.Shelf.fault_count c.serve_named.new.shelf; poller = g.W.Wire.fault_count c.serve_named.result.wire; cable = g.B.Cable.fault_count c.serve_named.result.bench; sink = g.O.Sink.fault_count c.serve_named.result.out }) c.serve_named.ensures.runs)
