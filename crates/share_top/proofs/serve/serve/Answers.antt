use Rattle.share_top.proofs.ServeLaws.{serve_causes, serves_of}
use Rattle.share_top.proofs.serve.serve.Goals as goal

pub returns-clause-serves : goal.returns-clause-serves
returns-clause-serves g c =
    serves_of c.serve_setup.result.outcome (g.S.Shelf.files c.args.shelf.now) c.args.name.now (g.B.Cable.trst c.args.bench) c.in-Ok.setup
    (record { chain = g.B.Cable.chain c.args.bench; wire = g.W.Wire.told c.args.wire.now; door = g.W.Wire.door c.args.wire.now; sent = g.O.Sink.sent c.args.out.now })
    (record { chain = g.B.Cable.chain c.serve_setup.result.bench; wire = g.W.Wire.told c.serve_setup.new.wire; door = g.W.Wire.door c.serve_setup.new.wire; sent = g.O.Sink.sent c.serve_setup.new.out })
    (record { said = c.in-Ok.ensures.found; trst_is = c.lacks_trst.ensures.serves c.if-lacks_trst.false }) c.serve_setup.ensures.ran

pub returns-clause-causes : goal.returns-clause-causes
returns-clause-causes g c =
    serve_causes c.serve_setup.result.outcome c.in-Ok.setup
    (record { chain = g.B.Cable.chain c.args.bench; wire = g.W.Wire.told c.args.wire.now; door = g.W.Wire.door c.args.wire.now; sent = g.O.Sink.sent c.args.out.now })
    (record { chain = g.B.Cable.chain c.serve_setup.result.bench; wire = g.W.Wire.told c.serve_setup.new.wire; door = g.W.Wire.door c.serve_setup.new.wire; sent = g.O.Sink.sent c.serve_setup.new.out })
    (record { shelf = g.S.Shelf.fault_count c.args.shelf.now; poller = g.W.Wire.fault_count c.args.wire.now; cable = g.B.Cable.fault_count c.args.bench; sink = g.O.Sink.fault_count c.args.out.now })
    (record { shelf = g.S.Shelf.fault_count c.load_setup.new.shelf; poller = g.W.Wire.fault_count c.serve_setup.new.wire; cable = g.B.Cable.fault_count c.serve_setup.result.bench; sink = g.O.Sink.fault_count c.serve_setup.new.out })
    c.serve_setup.ensures.ran c.in-Ok.ensures.same (c.serve_setup.ensures.causes (g.S.Shelf.fault_count c.args.shelf.now))
