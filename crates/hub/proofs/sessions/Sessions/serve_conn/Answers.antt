use Rattle.std.proofs.Common.{sym}
use Rattle.hub.proofs.Resting.{served_ok, unserved}
use Rattle.hub.proofs.sessions.Sessions.serve_conn.Goals as goal

pub returns-in-Some-clause-rests : goal.returns-in-Some-clause-rests
returns-in-Some-clause-rests g c = served_ok c.args.self.now.table.hub c.serve.new.self.table.hub c.args.self.now.gone.items c.in-Some.grant c.args.conn (g.W.Wire.told c.args.wire.now) (g.W.Wire.told c.serve.new.wire) c.serve.result c.requires.conns (sym c.in-Some.ensures) c.serve.ensures.at_rest

pub returns-in-None-clause-rests : goal.returns-in-None-clause-rests
returns-in-None-clause-rests g c = unserved c.args.self.now.table.hub c.args.conn (g.W.Wire.told c.args.wire.now) (sym c.in-None.ensures)
