use Rattle.hub.proofs.Ends.{ends_ready}
use Rattle.hub.proofs.sessions.Sessions.go_on.Goals as goal

pub returns-clause-ends : goal.returns-clause-ends
returns-clause-ends g c = ends_ready (g.C.Cable.chain c.args.self.now.table.cable) c.args.self.now.table c.set_ready.new.self _ (g.W.Wire.told c.args.wire.now) c.set_ready.ensures
