use Rattle.hub.proofs.Openings.{begins_follow}
use Rattle.hub.proofs.Ends.{begin_ends}
use Rattle.hub.proofs.sessions.Sessions.begin.Goals as goal

pub returns-clause-stands : goal.returns-clause-stands
returns-clause-stands g c = λ port wire wires granted. begins_follow (λ cable. g.C.Cable.chain cable) c.args.self.now.table c.open.new.self c.args.self.now.gone.items c.args.grant c.args.conn port wire c.requires.whole c.requires.grant c.open.ensures.going c.open.ensures.kept c.open.ensures.opened wires granted

pub returns-clause-ends : goal.returns-clause-ends
returns-clause-ends g c = λ port wire wires granted. begin_ends (λ cable. g.C.Cable.chain cable) c.args.self.now.table c.open.new.self c.args.self.now.gone.items c.args.grant c.args.conn port wire c.requires.whole c.requires.grant c.open.ensures.going c.open.ensures.kept c.open.ensures.opened wires granted
