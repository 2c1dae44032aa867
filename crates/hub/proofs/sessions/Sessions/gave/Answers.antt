use Rattle.std.proofs.Common.{refl}
use Rattle.hub.proofs.Giving.{gave_keeps}
use Rattle.hub.proofs.sessions.Sessions.gave.Goals as goal

pub returns-then-not-all-clause-stands : goal.returns-then-not-all-clause-stands
returns-then-not-all-clause-stands g c = gave_keeps (λ cable. g.C.Cable.chain cable) c.args.self.now.table c.gave.new.self c.set_ready.new.self _ c.args.self.now.gone.items c.args.grant c.args.count c.gave.ensures.value c.set_ready.ensures c.requires.whole c.requires.calm c.gave.ensures.stands

pub returns-else-not-all-clause-stands : goal.returns-else-not-all-clause-stands
returns-else-not-all-clause-stands g c = gave_keeps (λ cable. g.C.Cable.chain cable) c.args.self.now.table c.gave.new.self c.gave.new.self c.gave.new.self.hub.ready c.args.self.now.gone.items c.args.grant c.args.count c.gave.ensures.value refl c.requires.whole c.requires.calm c.gave.ensures.stands
