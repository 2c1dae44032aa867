use Rattle.std.proofs.Common.{ap}
use Rattle.hub.proofs.LettingGo.{told_settle}
use Rattle.hub.proofs.Resting.{quiet_rests}
use Rattle.hub.proofs.sessions.Sessions.settle.Goals as goal

pub returns-clause-stands : goal.returns-clause-stands
returns-clause-stands g c setting flagged stands =
    told_settle g.C.Cable.chain setting c.args.self.now.table c.let_all_go.new.self.table c.quiet.new.self.table _ c.args.self.now.gone.items c.let_all_go.new.self.gone.items _ c.let_all_go.ensures.ready
    (ap (λ gone. gone.items) c.let_all_go.ensures.gone) flagged c.let_all_go.ensures.conns (c.quiet.ensures.stands setting) (c.let_all_go.ensures.stands setting stands)

pub returns-clause-rests : goal.returns-clause-rests
returns-clause-rests g c = quiet_rests c.args.self.now.table c.let_all_go.new.self.table c.quiet.new.self.table (g.W.Wire.told c.args.wire.now) (g.W.Wire.told c.let_all_go.new.wire) c.quiet.ensures.seats c.let_all_go.ensures.rests
