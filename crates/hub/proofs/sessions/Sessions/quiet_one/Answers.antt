use Rattle.std.proofs.Common.{sym}
use Rattle.hub.proofs.Standing.{told_quiet}
use Rattle.hub.proofs.sessions.Sessions.quiet_one.Goals as goal

pub returns-then-not-is_here-clause-stands : goal.returns-then-not-is_here-clause-stands
returns-then-not-is_here-clause-stands g c setting wire flagged conns stands =
    told_quiet g.C.Cable.chain setting c.args.self.now.table c.drop_reply.new.self c.args.self.now.gone.items wire c.args.grant c.drop_reply.ensures.value c.drop_reply.ensures.stands
    (sym c.if-not-is_here.ensures) flagged conns stands
