use Rattle.std.proofs.Common.{◌∙◌, ap, arith}
use Rattle.hub.proofs.SeatLists.{quiet_more}
use Rattle.hub.proofs.Standing.{more_quiet}
use Rattle.hub.proofs.sessions.Sessions.quiet.Goals as goal

pub loop-grant-preserved : goal.loop-grant-preserved
loop-grant-preserved g c = record {
  seats = quiet_more c.args.self.now.table c.loop-grant.self.table c.quiet_one.new.self.table c.loop-grant.grant (omega (arith, c.requires.seats, c.requires.flags)) c.loop-grant.invariant.seats c.quiet_one.ensures.seats;
  gone = c.quiet_one.ensures.gone ∙ c.loop-grant.invariant.gone;
  stands = λ setting wire flagged conns stands. more_quiet g.C.Cable.chain setting c.loop-grant.self.table c.quiet_one.new.self.table c.args.self.now.gone.items c.loop-grant.self.gone.items wire c.loop-grant.grant
      c.quiet_one.ensures.seats (ap (λ gone. gone.items) c.loop-grant.invariant.gone) (c.quiet_one.ensures.stands setting wire) (c.loop-grant.invariant.stands setting wire flagged conns stands);
}

pub returns-clause-stands : goal.returns-clause-stands
returns-clause-stands g c setting wire flagged conns stands = (c.loop-grant.invariant.stands setting wire flagged conns stands).2
