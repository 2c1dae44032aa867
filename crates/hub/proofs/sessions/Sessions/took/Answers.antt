use Rattle.std.proofs.Common.{ap, sym, subst}
use Rattle.client_session.specs.Sessions.{is_taken}
use Rattle.hub.specs.Served.{AreWhole, AreCalm}
use Rattle.hub.proofs.AfterCalls.{calm_then, going_flagged, keeps_whole, left_from, open_from, went_flagged, whole_then}
use Rattle.hub.proofs.Shutting.{shuts_beyond, shuts_moved}
use Rattle.hub.proofs.Events.{took_from}
use Rattle.hub.proofs.Ends.{settled_ends, took_ends}
use Rattle.hub.proofs.Resting.{went_stay}
use Rattle.hub.proofs.sessions.Sessions.took.Goals as goal

pub settle-requires-clause-left : goal.settle-requires-clause-left
settle-requires-clause-left g c = left_from c.args.grant _ c.args.self.now.table.hub c.took.new.self.hub _ c.ended_count-earlier.ensures c.in_ok-took.ensures.kept c.in_ok-took.ensures.went

pub settle-requires-clause-conns : goal.settle-requires-clause-conns
settle-requires-clause-conns g c = open_from c.args.grant _ c.args.self.now.table.hub c.took.new.self.hub c.args.self.now.gone.items _ _ c.ended_count-earlier.ensures c.in_ok-took.ensures.kept c.in_ok-took.ensures.went (ap is_taken c.requires.going) c.requires.conns

pub returns-clause-whole : goal.returns-clause-whole
returns-clause-whole g c = subst (λ gone. AreWhole c.settle.new.self.table.hub gone.items) (sym c.settle.ensures.gone) (whole_then c.took.new.self c.settle.new.self.table _ c.args.self.now.gone.items c.settle.ensures.table (keeps_whole c.args.self.now.table.hub c.took.new.self.hub c.args.self.now.gone.items c.in_ok-took.ensures.kept c.requires.whole))

pub returns-clause-calm : goal.returns-clause-calm
returns-clause-calm g c = subst (λ gone. AreCalm c.settle.new.self.table.hub gone.items) (sym c.settle.ensures.gone) (calm_then c.took.new.self c.settle.new.self.table _ c.args.self.now.gone.items c.settle.ensures.table c.in_ok-took.ensures.fit
    (went_flagged c.args.grant _ c.args.self.now.table.hub c.took.new.self.hub c.args.self.now.gone.items c.in_ok-took.ensures.went (going_flagged c.args.self.now.table.hub c.args.self.now.gone.items c.args.grant c.requires.calm.flagged c.requires.going) (λ other ne taken. c.requires.calm.flagged other taken)))

pub returns-clause-shuts : goal.returns-clause-shuts
returns-clause-shuts g c = shuts_moved _ c.took.new.self.hub.ended _ _ _ (ap (λ table. table.hub.ended) c.settle.ensures.table) (shuts_beyond c.args.grant _ c.args.self.now.table.hub c.took.new.self.hub _ _ _ c.ended_count-earlier.ensures c.in_ok-took.ensures.went c.settle.ensures.shuts)

pub returns-clause-stands : goal.returns-clause-stands
returns-clause-stands g c = λ before event setting stands. c.settle.ensures.stands setting
    (went_flagged c.args.grant _ c.args.self.now.table.hub c.took.new.self.hub c.args.self.now.gone.items c.in_ok-took.ensures.went (going_flagged c.args.self.now.table.hub c.args.self.now.gone.items c.args.grant c.requires.calm.flagged c.requires.going) (λ other ne taken. c.requires.calm.flagged other taken))
    (took_from setting c.args.self.now.table.hub c.took.new.self.hub c.args.self.now.gone.items c.args.grant c.args.piece.now (g.C.Cable.chain c.args.self.now.table.cable) (g.C.Cable.chain c.took.new.self.cable) before (g.W.Wire.told c.args.wire.now) _ c.ended_count-earlier.ensures
    c.requires.whole c.requires.calm.flagged c.requires.grant c.requires.going c.in_ok-took.ensures.kept c.in_ok-took.ensures.went c.in_ok-took.ensures.follows c.requires.conns (g.met.W.Wire.is_wire c.args.wire.now) event stands)

pub returns-clause-ends : goal.returns-clause-ends
returns-clause-ends g c = λ before event setting earlier stands since. settled_ends setting earlier c.took.new.self.hub c.settle.new.self.table.hub (g.W.Wire.told c.args.wire.now) (g.W.Wire.told c.settle.new.wire) (ap (λ table. table.hub.ended) c.settle.ensures.table)
    (c.settle.ensures.ends setting
    (took_from setting c.args.self.now.table.hub c.took.new.self.hub c.args.self.now.gone.items c.args.grant c.args.piece.now (g.C.Cable.chain c.args.self.now.table.cable) (g.C.Cable.chain c.took.new.self.cable) before (g.W.Wire.told c.args.wire.now) _ c.ended_count-earlier.ensures
    c.requires.whole c.requires.calm.flagged c.requires.grant c.requires.going c.in_ok-took.ensures.kept c.in_ok-took.ensures.went c.in_ok-took.ensures.follows c.requires.conns (g.met.W.Wire.is_wire c.args.wire.now) event stands))
    (took_ends setting earlier c.args.self.now.table.hub c.took.new.self.hub c.args.self.now.gone.items c.args.grant c.args.piece.now (g.C.Cable.chain c.args.self.now.table.cable) (g.C.Cable.chain c.took.new.self.cable) before (g.W.Wire.told c.args.wire.now)
    c.requires.whole c.requires.grant c.requires.going c.in_ok-took.ensures.follows event stands since)

pub returns-clause-others : goal.returns-clause-others
returns-clause-others g c = went_stay c.args.grant _ c.args.self.now.table.hub c.took.new.self.hub c.settle.new.self.table.hub (g.W.Wire.told c.args.wire.now) (g.W.Wire.told c.settle.new.wire) c.in_ok-took.ensures.kept c.in_ok-took.ensures.went c.settle.ensures.rests
