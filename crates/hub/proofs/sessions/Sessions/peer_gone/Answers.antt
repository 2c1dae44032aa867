use Rattle.std.proofs.Common.{◌≡◌, ap, false, sym, subst, [], ◌∙◌}
use Rattle.client_session.specs.Sessions.{is_here}
use Rattle.session_table.specs.Tables.{stand_at}
use Rattle.base_types.specs.Tellings.{Told}
use Rattle.hub.specs.Served.{AreWhole, AreCalm, ConnsAreOpen}
use Rattle.hub.proofs.AfterCalls.{calm_set, calm_then, here_open, keeps_whole, left_from, open_from, open_set, went_flagged, whole_set, whole_then}
use Rattle.hub.proofs.Shutting.{shuts_beyond, shuts_moved}
use Rattle.hub.proofs.Events.{gone_from, set_keeps}
use Rattle.hub.proofs.Ends.{gone_ends, settled_ends}
use Rattle.hub.proofs.Resting.{gone_away, set_stay, went_stay}
use Rattle.hub.proofs.sessions.Sessions.peer_gone.Goals as goal

pub settle-requires-clause-left : goal.settle-requires-clause-left
settle-requires-clause-left g c = left_from c.args.grant _ c.args.self.now.table.hub c.peer_gone.new.self.hub _ c.ended_count-earlier.ensures c.in_ok-peer_gone.ensures.kept (c.in_ok-peer_gone.ensures.went c.requires.rests)

pub settle-requires-clause-conns : goal.settle-requires-clause-conns
settle-requires-clause-conns g c = open_from c.args.grant _ c.args.self.now.table.hub c.peer_gone.new.self.hub c.args.self.now.gone.items _ _ c.ended_count-earlier.ensures c.in_ok-peer_gone.ensures.kept (c.in_ok-peer_gone.ensures.went c.requires.rests) (here_open c.args.self.now.table.hub c.args.grant c.requires.here) c.requires.conns

pub returns-clause-whole : goal.returns-clause-whole
returns-clause-whole g c = subst (λ gone. AreWhole c.set_ready.new.self.hub gone.items) (sym c.settle.ensures.gone) (whole_set c.settle.new.self.table c.set_ready.new.self _ _ c.args.self.now.gone.items c.set_ready.ensures
    (whole_then c.peer_gone.new.self c.settle.new.self.table _ c.args.self.now.gone.items c.settle.ensures.table (keeps_whole c.args.self.now.table.hub c.peer_gone.new.self.hub c.args.self.now.gone.items c.in_ok-peer_gone.ensures.kept c.requires.whole)))

pub returns-clause-calm : goal.returns-clause-calm
returns-clause-calm g c = subst (λ gone. AreCalm c.set_ready.new.self.hub gone.items) (sym c.settle.ensures.gone) (calm_set c.settle.new.self.table c.set_ready.new.self _ c.args.self.now.gone.items c.set_ready.ensures
    (calm_then c.peer_gone.new.self c.settle.new.self.table _ c.args.self.now.gone.items c.settle.ensures.table c.in_ok-peer_gone.ensures.fit
    (went_flagged c.args.grant _ c.args.self.now.table.hub c.peer_gone.new.self.hub c.args.self.now.gone.items (c.in_ok-peer_gone.ensures.went c.requires.rests) c.requires.own c.requires.others)))

pub returns-clause-conns : goal.returns-clause-conns
returns-clause-conns g c = subst (λ gone. Told (g.W.Wire.told c.settle.new.wire) (ConnsAreOpen c.set_ready.new.self.hub gone.items [])) (sym c.settle.ensures.gone) (open_set c.settle.new.self.table c.set_ready.new.self _ c.args.self.now.gone.items _ c.set_ready.ensures
    (subst (λ table. Told (g.W.Wire.told c.settle.new.wire) (ConnsAreOpen table.hub c.args.self.now.gone.items [])) (sym c.settle.ensures.table) c.settle.ensures.conns))

pub returns-clause-shuts : goal.returns-clause-shuts
returns-clause-shuts g c = shuts_moved _ c.peer_gone.new.self.hub.ended _ _ _ (ap (λ table. table.hub.ended) c.set_ready.ensures ∙ ap (λ table. table.hub.ended) c.settle.ensures.table)
    (shuts_beyond c.args.grant _ c.args.self.now.table.hub c.peer_gone.new.self.hub _ _ _ c.ended_count-earlier.ensures (c.in_ok-peer_gone.ensures.went c.requires.rests) c.settle.ensures.shuts)

pub returns-clause-stands : goal.returns-clause-stands
returns-clause-stands g c = λ before event setting stands. set_keeps (λ cable. g.C.Cable.chain cable) c.settle.new.self.table c.set_ready.new.self _ (g.W.Wire.told c.settle.new.wire) c.set_ready.ensures setting (c.settle.ensures.stands setting
    (went_flagged c.args.grant _ c.args.self.now.table.hub c.peer_gone.new.self.hub c.args.self.now.gone.items (c.in_ok-peer_gone.ensures.went c.requires.rests) c.requires.own c.requires.others)
    (gone_from setting c.args.self.now.table.hub c.peer_gone.new.self.hub c.args.self.now.gone.items c.args.grant (g.C.Cable.chain c.args.self.now.table.cable) (g.C.Cable.chain c.peer_gone.new.self.cable) before (g.W.Wire.told c.args.wire.now) _ c.ended_count-earlier.ensures
    c.requires.whole c.requires.others c.requires.grant c.requires.here c.in_ok-peer_gone.ensures.kept (c.in_ok-peer_gone.ensures.went c.requires.rests) c.in_ok-peer_gone.ensures.follows c.requires.conns (g.met.W.Wire.is_wire c.args.wire.now) event stands))

pub returns-clause-ends : goal.returns-clause-ends
returns-clause-ends g c = λ before event setting earlier stands since. settled_ends setting earlier c.peer_gone.new.self.hub c.set_ready.new.self.hub (g.W.Wire.told c.args.wire.now) (g.W.Wire.told c.settle.new.wire)
    (ap (λ table. table.hub.ended) c.set_ready.ensures ∙ ap (λ table. table.hub.ended) c.settle.ensures.table)
    (c.settle.ensures.ends setting
    (gone_from setting c.args.self.now.table.hub c.peer_gone.new.self.hub c.args.self.now.gone.items c.args.grant (g.C.Cable.chain c.args.self.now.table.cable) (g.C.Cable.chain c.peer_gone.new.self.cable) before (g.W.Wire.told c.args.wire.now) _ c.ended_count-earlier.ensures
    c.requires.whole c.requires.others c.requires.grant c.requires.here c.in_ok-peer_gone.ensures.kept (c.in_ok-peer_gone.ensures.went c.requires.rests) c.in_ok-peer_gone.ensures.follows c.requires.conns (g.met.W.Wire.is_wire c.args.wire.now) event stands))
    (gone_ends setting earlier c.args.self.now.table.hub c.peer_gone.new.self.hub c.args.self.now.gone.items c.args.grant (g.C.Cable.chain c.args.self.now.table.cable) (g.C.Cable.chain c.peer_gone.new.self.cable) before (g.W.Wire.told c.args.wire.now)
    c.requires.whole c.requires.grant c.requires.here c.in_ok-peer_gone.ensures.follows event stands since)

pub returns-clause-others : goal.returns-clause-others
returns-clause-others g c = set_stay c.args.self.now.table.hub c.settle.new.self.table c.set_ready.new.self c.args.grant _ (g.W.Wire.told c.args.wire.now) (g.W.Wire.told c.settle.new.wire) c.set_ready.ensures
    (went_stay c.args.grant _ c.args.self.now.table.hub c.peer_gone.new.self.hub c.settle.new.self.table.hub (g.W.Wire.told c.args.wire.now) (g.W.Wire.told c.settle.new.wire) c.in_ok-peer_gone.ensures.kept (c.in_ok-peer_gone.ensures.went c.requires.rests) c.settle.ensures.rests)

pub returns-clause-away : goal.returns-clause-away
returns-clause-away g c = subst (λ table. is_here (stand_at table.hub c.args.grant) ≡ false) (sym c.set_ready.ensures) (gone_away c.args.grant _ c.args.self.now.table.hub c.peer_gone.new.self c.settle.new.self.table (c.in_ok-peer_gone.ensures.went c.requires.rests) c.settle.ensures.table)
