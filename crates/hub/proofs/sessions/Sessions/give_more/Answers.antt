use Rattle.hub.proofs.AfterCalls.{open_set}
use Rattle.std.proofs.Common.{◌≡◌, ap, arith, false, length, sym, ◌∙◌}
use Rattle.hub.proofs.Giving.{keeps_ready, keeps_then}
use Rattle.hub.proofs.Resting.{set_comes, told_no_more}
use Rattle.base_types.specs.Tellings.{Told}
use Rattle.hub.specs.Resting.{HasNoMore}
use Rattle.hub.proofs.sessions.Sessions.give_more.Goals.{then-all, else-all}
use Rattle.hub.proofs.Ends.{ends_ready, ends_then}
use Rattle.hub.proofs.sessions.Sessions.give_more.Goals as goal

pub returns-clause-conns : goal.returns-clause-conns
returns-clause-conns g c = open_set c.give.new.self.table c.set_ready.new.self _ c.give.new.self.gone.items _ c.set_ready.ensures c.in_ok-all.ensures.conns

pub returns-clause-stands : goal.returns-clause-stands
returns-clause-stands g c = keeps_then c.args.self.now.table.hub c.give.new.self.table.hub c.set_ready.new.self.hub (g.C.Cable.chain c.args.self.now.table.cable) (g.C.Cable.chain c.give.new.self.table.cable) (g.C.Cable.chain c.set_ready.new.self.cable) (g.W.Wire.told c.args.wire.now) (g.W.Wire.told c.give.new.wire) (g.W.Wire.told c.give.new.wire)
    c.in_ok-all.ensures.stands (keeps_ready (λ cable. g.C.Cable.chain cable) c.give.new.self.table c.set_ready.new.self _ (g.W.Wire.told c.give.new.wire) c.set_ready.ensures)

pub returns-clause-ends : goal.returns-clause-ends
returns-clause-ends g c = ends_then c.args.self.now.table.hub c.give.new.self.table.hub c.set_ready.new.self.hub (g.C.Cable.chain c.args.self.now.table.cable) (g.C.Cable.chain c.give.new.self.table.cable) (g.W.Wire.told c.args.wire.now) (g.W.Wire.told c.give.new.wire) (g.W.Wire.told c.give.new.wire)
    c.in_ok-all.ensures.stands c.in_ok-all.ensures.ends (ends_ready (g.C.Cable.chain c.give.new.self.table.cable) c.give.new.self.table c.set_ready.new.self _ (g.W.Wire.told c.give.new.wire) c.set_ready.ensures)

pub returns-clause-at_rest : goal.returns-clause-at_rest
returns-clause-at_rest g c = set_comes c.args.self.now.table.hub c.give.new.self.table c.set_ready.new.self c.args.grant c.if-all.ready (g.W.Wire.told c.args.wire.now) (g.W.Wire.told c.give.new.wire) c.set_ready.ensures (omega (arith, c.in_ok-all.ensures.whole.seats, c.in_ok-all.ensures.whole.ready, ap (λ layout. length layout.grants) c.in_ok-all.ensures.made.layout, c.requires.whole.seats, c.requires.grant)) c.in_ok-all.ensures.others own
  where
    own : c.if-all.ready ≡ false → Told (g.W.Wire.told c.give.new.wire) (HasNoMore c.give.new.self.table.hub c.args.grant)
    own = elim c.if-all.branch [
      | then-all w ↦ λ off. told_no_more c.give.new.self.table.hub c.args.grant (g.W.Wire.told c.give.new.wire) (w.is_going-ready.ensures.no (sym w.ready-is ∙ off))
      | else-all w ↦ λ off. c.in_ok-all.ensures.short w.if-all.false
    ]
