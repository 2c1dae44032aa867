use Rattle.std.proofs.Common.{◌∷◌, sym}
use Rattle.session_table.specs.Shown.{session_end}
use Rattle.hub.proofs.LettingGo.{told_drop, told_let_go}
use Rattle.hub.proofs.OnTheWire.{known_open}
use Rattle.hub.proofs.Ends.{follow_none, told_ends}
use Rattle.hub.proofs.sessions.Sessions.let_go.Goals as goal

pub returns-then-not-is_drop-clause-known : goal.returns-then-not-is_drop-clause-known
returns-then-not-is_drop-clause-known g c = known_open _ _ _ _ c.requires.open c.shut.ensures.only

pub returns-then-not-is_drop-clause-stands : goal.returns-then-not-is_drop-clause-stands
returns-then-not-is_drop-clause-stands g c setting left are conns stands =
    told_let_go g.C.Cable.chain setting left c.args.self.now.table c.set_ready.new.self c.args.self.now.gone.items _ (session_end c.args.ended) _ _ c.set_ready.ensures (g.met.W.Wire.is_wire c.shut.new.wire) c.shut.ensures.gave are conns stands

pub returns-else-not-is_drop-clause-stands : goal.returns-else-not-is_drop-clause-stands
returns-else-not-is_drop-clause-stands g c setting left are conns stands =
    told_drop g.C.Cable.chain setting left c.args.self.now.table c.set_ready.new.self c.args.self.now.gone.items _ (session_end c.args.ended) _ c.set_ready.ensures (sym c.if-not-is_drop.ensures) are conns stands

pub returns-then-not-is_drop-clause-ends : goal.returns-then-not-is_drop-clause-ends
returns-then-not-is_drop-clause-ends g c setting left are conns stands =
    told_ends g.C.Cable.chain setting left c.args.self.now.table c.set_ready.new.self c.args.self.now.gone.items _ (session_end c.args.ended) _ _ c.set_ready.ensures c.shut.ensures.gave are conns stands

pub returns-else-not-is_drop-clause-ends : goal.returns-else-not-is_drop-clause-ends
returns-else-not-is_drop-clause-ends g c setting left are conns stands = follow_none setting (session_end c.args.ended ∷ left) c.args.self.now.table.hub (g.C.Cable.chain c.args.self.now.table.cable) (g.W.Wire.told c.args.wire.now) stands
