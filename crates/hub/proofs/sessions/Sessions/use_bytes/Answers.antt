use Rattle.hub.proofs.OnTheWire.{known_then_ok}
use Rattle.hub.specs.Served.{conn_at}
use Rattle.hub.specs.Standing.{TookNow}
use Rattle.hub.proofs.Events.{event_then_ok}
use Rattle.hub.proofs.Ends.{event_ends_ok}
use Rattle.hub.proofs.Resting.{comes_then_ok}
use Rattle.hub.proofs.sessions.Sessions.use_bytes.Goals as goal

pub returns-clause-known : goal.returns-clause-known
returns-clause-known g c = known_then_ok _ _ _ _ c.in_ok-took.ensures.known c.give_more.ensures.known

pub returns-clause-stands : goal.returns-clause-stands
returns-clause-stands g c = event_then_ok _ (TookNow (conn_at c.args.self.now.table.hub c.args.grant) c.args.piece.now) c.args.self.now.table.hub c.took.new.self.table.hub c.give_more.new.self.table.hub
    (g.C.Cable.chain c.args.self.now.table.cable) (g.C.Cable.chain c.took.new.self.table.cable) (g.C.Cable.chain c.give_more.new.self.table.cable) (g.W.Wire.told c.args.wire.now) (g.W.Wire.told c.took.new.wire) (g.W.Wire.told c.give_more.new.wire)
    c.in_ok-took.ensures.stands c.give_more.ensures.stands

pub returns-clause-ends : goal.returns-clause-ends
returns-clause-ends g c = event_ends_ok _ (TookNow (conn_at c.args.self.now.table.hub c.args.grant) c.args.piece.now) c.args.self.now.table.hub c.took.new.self.table.hub c.give_more.new.self.table.hub
    (g.C.Cable.chain c.args.self.now.table.cable) (g.C.Cable.chain c.took.new.self.table.cable) (g.W.Wire.told c.args.wire.now) (g.W.Wire.told c.took.new.wire) (g.W.Wire.told c.give_more.new.wire)
    c.in_ok-took.ensures.stands c.in_ok-took.ensures.ends c.give_more.ensures.ends

pub returns-clause-at_rest : goal.returns-clause-at_rest
returns-clause-at_rest g c = comes_then_ok c.args.grant c.args.self.now.table.hub c.took.new.self.table.hub c.give_more.new.self.table.hub (g.W.Wire.told c.args.wire.now) (g.W.Wire.told c.took.new.wire) (g.W.Wire.told c.give_more.new.wire) c.give_more.result c.in_ok-took.ensures.others c.give_more.ensures.at_rest
