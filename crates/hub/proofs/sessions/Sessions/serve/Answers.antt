use Rattle.hub.proofs.OnTheWire.{known_then_ok}
use Rattle.hub.proofs.Giving.{keeps_then_ok}
use Rattle.hub.proofs.Ends.{ends_then_ok}
use Rattle.hub.proofs.Resting.{comes_then_ok}
use Rattle.hub.proofs.sessions.Sessions.serve.Goals as goal

pub returns-clause-known : goal.returns-clause-known
returns-clause-known g c = known_then_ok _ _ _ _ c.in_ok-give.ensures.known c.go_on.ensures.known

pub returns-clause-stands : goal.returns-clause-stands
returns-clause-stands g c = keeps_then_ok c.args.self.now.table.hub c.give.new.self.table.hub c.go_on.new.self.table.hub (g.C.Cable.chain c.args.self.now.table.cable) (g.C.Cable.chain c.give.new.self.table.cable) (g.C.Cable.chain c.go_on.new.self.table.cable) (g.W.Wire.told c.args.wire.now) (g.W.Wire.told c.give.new.wire) (g.W.Wire.told c.go_on.new.wire) c.go_on.result
    c.in_ok-give.ensures.stands c.go_on.ensures.stands

pub returns-clause-ends : goal.returns-clause-ends
returns-clause-ends g c = ends_then_ok c.args.self.now.table.hub c.give.new.self.table.hub c.go_on.new.self.table.hub (g.C.Cable.chain c.args.self.now.table.cable) (g.C.Cable.chain c.give.new.self.table.cable) (g.W.Wire.told c.args.wire.now) (g.W.Wire.told c.give.new.wire) (g.W.Wire.told c.go_on.new.wire) c.go_on.result
    c.in_ok-give.ensures.stands c.in_ok-give.ensures.ends c.go_on.ensures.ends

pub returns-clause-at_rest : goal.returns-clause-at_rest
returns-clause-at_rest g c = comes_then_ok c.args.grant c.args.self.now.table.hub c.give.new.self.table.hub c.go_on.new.self.table.hub (g.W.Wire.told c.args.wire.now) (g.W.Wire.told c.give.new.wire) (g.W.Wire.told c.go_on.new.wire) c.go_on.result c.in_ok-give.ensures.others c.go_on.ensures.at_rest
