use Rattle.hub.proofs.Giving.{keeps_forgot, keeps_then_ok}
use Rattle.hub.proofs.Ends.{round_ends}
use Rattle.std.proofs.Common.{subst}
use Rattle.std.specs.Result.{OnOk}
use Rattle.base_types.specs.Tellings.{Both}
use Rattle.hub.specs.Resting.{Rests}
use Rattle.hub.proofs.sessions.Sessions.round.Goals as goal

pub returns-clause-stands : goal.returns-clause-stands
returns-clause-stands g c = keeps_then_ok c.args.self.now.table.hub c.forget_ended.new.self.hub c.rest.new.self.table.hub (g.C.Cable.chain c.args.self.now.table.cable) (g.C.Cable.chain c.forget_ended.new.self.cable) (g.C.Cable.chain c.rest.new.self.table.cable) (g.W.Wire.told c.args.wire.now) (g.W.Wire.told c.args.wire.now) (g.W.Wire.told c.rest.new.wire) c.rest.result
    (keeps_forgot (λ cable. g.C.Cable.chain cable) c.args.self.now.table c.forget_ended.new.self (g.W.Wire.told c.args.wire.now) c.forget_ended.ensures) c.rest.ensures.stands

pub returns-clause-ends : goal.returns-clause-ends
returns-clause-ends g c = round_ends (λ cable. g.C.Cable.chain cable) c.args.self.now.table c.forget_ended.new.self c.rest.new.self.table.hub (g.W.Wire.told c.args.wire.now) (g.W.Wire.told c.rest.new.wire) c.rest.result c.forget_ended.ensures c.rest.ensures.ends

pub returns-clause-rests : goal.returns-clause-rests
returns-clause-rests g c = subst (λ table. OnOk c.rest.result (Both (g.W.Wire.told c.args.wire.now) (g.W.Wire.told c.rest.new.wire) (λ before now. Rests table.hub before → Rests c.rest.new.self.table.hub now))) c.forget_ended.ensures c.rest.ensures.rests
