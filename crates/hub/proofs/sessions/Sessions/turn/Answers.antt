use Rattle.hub.proofs.Openings.{forgot_follows_ok}
use Rattle.hub.proofs.Ends.{turn_ends}
use Rattle.std.proofs.Common.{subst}
use Rattle.std.specs.Result.{OnOk}
use Rattle.base_types.specs.Tellings.{Both}
use Rattle.hub.specs.Resting.{Rests, RestsBut, names}
use Rattle.hub.proofs.sessions.Sessions.turn.Goals as goal

pub returns-clause-stands : goal.returns-clause-stands
returns-clause-stands g c = forgot_follows_ok (λ cable. g.C.Cable.chain cable) c.args.found c.args.self.now.table c.forget_ended.new.self c.attend.new.self.table.hub (g.C.Cable.chain c.attend.new.self.table.cable) (g.W.Wire.told c.args.wire.now) (g.W.Wire.told c.attend.new.wire) c.attend.result c.forget_ended.ensures c.attend.ensures.stands

pub returns-clause-ends : goal.returns-clause-ends
returns-clause-ends g c = turn_ends (λ cable. g.C.Cable.chain cable) c.args.found c.args.self.now.table c.forget_ended.new.self c.attend.new.self.table.hub (g.W.Wire.told c.args.wire.now) (g.W.Wire.told c.attend.new.wire) c.attend.result c.forget_ended.ensures c.attend.ensures.ends

pub returns-clause-rests : goal.returns-clause-rests
returns-clause-rests g c = subst (λ table. OnOk c.attend.result (Both (g.W.Wire.told c.args.wire.now) (g.W.Wire.told c.attend.new.wire) (λ before now. RestsBut (names c.args.found) table.hub before → Rests c.attend.new.self.table.hub now))) c.forget_ended.ensures c.attend.ensures.rests
