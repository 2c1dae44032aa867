use Rattle.std.proofs.Common.{◌∙◌, false, sym}
use Rattle.client_session.specs.Private.{received}
use Rattle.plays.specs.Plays.{seat_at}
use Rattle.session_table.proofs.Telling.{failed_call, follows_call, kept_call, serves_there, went_call}
use Rattle.session_table.proofs.table.SessionTable.took.Goals as goal

pub returns-clause-kept : goal.returns-clause-kept
returns-clause-kept g c =
    kept_call g.C.Cable.chain c.args.self.now c.self.inside.seats c.took-taken.new.self c.self.inside.slot c.settle.new.slot c.self.inside.there c.self-1.given.0 c.in-Free.desk c.self.view_is (sym c.replace.ensures.value ∙ c.in-Free.is) c.took-taken.result c.settle.result c.settle.ensures
    c.took-taken.ensures.kept

pub returns-clause-follows : goal.returns-clause-follows
returns-clause-follows g c =
    follows_call g.C.Cable.chain c.args.self.now c.self.inside.seats c.took-taken.new.self c.self.inside.slot c.settle.new.slot c.self.inside.there c.self-1.given.0 c.in-Free.desk c.self.view_is (sym c.replace.ensures.value ∙ c.in-Free.is) c.took-taken.result c.settle.result c.settle.ensures
    (λ play. record { grant = c.args.grant; seat = received c.args.piece.now (seat_at play c.args.grant) }) c.took-taken.ensures.played

pub returns-clause-failed : goal.returns-clause-failed
returns-clause-failed g c =
    failed_call g.C.Cable.chain c.args.self.now c.self.inside.seats c.took-taken.new.self c.self.inside.slot c.settle.new.slot c.self.inside.there c.self-1.given.0 c.in-Free.desk c.self.view_is (sym c.replace.ensures.value ∙ c.in-Free.is) c.took-taken.result c.settle.result c.settle.ensures
    (λ play. record { grant = c.args.grant; seat = received c.args.piece.now (seat_at play c.args.grant) })
    (serves_there g.C.Cable.chain c.args.self.now c.self.inside.seats c.took-taken.new.self c.self.inside.slot c.settle.new.slot c.self.inside.there c.self-1.given.0 c.in-Free.desk c.self.view_is (sym c.replace.ensures.value ∙ c.in-Free.is) c.took-taken.result c.settle.result c.settle.ensures g.C.Cable.trst c.self.invariant).fits
    c.took-taken.ensures.kept c.took-taken.ensures.failed

pub returns-clause-went : goal.returns-clause-went
returns-clause-went g c =
    went_call g.C.Cable.chain c.args.self.now c.self.inside.seats c.took-taken.new.self c.self.inside.slot c.settle.new.slot c.self.inside.there c.self-1.given.0 c.in-Free.desk c.self.view_is (sym c.replace.ensures.value ∙ c.in-Free.is) c.took-taken.result c.settle.result c.settle.ensures
    g.C.Cable.trst c.args.grant false c.took-taken.ensures.kept c.took-taken.ensures.may c.took-taken.ensures.went
