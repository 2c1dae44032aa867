use Rattle.std.proofs.Common.{◌≢◌, ◌∙◌, Some, sym, true}
use Rattle.plays.specs.Plays.{next_in_line, seat_at}
use Rattle.session_table.proofs.Telling.{failed_call, follows_call, kept_call, serves_there, went_call_if}
use Rattle.session_table.proofs.table.SessionTable.peer_gone.Goals as goal

pub returns-clause-kept : goal.returns-clause-kept
returns-clause-kept g c =
    kept_call g.C.Cable.chain c.args.self.now c.self.inside.seats c.peer_gone-gone.new.self c.self.inside.slot c.settle.new.slot c.self.inside.there c.self-1.given.0 c.in-Free.desk c.self.view_is (sym c.replace.ensures.value ∙ c.in-Free.is) c.peer_gone-gone.result c.settle.result c.settle.ensures
    c.peer_gone-gone.ensures.kept

pub returns-clause-follows : goal.returns-clause-follows
returns-clause-follows g c =
    follows_call g.C.Cable.chain c.args.self.now c.self.inside.seats c.peer_gone-gone.new.self c.self.inside.slot c.settle.new.slot c.self.inside.there c.self-1.given.0 c.in-Free.desk c.self.view_is (sym c.replace.ensures.value ∙ c.in-Free.is) c.peer_gone-gone.result c.settle.result c.settle.ensures
    (λ play. record { grant = c.args.grant; seat = record (seat_at play c.args.grant) { gone = true } }) c.peer_gone-gone.ensures.played

pub returns-clause-failed : goal.returns-clause-failed
returns-clause-failed g c =
    failed_call g.C.Cable.chain c.args.self.now c.self.inside.seats c.peer_gone-gone.new.self c.self.inside.slot c.settle.new.slot c.self.inside.there c.self-1.given.0 c.in-Free.desk c.self.view_is (sym c.replace.ensures.value ∙ c.in-Free.is) c.peer_gone-gone.result c.settle.result c.settle.ensures
    (λ play. record { grant = c.args.grant; seat = record (seat_at play c.args.grant) { gone = true } })
    (serves_there g.C.Cable.chain c.args.self.now c.self.inside.seats c.peer_gone-gone.new.self c.self.inside.slot c.settle.new.slot c.self.inside.there c.self-1.given.0 c.in-Free.desk c.self.view_is (sym c.replace.ensures.value ∙ c.in-Free.is) c.peer_gone-gone.result c.settle.result c.settle.ensures g.C.Cable.trst c.self.invariant).fits
    c.peer_gone-gone.ensures.kept c.peer_gone-gone.ensures.failed

pub returns-clause-went : goal.returns-clause-went
returns-clause-went g c =
    went_call_if g.C.Cable.chain c.args.self.now c.self.inside.seats c.peer_gone-gone.new.self c.self.inside.slot c.settle.new.slot c.self.inside.there c.self-1.given.0 c.in-Free.desk c.self.view_is (sym c.replace.ensures.value ∙ c.in-Free.is) c.peer_gone-gone.result c.settle.result c.settle.ensures
    g.C.Cable.trst c.args.grant true (λ holds waits. next_in_line holds waits ≢ Some c.args.grant) c.peer_gone-gone.ensures.kept c.peer_gone-gone.ensures.may c.peer_gone-gone.ensures.went
