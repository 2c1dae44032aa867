use Rattle.std.proofs.Common.{◌≤◌, ◌++◌, List, ℕ, drop, length, subst, sym, take, take-append-drop}
use Rattle.session_table.specs.AtDesk.{Replies, session_at}
use Rattle.session_table.specs.Tables.{StandsOn, TableView, reply_at, with_given}
use Rattle.session_table.proofs.Replied.{fit_still}
use Rattle.session_table.proofs.Telling.{given_stands, inside_of, replies_view, reply_is}
use Rattle.session_table.proofs.table.SessionTable.gave.Goals as goal

pub gave-requires-clause-grant : goal.gave-requires-clause-grant
gave-requires-clause-grant g c = inside_of c.args.self.now c.self.inside.seats c.self.inside.slot c.self.inside.there c.self.view_is c.args.grant c.requires.grant

pub gave-requires-clause-count : goal.gave-requires-clause-count
gave-requires-clause-count g c = subst (λ (r : List ℕ). c.args.count ≤ length r) (sym (reply_is c.args.self.now c.self.inside.seats c.self.inside.slot c.self.inside.there c.self.view_is c.args.grant)) c.requires.count

pub returns-clause-value : goal.returns-clause-value
returns-clause-value g c = replies_view c.args.self.now c.self.inside.seats c.gave.new.self c.self.inside.slot c.self.inside.there c.self-1.given.0 c.self.view_is c.args.grant (drop c.args.count (reply_at c.args.self.now.hub c.args.grant)) (subst (λ r. Replies c.args.grant (drop c.args.count r) c.self.inside.seats c.gave.new.self) (reply_is c.args.self.now c.self.inside.seats c.self.inside.slot c.self.inside.there c.self.view_is c.args.grant) c.gave.ensures)

pub returns-clause-stands : goal.returns-clause-stands
returns-clause-stands g c = λ setting given chain play stands.
    subst (λ (t : TableView g.row.C.Denot). StandsOn setting t.hub (with_given c.args.grant (given c.args.grant ++ (take c.args.count (reply_at c.args.self.now.hub c.args.grant))) given) chain play) (sym (replies_view c.args.self.now c.self.inside.seats c.gave.new.self c.self.inside.slot c.self.inside.there c.self-1.given.0 c.self.view_is c.args.grant (drop c.args.count (reply_at c.args.self.now.hub c.args.grant)) (subst (λ r. Replies c.args.grant (drop c.args.count r) c.self.inside.seats c.gave.new.self) (reply_is c.args.self.now c.self.inside.seats c.self.inside.slot c.self.inside.there c.self.view_is c.args.grant) c.gave.ensures)))
    (given_stands setting c.args.self.now.hub given play c.args.grant (take c.args.count (reply_at c.args.self.now.hub c.args.grant)) (drop c.args.count (reply_at c.args.self.now.hub c.args.grant)) (take-append-drop c.args.count (reply_at c.args.self.now.hub c.args.grant)) c.requires.grant chain stands)

pub invariant_of-self : goal.invariant_of-self
invariant_of-self g c = fit_still c.args.grant (drop c.args.count (session_at c.self.inside.seats c.args.grant).reply) c.self.inside.seats c.gave.new.self c.gave.ensures c.self.inside.slot (λ cable. g.C.Cable.chain cable) (λ cable. g.C.Cable.trst cable) c.self.invariant
