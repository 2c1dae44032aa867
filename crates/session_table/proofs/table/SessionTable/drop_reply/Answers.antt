use Rattle.std.proofs.Common.{◌++◌, [], subst, sym}
use Rattle.std.proofs.lemmas.List.{append-nil}
use Rattle.session_table.specs.Tables.{StandsOn, TableView, reply_at, with_given}
use Rattle.session_table.proofs.Replied.{fit_still}
use Rattle.session_table.proofs.Telling.{given_stands, inside_of, replies_view}
use Rattle.session_table.proofs.table.SessionTable.drop_reply.Goals as goal

pub drop_reply-requires : goal.drop_reply-requires
drop_reply-requires g c = inside_of c.args.self.now c.self.inside.seats c.self.inside.slot c.self.inside.there c.self.view_is c.args.grant c.requires

pub returns-clause-value : goal.returns-clause-value
returns-clause-value g c = replies_view c.args.self.now c.self.inside.seats c.drop_reply.new.self c.self.inside.slot c.self.inside.there c.self-1.given.0 c.self.view_is c.args.grant [] c.drop_reply.ensures

pub returns-clause-stands : goal.returns-clause-stands
returns-clause-stands g c = λ setting given chain play stands.
    subst (λ (t : TableView g.row.C.Denot). StandsOn setting t.hub (with_given c.args.grant (given c.args.grant ++ (reply_at c.args.self.now.hub c.args.grant)) given) chain play) (sym (replies_view c.args.self.now c.self.inside.seats c.drop_reply.new.self c.self.inside.slot c.self.inside.there c.self-1.given.0 c.self.view_is c.args.grant [] c.drop_reply.ensures))
    (given_stands setting c.args.self.now.hub given play c.args.grant (reply_at c.args.self.now.hub c.args.grant) [] (append-nil (reply_at c.args.self.now.hub c.args.grant)) c.requires chain stands)

pub invariant_of-self : goal.invariant_of-self
invariant_of-self g c = fit_still c.args.grant [] c.self.inside.seats c.drop_reply.new.self c.drop_reply.ensures c.self.inside.slot (λ cable. g.C.Cable.chain cable) (λ cable. g.C.Cable.trst cable) c.self.invariant
