use Rattle.std.proofs.Common.{◌∙◌, ap, map, sym, subst}
use Rattle.session_table.specs.Tables.{TableView}
use Rattle.session_table.specs.Shown.{EachFew, session_end}
use Rattle.session_table.proofs.Few.{few_ended}
use Rattle.session_table.proofs.table.SessionTable.ended.Goals as goal

pub returns-clause-are : goal.returns-clause-are
returns-clause-are g c = ap (map session_end) c.ended.ensures ∙ ap (λ (t : TableView g.row.C.Denot). t.hub.ended) c.self.view_is

pub returns-clause-few : goal.returns-clause-few
returns-clause-few g c fit = subst EachFew (sym c.ended.ensures) (few_ended c.self.inside.seats c.self.inside.slot _ _ c.self.inside.there (ap (λ (t : TableView g.row.C.Denot). t.hub.broken) c.self.view_is ∙ fit) c.self.invariant.serves)
