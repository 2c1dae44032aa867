use Rattle.std.proofs.Common.{◌∙◌, ap}
use Rattle.session_table.specs.Tables.{TableView}
use Rattle.session_table.proofs.table.SessionTable.waits.Goals as goal

pub returns : goal.returns
returns g c = c.joins.ensures ∙ ap (λ (t : TableView g.row.C.Denot). t.hub.joins) c.self.view_is
