use Rattle.std.proofs.Common.{◌∙◌, ap}
use Rattle.session_table.specs.Tables.{TableView}
use Rattle.session_table.proofs.table.SessionTable.layout.Goals as goal

pub returns : goal.returns
returns g c = c.layout.ensures ∙ ap (λ (t : TableView g.row.C.Denot). t.hub.layout) c.self.view_is
