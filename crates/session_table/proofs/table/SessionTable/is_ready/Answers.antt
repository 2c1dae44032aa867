use Rattle.std.proofs.Common.{◌∙◌, ap, arith, false}
use Rattle.session_table.specs.Tables.{TableView}
use Rattle.session_table.proofs.Telling.{inside_of}
use Rattle.std.specs.List.{slice_index_or}
use Rattle.session_table.proofs.table.SessionTable.is_ready.Goals as goal

pub is_ready-requires : goal.is_ready-requires
is_ready-requires g c = let l = inside_of c.args.self.now c.self.inside.seats c.self.inside.slot c.self.inside.there c.self.view_is c.args.grant c.requires in omega (arith, l, c.self.invariant.flags)

pub returns : goal.returns
returns g c = c.is_ready.ensures ∙ ap (λ (t : TableView g.row.C.Denot). slice_index_or t.hub.ready c.args.grant false) c.self.view_is
