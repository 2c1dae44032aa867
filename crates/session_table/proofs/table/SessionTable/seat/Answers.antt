use Rattle.std.proofs.Common.{◌∙◌, ap, None, Some, sym, cond}
use Rattle.client_session.specs.Sessions.{is_taken}
use Rattle.plays.specs.Stands.{SeatView}
use Rattle.session_table.specs.Tables.{TableView, view_at}
use Rattle.session_table.proofs.Telling.{inside_of, view_of}
use Rattle.session_table.proofs.table.SessionTable.seat.Goals as goal

pub seat-requires : goal.seat-requires
seat-requires g c = inside_of c.args.self.now c.self.inside.seats c.self.inside.slot c.self.inside.there c.self.view_is c.args.grant c.requires

pub returns : goal.returns
returns g c =
    c.seat.ensures
    ∙ ap (λ (v : SeatView). cond (is_taken v.session.stand) (Some (v.conn, v.session.stand)) None) (sym (view_of c.self.inside.seats c.self.inside.slot c.args.grant) ∙ ap (λ (t : TableView g.row.C.Denot). view_at t.hub c.args.grant) c.self.view_is)
