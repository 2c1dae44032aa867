use Rattle.std.proofs.Common.{[], ◌∙◌, ap, false, sym, subst}
use Rattle.std.proofs.lemmas.List.{get_or-set_same}
use Rattle.client_session.specs.Private.{opened}
use Rattle.client_session.specs.Sessions.{Shows}
use Rattle.session_table.specs.declared.seats.Seat.{Seat}
use Rattle.session_table.specs.AtDesk.{no_entry}
use Rattle.session_table.proofs.Opening.{any_default}
use Rattle.session_table.proofs.seats.Seats.open.Goals as goal

pub returns-clause-shown : goal.returns-clause-shown
returns-clause-shown c = λ seat given types shows.
    let same = any_default c.args.self.now.list.items c.args.grant no_entry c.index_mut-seat.result.now c.requires.grant ∙ sym c.index_mut-seat.ensures.value in
    subst (λ (e : Seat). Shows e.session.view false (opened c.args.conn seat) []) (sym (get_or-set_same c.args.self.now.list.items c.args.grant (record { session = c.open.new.self; conn = c.args.conn }) no_entry c.requires.grant))
    (c.open.ensures.shown c.args.conn seat given (types ∙ ap (λ (e : Seat). e.session.parts) same) (subst (λ (e : Seat). Shows e.session.view false seat given) same shows))
