use Rattle.std.proofs.Common.{◌∙◌, ap}
use Rattle.client_session.specs.Sessions.{view_wants}
use Rattle.session_table.proofs.Telling.{inside_of, session_is, stand_is, unspent_of}
use Rattle.session_table.proofs.table.SessionTable.want.Goals as goal

pub want-requires-clause-grant : goal.want-requires-clause-grant
want-requires-clause-grant g c = inside_of c.args.self.now c.self.inside.seats c.self.inside.slot c.self.inside.there c.self.view_is c.args.grant c.requires.grant

pub want-requires-clause-going : goal.want-requires-clause-going
want-requires-clause-going g c = stand_is c.args.self.now c.self.inside.seats c.self.inside.slot c.self.inside.there c.self.view_is c.args.grant ∙ c.requires.going

pub want-requires-clause-fit : goal.want-requires-clause-fit
want-requires-clause-fit g c = unspent_of c.args.self.now c.self.inside.seats c.self.inside.slot c.self.inside.there c.self.view_is c.args.grant g.C.Cable.chain g.C.Cable.trst c.self.invariant c.requires.fit c.requires.grant

pub returns-clause-value : goal.returns-clause-value
returns-clause-value g c = c.want.ensures.value ∙ ap view_wants (session_is c.args.self.now c.self.inside.seats c.self.inside.slot c.self.inside.there c.self.view_is c.args.grant)
