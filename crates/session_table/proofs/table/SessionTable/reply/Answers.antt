use Rattle.std.proofs.Common.{◌∙◌}
use Rattle.session_table.proofs.Telling.{inside_of, reply_is}
use Rattle.session_table.proofs.table.SessionTable.reply.Goals as goal

pub reply-requires : goal.reply-requires
reply-requires g c = inside_of c.args.self.now c.self.inside.seats c.self.inside.slot c.self.inside.there c.self.view_is c.args.grant c.requires

pub returns : goal.returns
returns g c = c.reply.ensures ∙ reply_is c.args.self.now c.self.inside.seats c.self.inside.slot c.self.inside.there c.self.view_is c.args.grant
