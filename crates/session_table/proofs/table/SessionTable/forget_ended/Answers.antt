use Rattle.session_table.proofs.Telling.{forgets}
use Rattle.session_table.proofs.table.SessionTable.forget_ended.Goals as goal

pub returns : goal.returns
returns g c = forgets c.args.self.now c.self.inside.seats c.forget_ended.new.self c.self.inside.slot c.self.inside.there c.self-1.given.0 c.self.view_is c.forget_ended.ensures.only c.forget_ended.ensures.list c.forget_ended.ensures.ready c.forget_ended.ensures.ended
