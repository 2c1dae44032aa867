use Rattle.std.proofs.Common.{arith}
use Rattle.session_table.proofs.Telling.{inside_of, sets_view}
use Rattle.session_table.proofs.table.SessionTable.set_ready.Goals as goal

pub set_ready-requires : goal.set_ready-requires
set_ready-requires g c = let l = inside_of c.args.self.now c.self.inside.seats c.self.inside.slot c.self.inside.there c.self.view_is c.args.grant c.requires in omega (arith, l, c.self.invariant.flags)

pub returns : goal.returns
returns g c = sets_view c.args.self.now c.self.inside.seats c.set_ready.new.self c.self.inside.slot c.self.inside.there c.self-1.given.0 c.self.view_is c.args.grant c.args.ready c.set_ready.ensures
