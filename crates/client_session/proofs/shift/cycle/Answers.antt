use Rattle.client_session.proofs.Cycles.{cycle_moves}
use Rattle.client_session.proofs.shift.cycle.Goals as goal

pub returns-clause-moved : goal.returns-clause-moved
returns-clause-moved c = cycle_moves c.args.tap.now.parts c.rise.new.self.parts c.args.tap.now.view c.rise.new.self.view c.fall.new.self.view c.args.tms c.args.tdi c.fall.result c.requires.low c.requires.capture c.rise.ensures.kept.parts c.rise.ensures.moved c.fall.ensures.moved c.fall.ensures.closing
