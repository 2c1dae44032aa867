use Rattle.grant_table.proofs.Shapes.{total_within}
use Rattle.grant_table.proofs.layout.Layout.ir_total.Goals as goal

pub returns-clause-bound : goal.returns-clause-bound
returns-clause-bound c = total_within _ c.self.inside.ir_total c.self.inside.bypass_codes.items c.self.invariant
