use Rattle.grant_table.proofs.Groups.{keeps_apart}
use Rattle.grant_table.proofs.layout.Layout.devices.Goals as goal

pub returns-clause-apart : goal.returns-clause-apart
returns-clause-apart c = rw (← c.self.view_is) (keeps_apart _ c.self.invariant.is)
