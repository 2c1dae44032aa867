use Rattle.std.proofs.Common.{◌∙◌, sym}
use Rattle.session_table.proofs.Telling.{next_waits}
use Rattle.session_table.proofs.table.SessionTable.next.Goals as goal

pub returns-in-Free-clause-line : goal.returns-in-Free-clause-line
returns-in-Free-clause-line g c = λ fit grant is.
    next_waits c.args.self.now c.self.inside.seats c.self.inside.slot c.self.inside.there c.self.view_is grant c.in-Free.desk c.in-Free.is g.C.Cable.chain g.C.Cable.trst c.self.invariant (sym c.next.ensures ∙ is)
