use Rattle.std.proofs.Common.{sym, subst}
use Rattle.part_model.specs.CodeTables.{IsTableOf}
use Rattle.part_model.proofs.part.Part.fill_table.Goals as goal

pub invariant_of-self : goal.invariant_of-self
invariant_of-self c = (c.self.invariant.0, c.self.invariant.1, subst (λ part. IsTableOf part c.in_ok-self-inside.field-0) (sym c.self.view_is) c.in_ok-self-inside.ensures)
