use Rattle.std.proofs.Common.{◌∙◌, sym}
use Rattle.part_model.proofs.part.Part.select.Goals as goal

pub returns-in-Some-clause-is : goal.returns-in-Some-clause-is
returns-in-Some-clause-is c = rw (← c.self.view_is) (c.self.invariant.2.entries c.args.code c.in-Some.entry (sym c.get.ensures ∙ c.in-Some.is)).register

pub returns-in-Some-clause-there : goal.returns-in-Some-clause-there
returns-in-Some-clause-there c = rw (← c.self.view_is) (c.self.invariant.2.entries c.args.code c.in-Some.entry (sym c.get.ensures ∙ c.in-Some.is)).there
