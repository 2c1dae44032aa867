use Rattle.std.proofs.Common.{◌∙◌, sym}
use Rattle.part_model.proofs.part.Part.selected_length.Goals as goal

pub returns-in-Some : goal.returns-in-Some
returns-in-Some c = rw (← c.self.view_is) (c.self.invariant.2.entries c.args.code c.in-Some.entry (sym c.get.ensures ∙ c.in-Some.is)).length
