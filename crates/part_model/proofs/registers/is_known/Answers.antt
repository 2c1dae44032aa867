use Rattle.std.proofs.Common.{◌∙◌, ap}
use Rattle.std.specs.Option.{is_some}
use Rattle.part_model.proofs.NameIndexLaws.{known_length}
use Rattle.part_model.proofs.registers.is_known.Goals as goal

pub returns-clause-is : goal.returns-clause-is
returns-clause-is c = λ known name is. c.is_some.ensures ∙ ap is_some is ∙ known_length known name
