use Rattle.part_model.proofs.PartLaws.{reset_identifies, reset_bypasses}
use Rattle.part_model.proofs.reset_identifies.Goals as goal

pub returns-clause-identified : goal.returns-clause-identified
returns-clause-identified c = reset_identifies

pub returns-clause-other : goal.returns-clause-other
returns-clause-other c = reset_bypasses
