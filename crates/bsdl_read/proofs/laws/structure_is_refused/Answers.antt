use Rattle.bsdl_read.proofs.Refusing.{structure_refused, files_have_fronts, fronts_have_fronts}
use Rattle.bsdl_read.proofs.laws.structure_is_refused.Goals as goal

pub returns-clause-refused : goal.returns-clause-refused
returns-clause-refused c = structure_refused

pub returns-clause-files : goal.returns-clause-files
returns-clause-files c = files_have_fronts

pub returns-clause-fronts : goal.returns-clause-fronts
returns-clause-fronts c = fronts_have_fronts
