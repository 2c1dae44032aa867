use Rattle.std.proofs.Common.{refl}
use Rattle.worked_rows.proofs.identification.Goals as goal

pub returns-clause-cycles : goal.returns-clause-cycles
returns-clause-cycles c = refl

pub returns-clause-one : goal.returns-clause-one
returns-clause-one c = refl

pub returns-clause-two : goal.returns-clause-two
returns-clause-two c = refl
