use Rattle.std.proofs.Common.{refl}
use Rattle.worked_rows.proofs.nets.Goals as goal

pub returns-clause-carried : goal.returns-clause-carried
returns-clause-carried c = refl

pub returns-clause-absent : goal.returns-clause-absent
returns-clause-absent c = refl
