use Rattle.std.proofs.Common.{refl}
use Rattle.worked_rows.proofs.refusals.Goals as goal

pub returns-clause-fits : goal.returns-clause-fits
returns-clause-fits c = refl

pub returns-clause-long : goal.returns-clause-long
returns-clause-long c = refl

pub returns-clause-word : goal.returns-clause-word
returns-clause-word c = refl

pub returns-clause-cut : goal.returns-clause-cut
returns-clause-cut c = refl
