use Rattle.std.proofs.Common.{refl}
use Rattle.worked_rows.proofs.letters.Goals as goal

pub returns-clause-read : goal.returns-clause-read
returns-clause-read c = refl

pub returns-clause-quit : goal.returns-clause-quit
returns-clause-quit c = refl

pub returns-clause-unknown : goal.returns-clause-unknown
returns-clause-unknown c = refl
