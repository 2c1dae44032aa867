use Rattle.std.proofs.Common.{refl}
use Rattle.worked_rows.proofs.test_reset.Goals as goal

pub returns-clause-abandons : goal.returns-clause-abandons
returns-clause-abandons c = refl

pub returns-clause-ignored : goal.returns-clause-ignored
returns-clause-ignored c = refl

pub returns-clause-holds : goal.returns-clause-holds
returns-clause-holds c = refl
