use Rattle.std.proofs.Common.{refl}
use Rattle.std.specs.Fmt.{digits}
use Rattle.worked_rows.proofs.messages.Goals as goal

pub returns-clause-info : goal.returns-clause-info
unfolding digits
returns-clause-info c = refl

pub returns-clause-period : goal.returns-clause-period
returns-clause-period c = refl

pub returns-clause-zero : goal.returns-clause-zero
returns-clause-zero c = refl

pub returns-clause-no_bits : goal.returns-clause-no_bits
returns-clause-no_bits c = refl
