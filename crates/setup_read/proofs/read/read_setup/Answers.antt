use Rattle.std.proofs.Common.{refl}
use Rattle.setup_read.proofs.LoadLaws.{no_first}
use Rattle.setup_read.proofs.read.read_setup.Goals as goal

pub returns-in_err-plan-clause-first : goal.returns-in_err-plan-clause-first
returns-in_err-plan-clause-first g c = no_first _ _ _ refl
