use Rattle.std.proofs.Common.{refl}
use Rattle.setup_read.proofs.LoadLaws.{no_first}
use Rattle.setup_read.proofs.read.from_plan.Goals as goal

pub returns-in_err-check_layout-clause-first : goal.returns-in_err-check_layout-clause-first
returns-in_err-check_layout-clause-first g c = no_first _ _ _ refl
