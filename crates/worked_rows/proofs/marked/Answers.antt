use Rattle.std.proofs.Common.{refl}
use Rattle.worked_rows.proofs.marked.Goals as goal

pub returns : goal.returns
returns c = refl
