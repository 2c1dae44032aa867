use Rattle.std.proofs.Common.{refl}
use Rattle.worked_rows.proofs.fixed_pins.Goals as goal

pub returns : goal.returns
returns c = refl
