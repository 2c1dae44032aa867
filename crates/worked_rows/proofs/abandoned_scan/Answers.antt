use Rattle.std.proofs.Common.{refl}
use Rattle.worked_rows.proofs.abandoned_scan.Goals as goal

pub returns : goal.returns
returns c = record { connections = refl; shared = refl; played_alike = refl }
