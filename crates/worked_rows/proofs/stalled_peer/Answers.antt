use Rattle.std.proofs.Common.{refl}
use Rattle.std.specs.Fmt.{digits}
use Rattle.worked_rows.proofs.stalled_peer.Goals as goal

pub returns-clause-stalled : goal.returns-clause-stalled
unfolding digits
returns-clause-stalled c = record { connections = refl; shared = refl; played_alike = refl }

pub returns-clause-over : goal.returns-clause-over
unfolding digits
returns-clause-over c = record { connections = refl; shared = refl; played_alike = refl }
