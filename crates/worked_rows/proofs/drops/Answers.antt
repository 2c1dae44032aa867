use Rattle.std.proofs.Common.{refl}
use Rattle.worked_rows.proofs.drops.Goals as goal

pub returns-clause-in_scan : goal.returns-clause-in_scan
returns-clause-in_scan c = record { connections = refl; shared = refl; played_alike = refl }

pub returns-clause-in_wait : goal.returns-clause-in_wait
returns-clause-in_wait c = record { connections = refl; shared = refl; played_alike = refl }

pub returns-clause-waits_again : goal.returns-clause-waits_again
returns-clause-waits_again c = record { connections = refl; shared = refl; played_alike = refl }

pub returns-clause-told_once : goal.returns-clause-told_once
returns-clause-told_once c = refl
