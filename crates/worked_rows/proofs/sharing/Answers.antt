use Rattle.std.proofs.Common.{refl}
use Rattle.worked_rows.proofs.sharing.Goals as goal

pub returns-clause-turns : goal.returns-clause-turns
returns-clause-turns c = record { connections = refl; shared = refl; played_alike = refl }

pub returns-clause-held : goal.returns-clause-held
returns-clause-held c = record { connections = refl; shared = refl; played_alike = refl }

pub returns-clause-handed_over : goal.returns-clause-handed_over
returns-clause-handed_over c = record { connections = refl; shared = refl; played_alike = refl }

pub returns-clause-scanned_twice : goal.returns-clause-scanned_twice
returns-clause-scanned_twice c = record { connections = refl; shared = refl; played_alike = refl }
