use Rattle.bsdl_read.proofs.Answering.{one_of_both, never_both}
use Rattle.bsdl_read.proofs.laws.entity_or_refusal.Goals as goal

pub returns-clause-one : goal.returns-clause-one
returns-clause-one c = one_of_both

pub returns-clause-never_both : goal.returns-clause-never_both
returns-clause-never_both c = never_both
