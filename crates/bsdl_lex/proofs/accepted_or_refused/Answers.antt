use Rattle.bsdl_lex.proofs.Forming.{one_of_both, never_both}
use Rattle.bsdl_lex.proofs.accepted_or_refused.Goals as goal

pub returns-clause-one : goal.returns-clause-one
returns-clause-one c = one_of_both

pub returns-clause-never_both : goal.returns-clause-never_both
returns-clause-never_both c = never_both
