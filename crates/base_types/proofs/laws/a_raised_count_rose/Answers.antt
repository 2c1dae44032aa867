use Rattle.base_types.proofs.CountLaws.{rose_up, up_rose}
use Rattle.base_types.proofs.laws.a_raised_count_rose.Goals as goal

pub returns-clause-rose : goal.returns-clause-rose
returns-clause-rose c = rose_up

pub returns-clause-up : goal.returns-clause-up
returns-clause-up c = up_rose
