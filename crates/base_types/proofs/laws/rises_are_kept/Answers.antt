use Rattle.base_types.proofs.CountLaws.{rose_first, rose_second}
use Rattle.base_types.proofs.laws.rises_are_kept.Goals as goal

pub returns-clause-first : goal.returns-clause-first
returns-clause-first c = rose_first

pub returns-clause-second : goal.returns-clause-second
returns-clause-second c = rose_second
