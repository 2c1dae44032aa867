use Rattle.std.proofs.Common.{rules}
use Rattle.setup_read.proofs.LoadLaws.{counts_nothing}
use Rattle.setup_read.proofs.boards.device_of.Goals as goal

pub returns-clause-cause : goal.returns-clause-cause
returns-clause-cause g c = counts_nothing _ _ c.board_of.result c.board_of.ensures.loads (search (rules, c.in_ok-entity.ensures.cause))
