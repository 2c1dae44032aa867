use Rattle.std.proofs.Common.{length}
use Rattle.chain_tests.proofs.random_groups.bank.+cells_at.Given as goal

abbrev pub decreases-cells_at : goal.decreases-cells_at
decreases-cells_at l = length l.boards.now
