use Rattle.std.proofs.Common.{length}
use Rattle.chain_tests.proofs.random_groups.bank.+have_ends.Given as goal

abbrev pub decreases-have_ends : goal.decreases-have_ends
decreases-have_ends l = length l.nets.now
