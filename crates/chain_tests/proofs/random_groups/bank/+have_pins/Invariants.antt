use Rattle.std.proofs.Common.{length}
use Rattle.chain_tests.proofs.random_groups.bank.+have_pins.Given as goal

abbrev pub decreases-have_pins : goal.decreases-have_pins
decreases-have_pins l = length l.boards.now
