use Rattle.chain_model.specs.Boards.{EachHasPins}
use Rattle.chain_model.proofs.yardstick.boards.Given as goal

abbrev pub invariant-loop-device : goal.invariant-loop-device
invariant-loop-device l = EachHasPins l.boards.items
