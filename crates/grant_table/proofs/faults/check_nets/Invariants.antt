use Rattle.grant_table.proofs.FaultLaws.{NetsTried}
use Rattle.grant_table.proofs.faults.check_nets.Given as goal

abbrev pub invariant-loop-at : goal.invariant-loop-at
invariant-loop-at l = NetsTried l.fn.grants l.fn.nets l.at
