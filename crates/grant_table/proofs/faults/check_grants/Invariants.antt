use Rattle.grant_table.proofs.FaultLaws.{GrantsTried}
use Rattle.grant_table.proofs.faults.check_grants.Given as goal

abbrev pub invariant-loop-at : goal.invariant-loop-at
invariant-loop-at l = GrantsTried l.fn.count l.fn.grants l.at
