use Rattle.grant_table.proofs.FaultLaws.{grant_passes}
use Rattle.grant_table.proofs.faults.check_grants.Goals as goal

pub loop-at-preserved : goal.loop-at-preserved
loop-at-preserved c = grant_passes c.args.count c.args.grants.now c.loop-at.at c.loop-at.invariant c.index-grants-at.result c.loop-at-test.true c.index-grants-at.is c.in_ok-check_grant.ensures
