use Rattle.grant_table.proofs.FaultLaws.{net_passes_at}
use Rattle.grant_table.proofs.faults.check_nets.Goals as goal

pub loop-at-preserved : goal.loop-at-preserved
loop-at-preserved c = net_passes_at c.args.grants.now c.args.nets.now c.loop-at.at _ c.loop-at.invariant c.loop-at-test.true c.if-not-is_in_a_grant.ensures c.if-meets_one.ensures
