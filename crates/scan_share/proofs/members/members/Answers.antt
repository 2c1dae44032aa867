use Rattle.scan_share.proofs.Ready.{grants_group}
use Rattle.scan_share.proofs.members.members.Goals as goal

pub returns-clause-group : goal.returns-clause-group
returns-clause-group c = grants_group c.args.layout.now c.args.grant c.devices-devices.ensures.apart
