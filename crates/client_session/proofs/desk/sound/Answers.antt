use Rattle.scan_share.proofs.Ready.{grants_group}
use Rattle.std.proofs.Common.{arith}
use Rattle.client_session.proofs.desk.sound.Goals as goal

pub returns : goal.returns
returns c = record {
  in_range = c.requires;
  few = omega (arith, c.requires, c.grants-grants.ensures.is, c.grants-grants.ensures.some);
  parts = c.devices-devices.ensures.parts;
  group_is = grants_group c.args.layout.now c.args.grant c.devices-devices.ensures.apart;
}
