use Rattle.std.proofs.Common.{ap, arith, length}
use Rattle.grant_table.specs.Layouts.{group_of}
use Rattle.scan_share.proofs.Ready.{coded, count_is}
use Rattle.scan_share.proofs.scan_length.scan_length.Goals as goal

pub overflow_sub-result : goal.overflow_sub-result
overflow_sub-result c =
    omega (
      arith,
      count_is c.args.layout.now (group_of c.args.layout.now.grants c.args.grant) c.args.codes.now c.args.own c.devices.result (length c.members-group.result.now) c.members-group.ensures.group c.requires.codes
          c.requires.own c.devices.ensures.is (ap length c.members-group.ensures.is),
    )

pub returns-clause-is : goal.returns-clause-is
returns-clause-is c =
    omega (
      arith,
      count_is c.args.layout.now (group_of c.args.layout.now.grants c.args.grant) c.args.codes.now c.args.own c.devices.result (length c.members-group.result.now) c.members-group.ensures.group c.requires.codes
          c.requires.own c.devices.ensures.is (ap length c.members-group.ensures.is),
    )

pub returns-clause-few : goal.returns-clause-few
returns-clause-few c =
    omega (arith, c.members-group.ensures.few, ap length c.members-group.ensures.is, coded c.args.layout.now (group_of c.args.layout.now.grants c.args.grant) c.args.codes.now c.members-group.ensures.group c.requires.codes)
