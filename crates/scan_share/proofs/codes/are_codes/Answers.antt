use Rattle.grant_table.specs.Layouts.{group_of}
use Rattle.scan_share.proofs.CodeTests.{counted_codes}
use Rattle.scan_share.proofs.codes.are_codes.Goals as goal

pub returns-else-group-codes-clause-all : goal.returns-else-group-codes-clause-all
returns-else-group-codes-clause-all c =
    counted_codes c.args.layout.now (group_of c.args.layout.now.grants c.args.grant) c.args.codes.now c.members-group.result.now c.members-group.ensures.group c.members-group.ensures.is
