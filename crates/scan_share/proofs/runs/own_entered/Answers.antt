use Rattle.scan_share.proofs.Splits.{first_run}
use Rattle.scan_share.proofs.runs.own_entered.Goals as goal

pub returns-clause-same : goal.returns-clause-same
returns-clause-same c = (first_run c.args.group.now c.args.widths.now c.args.stand.own c.args.stand.place c.args.stand.bits c.requires.row c.requires.next c.requires.used).same

pub returns-clause-row : goal.returns-clause-row
returns-clause-row c = (first_run c.args.group.now c.args.widths.now c.args.stand.own c.args.stand.place c.args.stand.bits c.requires.row c.requires.next c.requires.used).row

pub returns-clause-some : goal.returns-clause-some
returns-clause-some c = (first_run c.args.group.now c.args.widths.now c.args.stand.own c.args.stand.place c.args.stand.bits c.requires.row c.requires.next c.requires.used).some
