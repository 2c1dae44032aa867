use Rattle.std.proofs.Common.{rules}
use Rattle.setup_document.proofs.KeyLaws.{fewer_numbers, more_numbers}
use Rattle.setup_document.proofs.lists.two_numbers.Goals.{in_default-via-then-values-lt2, in_default-via-else-values-lt2+else-values-lt3}
use Rattle.setup_document.proofs.lists.two_numbers.Goals as goal

pub returns-in_default : goal.returns-in_default
returns-in_default c = rw c.refused.ensures (elim c.in_default.branch [
  | in_default-via-then-values-lt2 w ↦ fewer_numbers c.args.place c.args.values.now (search (rules, w))
  | in_default-via-else-values-lt2+else-values-lt3 w ↦ more_numbers c.args.place c.args.values.now (search (rules, w))
])
