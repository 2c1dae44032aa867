use Rattle.grant_table.proofs.Groups.{keeps_apart}
use Rattle.grant_table.proofs.layouts_keep_apart.Goals as goal

pub returns : goal.returns
returns c = keeps_apart
