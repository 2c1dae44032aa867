use Rattle.plays.proofs.Short.{replies_short}
use Rattle.plays.proofs.replies_are_short.Goals as goal

pub returns : goal.returns
returns c = replies_short
