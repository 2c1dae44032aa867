use Rattle.plays.proofs.Given.{shared_as_alone}
use Rattle.plays.proofs.what_stands_is_shared_as_alone.Goals as goal

pub returns : goal.returns
returns c = shared_as_alone
