use Rattle.plays.proofs.Isolation.{as_alone}
use Rattle.plays.proofs.each_grant_is_as_alone.Goals as goal

pub returns : goal.returns
returns c = as_alone
