use Rattle.plays.proofs.Given.{all_given_as_alone}
use Rattle.plays.proofs.at_rest_all_is_given.Goals as goal

pub returns : goal.returns
returns c = all_given_as_alone
