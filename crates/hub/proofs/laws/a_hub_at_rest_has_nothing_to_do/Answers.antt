use Rattle.hub.proofs.AtRest.{at_rest}
use Rattle.hub.proofs.laws.a_hub_at_rest_has_nothing_to_do.Goals as goal

pub returns : goal.returns
returns c = at_rest
