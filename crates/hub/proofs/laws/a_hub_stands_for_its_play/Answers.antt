use Rattle.hub.proofs.Standing.{stands_for_play}
use Rattle.hub.proofs.laws.a_hub_stands_for_its_play.Goals as goal

pub returns : goal.returns
returns c = stands_for_play
