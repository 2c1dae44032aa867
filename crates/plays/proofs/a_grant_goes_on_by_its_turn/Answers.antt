use Rattle.plays.proofs.Turning.{go_turn}
use Rattle.plays.proofs.a_grant_goes_on_by_its_turn.Goals as goal

pub returns : goal.returns
returns c = go_turn
