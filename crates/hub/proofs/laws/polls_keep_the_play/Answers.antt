use Rattle.hub.proofs.Standing.{keeps_play}
use Rattle.hub.proofs.laws.polls_keep_the_play.Goals as goal

pub returns : goal.returns
returns c = keeps_play
