use Rattle.plays.proofs.Scripts.{replay_rests}
use Rattle.plays.proofs.replays_rest.Goals as goal

pub returns : goal.returns
returns c = replay_rests
