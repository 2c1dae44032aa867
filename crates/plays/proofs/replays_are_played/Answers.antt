use Rattle.plays.proofs.Scripts.{replay_played}
use Rattle.plays.proofs.replays_are_played.Goals as goal

pub returns : goal.returns
returns c = replay_played
