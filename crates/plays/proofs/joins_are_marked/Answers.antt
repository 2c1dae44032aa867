use Rattle.plays.proofs.OneCapture.{joins_marked}
use Rattle.plays.proofs.joins_are_marked.Goals as goal

pub returns : goal.returns
returns c = joins_marked
