use Rattle.plays.proofs.Over.{seats_over}
use Rattle.plays.proofs.seats_are_over_the_layout.Goals as goal

pub returns : goal.returns
returns c = seats_over
