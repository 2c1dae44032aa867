use Rattle.plays.proofs.OneCapture.{none_twice}
use Rattle.plays.proofs.each_waits_one_capture_of_another.Goals as goal

pub returns : goal.returns
returns c = none_twice
