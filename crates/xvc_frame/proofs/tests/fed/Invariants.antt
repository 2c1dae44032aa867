use Rattle.std.proofs.Common.{length}
use Rattle.xvc_frame.specs.Frames.{IsOpen}
use Rattle.xvc_frame.proofs.tests.fed.Given as goal

abbrev pub invariant-loop-rest : goal.invariant-loop-rest
invariant-loop-rest l = IsOpen l.frame

abbrev pub decreases-loop-rest : goal.decreases-loop-rest
decreases-loop-rest l = length l.rest
