use Rattle.std.proofs.Common.{length}
use Rattle.xvc_frame.proofs.front.+number.Given as goal

abbrev pub decreases-number : goal.decreases-number
decreases-number l = length l.bytes.now
