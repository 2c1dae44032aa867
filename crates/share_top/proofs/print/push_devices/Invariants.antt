use Rattle.share_top.proofs.Lines.{Listing}
use Rattle.share_top.proofs.print.push_devices.Given as goal

abbrev pub invariant-loop-place : goal.invariant-loop-place
invariant-loop-place l = Listing l.fn.line.items l.fn.group l.line.items l.place-index
