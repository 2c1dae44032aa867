use Rattle.share_top.proofs.Lines.{BitsSummed}
use Rattle.share_top.proofs.print.bits_of_group.Given as goal

abbrev pub invariant-loop-place : goal.invariant-loop-place
invariant-loop-place l = BitsSummed l.fn.layout.parts l.place-items l.place-index l.bits
