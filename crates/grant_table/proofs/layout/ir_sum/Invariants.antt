use Rattle.grant_table.proofs.Sums.{Summed}
use Rattle.grant_table.proofs.layout.ir_sum.Given as goal

abbrev pub invariant-loop-part : goal.invariant-loop-part
invariant-loop-part l = Summed l.parts l.part-index l.sum
