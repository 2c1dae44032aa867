use Rattle.grant_table.proofs.Sums.{LongestSummed}
use Rattle.grant_table.proofs.layout.longest_sum.Given as goal

abbrev pub invariant-loop-place : goal.invariant-loop-place
invariant-loop-place l = LongestSummed l.parts l.group l.place-index l.sum
