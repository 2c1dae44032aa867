use Rattle.grant_table.proofs.Sums.{summed_more, all_parts}
use Rattle.grant_table.proofs.layout.ir_sum.Goals as goal

pub loop-part-preserved : goal.loop-part-preserved
loop-part-preserved c = summed_more c.args.parts.now c.loop-part.part-index c.loop-part.sum c.part-item.result c.ir_len.result c.loop-part.invariant c.loop-part-test.true c.part-item.is c.ir_len.ensures.is c.ir_len.ensures.part

pub returns-clause-parts : goal.returns-clause-parts
returns-clause-parts c = all_parts c.args.parts.now c.loop-part.part-index c.loop-part.sum c.loop-part.invariant c.loop-part-test.false
