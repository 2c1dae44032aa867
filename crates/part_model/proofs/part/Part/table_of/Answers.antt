use Rattle.std.proofs.Common.{subst, sym}
use Rattle.part_model.specs.CodeTables.{Selects}
use Rattle.part_model.proofs.CodeTableLaws.{one_more, length_more}
use Rattle.part_model.proofs.part.Part.table_of.Goals as goal

pub loop-code-preserved : goal.loop-code-preserved
loop-code-preserved c = rw c.in_ok-push.ensures (
  length_more c.loop-code.table c.searched.result c.loop-code.code c.loop-code.invariant.0,
  one_more c.args.self.now c.loop-code.table c.searched.result c.loop-code.invariant.1 (subst (λ n. Selects c.args.self.now n c.searched.result) (sym c.loop-code.invariant.0) c.searched.ensures),
)
