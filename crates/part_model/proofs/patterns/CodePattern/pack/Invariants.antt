use Rattle.std.proofs.Common.{length}
use Rattle.part_model.proofs.PackLaws.{Packing}
use Rattle.part_model.proofs.patterns.CodePattern.pack.Given as goal

abbrev pub invariant-loop-digit : goal.invariant-loop-digit
invariant-loop-digit l = Packing l.digits l.rest l.cares l.ones

abbrev pub decreases-loop-digit : goal.decreases-loop-digit
decreases-loop-digit l = length l.rest
