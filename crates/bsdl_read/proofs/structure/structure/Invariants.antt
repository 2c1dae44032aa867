use Rattle.std.proofs.Common.{◌-◌, length}
use Rattle.bsdl_read.specs.Structure.{gone, nothing}
use Rattle.bsdl_read.proofs.Going.{Going}
use Rattle.bsdl_read.proofs.structure.structure.Given as goal

abbrev pub invariant-loop-index : goal.invariant-loop-index
invariant-loop-index l = Going l.text l.tokens l.index l.seen (gone l.text 0 nothing l.tokens)

abbrev pub decreases-loop-index : goal.decreases-loop-index
decreases-loop-index l = length l.tokens - l.index
