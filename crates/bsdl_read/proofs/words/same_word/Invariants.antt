use Rattle.std.proofs.Common.{◌≡◌, length}
use Rattle.bsdl_read.specs.Words.{same_word}
use Rattle.bsdl_read.proofs.words.same_word.Given as goal

abbrev pub invariant-loop-x : goal.invariant-loop-x
invariant-loop-x l = same_word l.rest l.other ≡ same_word l.left l.right

abbrev pub decreases-loop-x : goal.decreases-loop-x
decreases-loop-x l = length l.rest
