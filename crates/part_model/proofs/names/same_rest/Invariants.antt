use Rattle.std.proofs.Common.{◌≡◌, length}
use Rattle.part_model.specs.Parts.{same_name}
use Rattle.part_model.proofs.names.same_rest.Given as goal

abbrev pub invariant-loop-byte : goal.invariant-loop-byte
invariant-loop-byte l = same_name l.rest l.other ≡ same_name l.left l.right

abbrev pub decreases-loop-byte : goal.decreases-loop-byte
decreases-loop-byte l = length l.rest
