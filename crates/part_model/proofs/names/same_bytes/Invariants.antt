use Rattle.std.proofs.Common.{◌≡◌, length}
use Rattle.part_model.specs.Parts.{same_name}
use Rattle.part_model.proofs.names.same_bytes.Given as goal

abbrev pub invariant-loop-bytes : goal.invariant-loop-bytes
invariant-loop-bytes l = (same_name l.rest l.other ≡ same_name l.left l.right) × (length l.rest ≡ length l.other)

abbrev pub decreases-loop-bytes : goal.decreases-loop-bytes
decreases-loop-bytes l = length l.rest
