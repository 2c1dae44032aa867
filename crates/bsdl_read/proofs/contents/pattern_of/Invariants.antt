use Rattle.std.proofs.Common.{◌≡◌, ◌++◌, drop, map, reverse, length}
use Rattle.bsdl_read.specs.Contents.{digit_of}
use Rattle.bsdl_read.proofs.contents.pattern_of.Given as goal

abbrev pub invariant-loop-digit : goal.invariant-loop-digit
invariant-loop-digit l = (reverse (map digit_of (drop l.digit-index l.digits)) ++ l.pattern ≡ reverse (map digit_of l.digits)) × (length l.pattern ≡ l.digit-index)
