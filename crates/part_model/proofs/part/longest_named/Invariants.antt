use Rattle.std.proofs.Common.{◌≡◌, drop, max}
use Rattle.part_model.specs.Parts.{longest_named, named_of}
use Rattle.part_model.proofs.part.longest_named.Given as goal

abbrev pub invariant-loop-register : goal.invariant-loop-register
invariant-loop-register l = max l.greatest (longest_named (named_of (drop l.register-index l.named))) ≡ longest_named (named_of l.named)
