use Rattle.std.proofs.Common.{◌≡◌, drop}
use Rattle.std.specs.List.{list_any}
use Rattle.scan_bits.specs.Words.{bits_of}
use Rattle.part_model.specs.Parts.{matches}
use Rattle.part_model.proofs.patterns.any_matches.Given as goal

abbrev pub invariant-loop-pattern : goal.invariant-loop-pattern
invariant-loop-pattern l = list_any (λ pattern. matches pattern (bits_of l.count l.code)) (drop l.pattern-index l.patterns) ≡ list_any (λ pattern. matches pattern (bits_of l.count l.code)) l.patterns
