use Rattle.std.proofs.Common.{◌≡◌, ◌++◌, drop, map}
use Rattle.grant_table.specs.Layouts.{bypass_word}
use Rattle.grant_table.proofs.layout.bypass_codes.Given as goal

abbrev pub invariant-loop-part : goal.invariant-loop-part
invariant-loop-part l = l.codes.items ++ map bypass_word (drop l.part-index l.parts) ≡ map bypass_word l.parts
