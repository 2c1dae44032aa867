use Rattle.std.proofs.Common.{◌≡◌, drop, not, codes}
use Rattle.std.specs.List.{list_any}
use Rattle.part_model.specs.Parts.{same_name}
use Rattle.part_model.proofs.refusals.any_other_than_usercode.Given as goal

abbrev pub invariant-loop-instruction : goal.invariant-loop-instruction
invariant-loop-instruction l = list_any (λ instruction. not (same_name instruction (codes "USERCODE"))) (drop l.instruction-index l.instructions) ≡ list_any (λ instruction. not (same_name instruction (codes "USERCODE"))) l.instructions
