use Rattle.std.proofs.Common.{◌≡◌, true}
use Rattle.part_model.specs.Plans as plans
use Rattle.chain_tests.proofs.parts.named_opcodes.Given as goal

abbrev pub invariant-loop-code : goal.invariant-loop-code
invariant-loop-code l = plans.all_have_patterns l.opcodes ≡ true
