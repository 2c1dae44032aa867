use Rattle.std.proofs.Common.{◌≡◌, ◌<◌, true, List, [], ◌∷◌, ◌++◌, length, refl, sym, subst, ◌∙◌}
use Rattle.std.proofs.lemmas.Bool.{lt-ltb}
use Rattle.std.proofs.lemmas.List.Folds.{list_all-append}
use Rattle.part_model.specs.Plans as plans
use Rattle.chain_tests.proofs.parts.named_opcodes.Goals as goal

one_more : (opcodes : List plans.OpcodeEntry) (opcode : plans.OpcodeEntry) → plans.all_have_patterns opcodes ≡ true → 0 < length opcode.patterns → plans.all_have_patterns (opcodes ++ opcode ∷ []) ≡ true
one_more opcodes opcode all some = list_all-append _ opcodes (opcode ∷ []) ∙ rw (all, lt-ltb 0 (length opcode.patterns) some) refl

pub loop-code-preserved : goal.loop-code-preserved
loop-code-preserved c = subst (λ opcodes. plans.all_have_patterns opcodes ≡ true) (sym c.in_ok-push.ensures.added) (one_more c.loop-code.opcodes c.in_ok-opcode.field-0 c.loop-code.invariant c.in_ok-opcode.ensures)
