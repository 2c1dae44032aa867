use Rattle.std.proofs.Common.{sym, ◌∙◌}
use Rattle.bsdl_read.specs.Contents.{is_space, is_pattern_digit}
use Rattle.bsdl_read.proofs.Whole.{begins}
use Rattle.bsdl_read.proofs.opcodes.whole_entry.Goals as goal

pub returns-clause-is : goal.returns-clause-is
returns-clause-is c =
    begins _ _ _ _ _ _ _ _ _ _ _ c.split_word.ensures.whole c.in_ok-first.ensures.cases.0 c.split_run.ensures.whole c.in_ok-behind_sign.ensures.behind c.split_run-2.ensures.whole c.in_ok-behind.ensures.behind
    (sym c.is_letter.ensures ∙ c.if-not-is_letter.false) c.split_word.ensures.letters (c.split_run.ensures.front is_space (λ byte answer is. is))
    (sym c.is_empty.ensures ∙ c.if-is_empty.false) (c.split_run-2.ensures.front is_pattern_digit (λ byte answer is. is))
