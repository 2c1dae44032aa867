use Rattle.std.proofs.Common.{◌∙◌, ap, min, length}
use Rattle.bsdl_lex.specs.Tokens.{belongs}
use Rattle.bsdl_lex.proofs.Fronts.{front_run}
use Rattle.bsdl_lex.proofs.short_run.Goals as goal

pub returns-clause-is : goal.returns-clause-is
returns-clause-is c =
    c.min.ensures ∙ ap (λ n. min n (length c.args.text.now)) (rw c.copy_from_slice.ensures.after at c.leading.ensures) ∙ front_run (belongs c.args.class) c.args.text.now _
