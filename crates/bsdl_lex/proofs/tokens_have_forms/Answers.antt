use Rattle.bsdl_lex.proofs.Forming.{tokens_have_forms}
use Rattle.bsdl_lex.proofs.tokens_have_forms.Goals as goal

pub returns : goal.returns
returns c = tokens_have_forms
