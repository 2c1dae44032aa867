use Rattle.bsdl_lex.proofs.Forming.{refusals_have_forms}
use Rattle.bsdl_lex.proofs.refusals_have_forms.Goals as goal

pub returns : goal.returns
returns c = refusals_have_forms
