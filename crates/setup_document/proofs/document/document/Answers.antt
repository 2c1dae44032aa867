use Rattle.std.proofs.Common.{refl, rules}
use Rattle.setup_document.proofs.DocumentLaws.{document_found, no_document}
use Rattle.setup_document.proofs.document.document.Goals as goal

pub returns-in-Ok-clause-found : goal.returns-in-Ok-clause-found
returns-in-Ok-clause-found c = document_found c.args.bytes.now _ c.in-Ok.ensures.ok.0 c.in-Ok.ensures.ok.1

pub returns-in-Err-2-clause-none : goal.returns-in-Err-2-clause-none
returns-in-Err-2-clause-none c = rw c.refused.ensures (refl, refl, no_document c.args.bytes.now (search (rules, c.in-Err.ensures.refused)))
