use Rattle.setup_document.proofs.WrongTables.{files_are_refused}
use Rattle.setup_document.proofs.laws.files_are_refused.Goals as goal

pub returns : goal.returns
returns c = files_are_refused
