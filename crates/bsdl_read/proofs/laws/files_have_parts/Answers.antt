use Rattle.bsdl_read.proofs.Answering.{files_have_parts}
use Rattle.bsdl_read.proofs.laws.files_have_parts.Goals as goal

pub returns : goal.returns
returns c = files_have_parts
