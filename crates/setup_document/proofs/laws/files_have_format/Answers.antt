use Rattle.setup_document.proofs.Formats.{documents_have_format, files_have_format}
use Rattle.setup_document.proofs.laws.files_have_format.Goals as goal

pub returns-clause-documents : goal.returns-clause-documents
returns-clause-documents c = documents_have_format

pub returns-clause-files : goal.returns-clause-files
returns-clause-files c = files_have_format
