use Rattle.wire_port.proofs.Parting.{scripts_have_format, refusals_have_format}
use Rattle.wire_port.proofs.scripts_have_format.Goals as goal

pub returns-clause-scripts : goal.returns-clause-scripts
returns-clause-scripts c = scripts_have_format

pub returns-clause-refusals : goal.returns-clause-refusals
returns-clause-refusals c = refusals_have_format
