use Rattle.wire_port.proofs.Texts.{script_opens_once}
use Rattle.wire_port.proofs.scripts_open_once.Goals as goal

pub returns : goal.returns
returns c = script_opens_once
