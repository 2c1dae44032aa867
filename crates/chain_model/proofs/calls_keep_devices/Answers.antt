use Rattle.chain_model.proofs.Calls.{length-called}
use Rattle.chain_model.proofs.calls_keep_devices.Goals as goal

pub returns : goal.returns
returns c = length-called
