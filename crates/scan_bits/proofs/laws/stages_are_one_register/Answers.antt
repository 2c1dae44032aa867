use Rattle.scan_bits.proofs.Queue.{joined-shifted}
use Rattle.scan_bits.proofs.laws.stages_are_one_register.Goals as goal

pub returns : goal.returns
returns c = joined-shifted
