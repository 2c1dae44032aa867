use Rattle.scan_share.proofs.Whole.{start_rests}
use Rattle.scan_share.proofs.start_rests.Goals as goal

pub returns : goal.returns
returns c = start_rests
