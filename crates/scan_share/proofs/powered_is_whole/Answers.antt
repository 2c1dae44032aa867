use Rattle.scan_share.proofs.MadeOf.{powered_whole}
use Rattle.scan_share.proofs.powered_is_whole.Goals as goal

pub returns : goal.returns
returns c = powered_whole
