use Rattle.scan_share.proofs.Whole.{write_updates}
use Rattle.scan_share.proofs.write_updates.Goals as goal

pub returns : goal.returns
returns c = write_updates
