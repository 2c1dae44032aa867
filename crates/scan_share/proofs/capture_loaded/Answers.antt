use Rattle.scan_share.proofs.Whole.{capture_loaded}
use Rattle.scan_share.proofs.capture_loaded.Goals as goal

pub returns : goal.returns
returns c = capture_loaded
