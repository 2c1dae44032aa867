use Rattle.scan_share.proofs.Whole.{load_and_capture}
use Rattle.scan_share.proofs.load_and_capture.Goals as goal

pub returns : goal.returns
returns c = load_and_capture
