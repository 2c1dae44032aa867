use Rattle.scan_share.proofs.Lengths.{own_and_others_scan}
use Rattle.scan_share.proofs.scans_own_and_others.Goals as goal

pub returns : goal.returns
returns c = own_and_others_scan
