use Rattle.plays.proofs.Holding.{scan_held}
use Rattle.plays.proofs.who_scans_holds.Goals as goal

pub returns : goal.returns
returns c = scan_held
