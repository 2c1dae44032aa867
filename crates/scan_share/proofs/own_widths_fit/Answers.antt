use Rattle.scan_share.proofs.OwnLongest.{own_widths}
use Rattle.scan_share.proofs.own_widths_fit.Goals as goal

pub returns : goal.returns
returns c = own_widths
