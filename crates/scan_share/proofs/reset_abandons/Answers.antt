use Rattle.scan_share.proofs.Whole.{reset_abandons}
use Rattle.scan_share.proofs.reset_abandons.Goals as goal

pub returns : goal.returns
returns c = reset_abandons
