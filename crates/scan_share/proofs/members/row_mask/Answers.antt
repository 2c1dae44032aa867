use Rattle.scan_share.proofs.PlaceMasks.{row_mask}
use Rattle.scan_share.proofs.members.row_mask.Goals as goal

pub returns : goal.returns
returns c = row_mask c.args.first c.args.count c.requires.few
