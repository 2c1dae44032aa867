use Rattle.base_types.proofs.CapitalLanes.{capital_lanes}
use Rattle.base_types.proofs.short_letters.in_capitals.Goals as goal

pub returns : goal.returns
returns c = capital_lanes c.args.bytes c.fits-bytes.0 c.fits-bytes.1
