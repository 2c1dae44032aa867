use Rattle.xvc_frame.proofs.BitWords.{low_mask}
use Rattle.xvc_frame.proofs.bits.lowest.Goals as goal

pub returns : goal.returns
returns c = low_mask c.args.word c.args.width c.requires
