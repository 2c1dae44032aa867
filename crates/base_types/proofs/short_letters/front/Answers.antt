use Rattle.std.proofs.Common.{take-take}
use Rattle.base_types.proofs.short_letters.front.Goals as goal

pub returns : goal.returns
returns c = take-take c.args.count 16 c.args.bytes.now c.requires.short
