use Rattle.scan_bits.proofs.WordParts.{masked}
use Rattle.std.proofs.Common.{arith}
use Rattle.scan_bits.proofs.rows.part_of.Goals as goal

pub returns : goal.returns
returns c = masked c.args.word c.args.low c.args.count (omega (arith, c.requires.within))
