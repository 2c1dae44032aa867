use Rattle.scan_bits.proofs.WordParts.{set_part}
use Rattle.std.proofs.Common.{arith}
use Rattle.scan_bits.proofs.rows.with_part.Goals as goal

pub returns : goal.returns
returns c = set_part c.args.word c.args.low c.args.count c.args.value (omega (arith, c)) c.requires.some c.requires.within
