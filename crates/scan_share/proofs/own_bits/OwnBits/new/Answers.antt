use Rattle.std.proofs.Common.{arith, ◌-◌, length}
use Rattle.scan_share.proofs.Woven.{woven_long}
use Rattle.scan_share.proofs.own_bits.OwnBits.new.Goals as goal

pub returns-clause-room : goal.returns-clause-room
returns-clause-room g c = woven_long (g.R.ScanRuns.marks c.args.runs.now) (c.args.into.now.room - length c.args.into.now.bits) (omega (arith, c.requires.room))
