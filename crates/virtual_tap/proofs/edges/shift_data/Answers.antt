use Rattle.std.proofs.Common.{None, refl}
use Rattle.virtual_tap.proofs.Cycling.{out_none}
use Rattle.virtual_tap.proofs.edges.shift_data.Goals as goal

pub returns-then-not-scan_open-clause-out : goal.returns-then-not-scan_open-clause-out
returns-then-not-scan_open-clause-out c = rw c.if-not-scan_open.true (out_none None c.args.n c.args.tdi c.ones.result refl c.ones.ensures.is)
