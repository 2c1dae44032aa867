use Rattle.scan_share.proofs.Splits.{scan_coded}
use Rattle.scan_share.proofs.scan.Scan.own_length.Goals as goal

pub own_length-requires-clause-coded : goal.own_length-requires-clause-coded
own_length-requires-clause-coded c = scan_coded (record { layout = c.self.inside.layout.now; group = c.self.inside.group.now; codes = c.self.inside.codes.now }) c.self.invariant
