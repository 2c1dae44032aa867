use Rattle.scan_share.proofs.Splits.{scan_coded}
use Rattle.scan_share.proofs.scan.Scan.put_widths.Goals as goal

pub put_widths-requires-clause-coded : goal.put_widths-requires-clause-coded
put_widths-requires-clause-coded c = scan_coded (record { layout = c.self.inside.layout.now; group = c.self.inside.group.now; codes = c.self.inside.codes.now }) c.self.invariant
