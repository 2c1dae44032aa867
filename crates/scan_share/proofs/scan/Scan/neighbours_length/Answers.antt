use Rattle.scan_share.proofs.Splits.{scan_coded}
use Rattle.scan_share.proofs.scan.Scan.neighbours_length.Goals as goal

pub neighbours_length-requires-clause-coded : goal.neighbours_length-requires-clause-coded
neighbours_length-requires-clause-coded c = scan_coded (record { layout = c.self.inside.layout.now; group = c.self.inside.group.now; codes = c.self.inside.codes.now }) c.self.invariant
