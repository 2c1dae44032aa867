use Rattle.std.proofs.Common.{◌≡◌, ◌+◌, map, drop}
use Rattle.wire_port.specs.Scripts.{line_of}
use Rattle.wire_port.specs.Playing.{sent}
use Rattle.wire_port.proofs.ready.all_offers.Given as goal

abbrev pub invariant-loop-line : goal.invariant-loop-line
invariant-loop-line l = l.sum + sent (map line_of (drop l.line-index l.lines)) ≡ sent (map line_of l.lines)
