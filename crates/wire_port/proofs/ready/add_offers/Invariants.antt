use Rattle.std.proofs.Common.{◌≡◌, ◌+◌, ◌<◌, ℕ, map, drop, get_or}
use Rattle.wire_port.specs.Scripts.{line_of}
use Rattle.wire_port.specs.Playing.{sent_on}
use Rattle.wire_port.proofs.ready.add_offers.Given as goal

abbrev pub invariant-loop-line : goal.invariant-loop-line
invariant-loop-line l = (conn default : ℕ) → conn < 65536 → get_or l.table conn default + sent_on conn (map line_of (drop l.line-index l.lines)) ≡ get_or l.fn.table conn default + sent_on conn (map line_of l.lines)
