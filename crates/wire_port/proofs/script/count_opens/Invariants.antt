use Rattle.std.proofs.Common.{◌≡◌, ◌+◌, ◌≤◌, map, drop}
use Rattle.wire_port.specs.Scripts.{line_of, opens_in}
use Rattle.wire_port.proofs.script.count_opens.Given as goal

abbrev pub invariant-loop-line : goal.invariant-loop-line
invariant-loop-line l = record {
  counted : l.count + opens_in (map line_of (drop l.line-index l.lines)) ≡ opens_in (map line_of l.lines);
  bound : l.count ≤ l.line-index;
}
