use Rattle.std.proofs.Common.{◌≡◌, ◌+◌, ◌*◌, ◌^◌, ◌≤◌, drop}
use Rattle.wire_port.specs.Lines.{value_from}
use Rattle.wire_port.proofs.lines.value_of.Given as goal

abbrev pub invariant-loop-byte : goal.invariant-loop-byte
invariant-loop-byte l = record {
  is : value_from l.value (drop l.byte-index l.word) ≡ value_from 0 l.word;
  bound : l.value + 23 ≤ 23 * 10 ^ l.byte-index;
}
