use Rattle.std.proofs.Common.{◌≡◌, ◌+◌, ◌≤◌, []}
use Rattle.std.specs.Option.{option_map}
use Rattle.wire_port.specs.Words.{lines_of}
use Rattle.wire_port.specs.Scripts.{script_from}
use Rattle.wire_port.specs.Reading.{lines_left, size_left}
use Rattle.wire_port.proofs.read.read_lines.Given as goal

abbrev pub invariant-loop-rest : goal.invariant-loop-rest
invariant-loop-rest l = record {
  is : script_from l.number l.reader (lines_left (option_map (λ text. text.now) l.rest)) ≡ script_from 1 [] (lines_of l.fn.bytes);
  bound : l.number + size_left (option_map (λ text. text.now) l.rest) ≤ 1048578;
}

abbrev pub decreases-loop-rest : goal.decreases-loop-rest
decreases-loop-rest l = size_left (option_map (λ text. text.now) l.rest)
