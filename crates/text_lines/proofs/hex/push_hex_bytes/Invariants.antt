use Rattle.std.proofs.Common.{◌≡◌, ◌+◌, ◌*◌, ◌++◌, drop, length}
use Rattle.text_lines.specs.Hex.{hex_bytes}
use Rattle.text_lines.proofs.hex.push_hex_bytes.Given as goal

abbrev pub invariant-loop-byte : goal.invariant-loop-byte
invariant-loop-byte l = record {
  room : length l.line.items ≡ length l.fn.line.items + 2 * l.byte-index;
  put : l.line.items ++ hex_bytes (drop l.byte-index l.fn.bytes) ≡ l.fn.line.items ++ hex_bytes l.fn.bytes;
}
