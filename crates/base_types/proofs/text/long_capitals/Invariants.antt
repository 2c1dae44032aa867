use Rattle.std.proofs.Common.{◌≡◌, ◌++◌, drop, map, length, vec_len, vec_capacity}
use Rattle.std.specs.Char.{to_ascii_uppercase}
use Rattle.base_types.proofs.text.long_capitals.Given as goal

abbrev pub invariant-loop-letter : goal.invariant-loop-letter
invariant-loop-letter l = (l.bytes.items ++ map to_ascii_uppercase (drop l.letter-index l.letters) ≡ map to_ascii_uppercase l.letters) × (vec_len l.bytes ≡ l.letter-index) × (vec_capacity l.bytes ≡ length l.letters)
