use Rattle.std.proofs.Common.{◌≡◌, ◌++◌, drop, map}
use Rattle.std.specs.Prelude.{encode_utf8_all}
use Rattle.bsdl_read.specs.Words.{capital}
use Rattle.bsdl_read.proofs.read.capitals.Given as goal

abbrev pub invariant-loop-byte : goal.invariant-loop-byte
invariant-loop-byte l = l.text ++ encode_utf8_all (map capital (drop l.byte-index l.word)) ≡ encode_utf8_all (map capital l.word)
