use Rattle.std.proofs.Common.{◌≡◌, ◌<◌, ◌^◌, true, drop}
use Rattle.std.specs.List.{list_all}
use Rattle.bsdl_lex.specs.Tokens.{is_digit}
use Rattle.bsdl_read.specs.Contents.{number_from}
use Rattle.bsdl_read.proofs.contents.number_of.Given as goal

abbrev pub invariant-loop-byte : goal.invariant-loop-byte
invariant-loop-byte l = (l.value < 10 ^ l.byte-index) × (list_all is_digit (drop l.byte-index l.bytes) ≡ true) × (number_from l.value (drop l.byte-index l.bytes) ≡ number_from 0 l.bytes)
