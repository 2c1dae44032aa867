use Rattle.std.proofs.Common.{◌≡◌, drop}
use Rattle.bsdl_read.specs.Contents.{through_all}
use Rattle.bsdl_read.specs.Patterns.{view, next_byte}
use Rattle.bsdl_read.proofs.patterns.PatternReading.tokens.Given as goal

abbrev pub invariant-loop-token : goal.invariant-loop-token
invariant-loop-token l = through_all next_byte l.text (view l.self) (drop l.token-index l.tokens) ≡ through_all next_byte l.text (view l.fn.self) l.tokens
