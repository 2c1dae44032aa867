use Rattle.scan_share.specs.Codes.{reset_word}
use Rattle.scan_share.proofs.CodeWords.{Filled}
use Rattle.scan_share.proofs.codes.reset_codes.Given as goal

abbrev pub invariant-loop-place : goal.invariant-loop-place
invariant-loop-place l = Filled reset_word l.codes.items l.layout.parts l.place
