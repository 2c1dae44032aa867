use Rattle.scan_share.proofs.CodeTests.{Tested}
use Rattle.scan_share.proofs.codes.are_group_codes.Given as goal

abbrev pub invariant-loop-i : goal.invariant-loop-i
invariant-loop-i l = Tested l.layout.parts l.group l.codes l.i
