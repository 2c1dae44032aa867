use Rattle.std.proofs.Common.{◌-◌}
use Rattle.bsdl_read.specs.Places.{AreBlanks}
use Rattle.bsdl_read.proofs.places.blanks_end.Given as goal

abbrev pub invariant-loop-stop : goal.invariant-loop-stop
invariant-loop-stop l = AreBlanks l.text l.start l.stop l.end

abbrev pub decreases-loop-stop : goal.decreases-loop-stop
decreases-loop-stop l = l.end - l.stop
