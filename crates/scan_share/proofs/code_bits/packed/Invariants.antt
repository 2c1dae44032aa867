use Rattle.std.proofs.Common.{◌≤◌, ◌++◌, take}
use Rattle.scan_bits.specs.Words.{bits_of}
use Rattle.scan_bits.specs.Registers.{joined}
use Rattle.scan_share.specs.Scans.{codes_of}
use Rattle.scan_share.proofs.Taking.{Taken}
use Rattle.scan_share.proofs.code_bits.packed.Given as goal

abbrev pub invariant-loop-done : goal.invariant-loop-done
invariant-loop-done l = record {
  fits : l.done ≤ l.n;
  within : l.below ≤ l.fn.place;
  taken : Taken l.word l.done (joined (take l.below (codes_of l.layout.parts l.codes))) (bits_of l.fn.code.count l.fn.code.bits ++ joined (take l.fn.place (codes_of l.layout.parts l.codes)));
}

abbrev pub decreases-loop-done : goal.decreases-loop-done
decreases-loop-done l = l.below
