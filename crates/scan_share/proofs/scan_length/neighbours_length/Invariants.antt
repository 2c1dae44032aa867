use Rattle.std.proofs.Common.{◌≡◌, ◌≤◌, ◌+◌, ◌*◌, ◌^◌, drop}
use Rattle.std.specs.List.{sum_by}
use Rattle.scan_share.specs.PrivateChains.{entries_at}
use Rattle.scan_share.specs.Scans.{codes_of, widths_during}
use Rattle.scan_share.proofs.scan_length.neighbours_length.Given as goal

abbrev pub invariant-loop-i : goal.invariant-loop-i
invariant-loop-i l = record {
  whole : l.sum + sum_by (λ w. w) (drop l.i (widths_during (entries_at l.layout.parts l.group) (codes_of (entries_at l.layout.parts l.group) l.codes))) ≡ sum_by (λ w. w) (widths_during (entries_at l.layout.parts l.group) (codes_of (entries_at l.layout.parts l.group) l.codes));
  bound : l.sum ≤ l.i * 2 ^ 32;
}
