use Rattle.std.proofs.Common.{◌≡◌, ◌≤◌, ◌<◌, ℕ, length}
use Rattle.std.specs.Prelude.{slice_get}
use Rattle.scan_share.specs.Rows.{IsSplit, scan_words}
use Rattle.scan_share.proofs.scan.Scan.each_is_loaded.Given as goal

abbrev pub invariant-loop-own : goal.invariant-loop-own
invariant-loop-own l = record {
  split : IsSplit l.self.group l.own l.place;
  within : l.place ≤ length l.loaded;
  same : (place : ℕ) → place < l.place → slice_get l.loaded place ≡ slice_get (scan_words l.self) place;
}
