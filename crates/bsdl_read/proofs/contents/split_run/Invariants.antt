use Rattle.std.proofs.Common.{◌≡◌, ◌≤◌, ◌-◌, ℕ, Bool, true, take, length}
use Rattle.std.specs.List.{list_all}
use Rattle.bsdl_read.specs.Contents.{Tests}
use Rattle.bsdl_read.proofs.contents.split_run.Given as goal

abbrev pub invariant-loop-count : goal.invariant-loop-count
invariant-loop-count g l = (l.count ≤ length l.bytes) × ((test : ℕ → Bool) → Tests (goal.F-post g l.passes) test → list_all test (take l.count l.bytes) ≡ true)

abbrev pub decreases-loop-count : goal.decreases-loop-count
decreases-loop-count g l = length l.bytes - l.count
