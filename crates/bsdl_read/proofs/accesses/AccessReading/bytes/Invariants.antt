use Rattle.std.proofs.Common.{◌≡◌, ◌≤◌, ◌-◌}
use Rattle.bsdl_read.specs.Contents.{through}
use Rattle.bsdl_read.specs.Places.{between}
use Rattle.bsdl_read.specs.Accesses.{view, next_byte}
use Rattle.bsdl_read.proofs.accesses.AccessReading.bytes.Given as goal

abbrev pub invariant-loop-place : goal.invariant-loop-place
invariant-loop-place l = (through next_byte (view l.self) (between l.text l.place l.end) ≡ through next_byte (view l.fn.self) (between l.text l.start l.end)) × (l.place ≤ l.end)

abbrev pub decreases-loop-place : goal.decreases-loop-place
decreases-loop-place l = l.end - l.place
