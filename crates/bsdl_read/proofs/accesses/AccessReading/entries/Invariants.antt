use Rattle.std.proofs.Common.{◌≡◌, ◌≤◌, ◌-◌}
use Rattle.bsdl_read.specs.Contents.{through}
use Rattle.bsdl_read.specs.Places.{between}
use Rattle.bsdl_read.specs.Accesses.{view, next_byte, with_entries}
use Rattle.bsdl_read.proofs.accesses.AccessReading.entries.Given as goal

-- what the entries lead to, and nothing of the next was read
abbrev pub invariant-loop-front : goal.invariant-loop-front
invariant-loop-front l =
    (through next_byte (view l.self) (between l.text l.place l.end) ≡ through next_byte (view l.fn.self) (between l.text l.start l.end)) × (view l.self ≡ with_entries l.self.done.items) × (l.start ≤ l.place) × (l.place ≤ l.end)

abbrev pub decreases-loop-front : goal.decreases-loop-front
decreases-loop-front l = l.end - l.place
