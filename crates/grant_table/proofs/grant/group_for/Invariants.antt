use Rattle.std.proofs.Common.{◌≡◌, ◌++◌}
use Rattle.grant_table.proofs.Places.{places_of}
use Rattle.grant_table.proofs.grant.group_for.Given as goal

abbrev pub invariant-loop-place : goal.invariant-loop-place
invariant-loop-place l = l.group.items ++ places_of l.fn.devices l.fn.count l.place ≡ places_of l.fn.devices l.fn.count 0
