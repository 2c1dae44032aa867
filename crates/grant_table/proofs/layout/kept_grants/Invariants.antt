use Rattle.std.proofs.Common.{◌≡◌, ◌++◌, drop, map}
use Rattle.grant_table.specs.Faults.{shape_for}
use Rattle.grant_table.proofs.layout.kept_grants.Given as goal

abbrev pub invariant-loop-grant : goal.invariant-loop-grant
invariant-loop-grant l = l.all.items ++ map (shape_for l.count) (drop l.grant-index l.grants) ≡ map (shape_for l.count) l.grants
