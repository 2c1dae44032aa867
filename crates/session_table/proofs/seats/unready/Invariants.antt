use Rattle.std.proofs.Common.{◌≡◌, drop, false, map}
use Rattle.plays.specs.Schedule.{with_ready}
use Rattle.session_table.specs.declared.Ended.{Ended}
use Rattle.session_table.proofs.seats.unready.Given as goal

abbrev pub invariant-loop-one : goal.invariant-loop-one
invariant-loop-one l = with_ready false (map (λ (e : Ended). e.grant) (drop l.one-index l.ended)) l.ready ≡ with_ready false (map (λ (e : Ended). e.grant) l.ended) l.fn.ready
