use Rattle.std.proofs.Common.{◌≡◌, ◌++◌, ◌-◌, false, replicate, vec_len, vec_capacity}
use Rattle.session_table.proofs.seats.none_ready.Given as goal

abbrev pub invariant-loop : goal.invariant-loop
invariant-loop l = (l.ready.items ++ replicate (l.count - l.counter) false ≡ replicate l.count false) × (vec_len l.ready ≡ l.counter) × (vec_capacity l.ready ≡ l.count)
