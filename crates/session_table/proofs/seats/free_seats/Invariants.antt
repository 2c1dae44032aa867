use Rattle.std.proofs.Common.{◌≡◌, length, vec_len, vec_capacity}
use Rattle.session_table.specs.AtDesk.{EachIsFree}
use Rattle.session_table.proofs.seats.free_seats.Given as goal

abbrev pub invariant-loop-grant : goal.invariant-loop-grant
invariant-loop-grant l = record {
  long : vec_len l.list ≡ l.grant;
  items : length l.list.items ≡ l.grant;
  room : vec_capacity l.list ≡ l.count;
  each : EachIsFree l.layout l.vector l.uses_trst l.list.items;
}
