use Rattle.std.proofs.Common.{◌≡◌, false, replicate}
use Rattle.chain_tests.proofs.virtual_taps.fill.Given as goal

abbrev pub invariant-loop : goal.invariant-loop
invariant-loop l = record {
  bits : l.register.bits ≡ replicate l.counter false;
  room : l.register.room ≡ l.fn.register.room;
}
