use Rattle.std.proofs.Common.{◌≡◌, ◌≤◌, ◌+◌, ◌*◌, drop}
use Rattle.chain_tests.proofs.Filling.{bits_from}
use Rattle.chain_tests.proofs.virtual_taps.data_bits.Given as goal

abbrev pub invariant-loop-at : goal.invariant-loop-at
invariant-loop-at l = record {
  sum : l.sum + bits_from l.layout.parts (drop l.at l.group) (drop l.at l.codes) ≡ bits_from l.layout.parts l.group l.codes;
  bound : l.sum ≤ l.at * 4294967296;
}
