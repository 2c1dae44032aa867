use Rattle.std.proofs.Common.{◌≡◌, ◌≤◌, ◌<◌, ◌+◌, ◌-◌, ◌*◌, ◌^◌}
use Rattle.scan_bits.specs.Words.{number_of}
use Rattle.chain_model.specs.Cycles.{after_cycles, answers, clocks_of}
use Rattle.chain_model.proofs.WordRun.{left_of}
use Rattle.chain_model.proofs.scan_chain.ScanChain.run_word.Given as goal

abbrev pub invariant-loop-at : goal.invariant-loop-at
invariant-loop-at l = record {
  after : after_cycles (left_of l.n l.at l.tms l.tdi) l.self ≡ after_cycles (clocks_of l.n l.tms l.tdi) l.fn.self;
  answers : l.word + 2 ^ l.at * number_of (answers (left_of l.n l.at l.tms l.tdi) l.self) ≡ number_of (answers (clocks_of l.n l.tms l.tdi) l.fn.self);
  bound : l.word < 2 ^ l.at;
  within : l.at ≤ l.n;
}

abbrev pub decreases-loop-at : goal.decreases-loop-at
decreases-loop-at l = l.n - l.at
