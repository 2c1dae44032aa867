use Rattle.std.proofs.Common.{arith}
use Rattle.chain_model.proofs.WordRun.{next_chain, next_answers, next_bound}
use Rattle.chain_model.proofs.scan_chain.ScanChain.run_word.Goals as goal

pub loop-at-preserved : goal.loop-at-preserved
loop-at-preserved c = record {
  after = next_chain c.loop-at.self c.piece-count.new.self _ c.args.n c.loop-at.at c.piece-count.result.0 c.args.tms c.args.tdi (omega arith) c.piece-count.ensures.after c.loop-at.invariant.after;
  answers = next_answers c.loop-at.self c.piece-count.new.self c.args.n c.loop-at.at c.piece-count.result.0 c.args.tms c.args.tdi c.loop-at.word c.piece-count.result.1 _ (omega arith) c.requires
      c.loop-at.invariant.bound c.piece-count.ensures.bound c.piece-count.ensures.answers c.piece-count.ensures.after c.loop-at.invariant.answers;
  bound = next_bound c.loop-at.word c.piece-count.result.1 c.loop-at.at c.piece-count.result.0 c.loop-at.invariant.bound c.piece-count.ensures.bound (omega arith);
  within = omega arith;
}
