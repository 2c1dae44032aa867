use Rattle.std.proofs.Common.{arith, drop}
use Rattle.scan_share.proofs.Weaving.{own_fits, run_written, run_fits, others_written, word_given, word_within}
use Rattle.scan_share.proofs.write_bits.WriteBits.next.Goals as goal

pub returns-then-run-eq0-clause-left : goal.returns-then-run-eq0-clause-left
returns-then-run-eq0-clause-left g c =
    others_written c.next-run.result.others c.next-run.result.own (g.R.ScanRuns.marks c.next-run.new.self) (g.R.ScanRuns.marks c.args.self.now.runs) (drop c.args.self.now.at c.args.self.now.bits.now.bits) (omega (arith, c.if-run-eq0.true)) c.next-run.ensures.left

pub word-own-requires-clause-within : goal.word-own-requires-clause-within
word-own-requires-clause-within g c =
    word_within c.next-run.result.own c.args.self.now.at c.args.self.now.bits.now.bits (omega (arith, c.if-run-eq0.false))
    (own_fits c.next-run.result.others c.next-run.result.own c.args.most (g.R.ScanRuns.marks c.next-run.new.self) (g.R.ScanRuns.marks c.args.self.now.runs) (drop c.args.self.now.at c.args.self.now.bits.now.bits) c.next-run.ensures.few c.requires.left c.next-run.ensures.left)

pub next_place-self-requires : goal.next_place-self-requires
next_place-self-requires g c =
    omega (
      arith,
      c.len.ensures.count,
      word_within c.next-run.result.own c.args.self.now.at c.args.self.now.bits.now.bits (omega (arith, c.if-run-eq0.false))
          (own_fits c.next-run.result.others c.next-run.result.own c.args.most (g.R.ScanRuns.marks c.next-run.new.self) (g.R.ScanRuns.marks c.args.self.now.runs) (drop c.args.self.now.at c.args.self.now.bits.now.bits) c.next-run.ensures.few c.requires.left c.next-run.ensures.left),
    )

pub returns-clause-left : goal.returns-clause-left
returns-clause-left g c =
    run_written c.word-own.result c.next-run.result.others c.next-run.result.own (g.R.ScanRuns.marks c.next-run.new.self) (g.R.ScanRuns.marks c.args.self.now.runs) (drop c.args.self.now.at c.args.self.now.bits.now.bits) (drop c.next_place-self.result c.args.self.now.bits.now.bits) (omega (arith, c.next-run.ensures.few, c.requires.few)) c.word-own.ensures.bound
    (word_given c.next-run.result.own c.args.self.now.at c.next_place-self.result c.word-own.result c.args.self.now.bits.now.bits
    (word_within c.next-run.result.own c.args.self.now.at c.args.self.now.bits.now.bits (omega (arith, c.if-run-eq0.false))
    (own_fits c.next-run.result.others c.next-run.result.own c.args.most (g.R.ScanRuns.marks c.next-run.new.self) (g.R.ScanRuns.marks c.args.self.now.runs) (drop c.args.self.now.at c.args.self.now.bits.now.bits) c.next-run.ensures.few c.requires.left c.next-run.ensures.left)) c.next_place-self.ensures c.word-own.ensures.bits)
    c.next-run.ensures.left

pub returns-clause-bound : goal.returns-clause-bound
returns-clause-bound g c = run_fits c.word-own.result c.next-run.result.others c.next-run.result.own (omega (arith, c.next-run.ensures.few, c.requires.few)) c.word-own.ensures.bound
