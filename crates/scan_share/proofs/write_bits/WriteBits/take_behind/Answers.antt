use Rattle.std.proofs.Common.{arith, length, drop, ap, refl, length-append, ◌++◌}
use Rattle.scan_bits.specs.Words.{bits_of}
use Rattle.scan_bits.proofs.WordLaws.{length-bits_of}
use Rattle.scan_share.specs.Rows.{woven}
use Rattle.scan_share.proofs.Taking.{taken_more, taken_word, taken_left}
use Rattle.scan_share.proofs.write_bits.WriteBits.take_behind.Goals as goal

pub next-piece-requires-clause-left : goal.next-piece-requires-clause-left
next-piece-requires-clause-left g c =
    omega (
      arith,
      c.requires.left,
      ap length c.loop-done.invariant.taken.is,
      length-append (bits_of c.loop-done.done c.loop-done.word) (woven (g.R.ScanRuns.marks c.loop-done.self.runs) (drop c.loop-done.self.at c.loop-done.self.bits.now.bits)),
      length-bits_of c.loop-done.done c.loop-done.word,
    )

pub loop-done-preserved : goal.loop-done-preserved
loop-done-preserved g c = record {
  within = omega (arith, c.next-piece.ensures.few, c.loop-done-test.true);
  taken = taken_more c.loop-done.word c.loop-done.done c.next-piece.result.bits c.next-piece.result.count _ c.args.n (woven (g.R.ScanRuns.marks c.loop-done.self.runs) (drop c.loop-done.self.at c.loop-done.self.bits.now.bits))
      (woven (g.R.ScanRuns.marks c.next-piece.new.self.runs) (drop c.next-piece.new.self.at c.next-piece.new.self.bits.now.bits)) (bits_of c.args.first.count c.args.first.bits ++ woven (g.R.ScanRuns.marks c.args.self.now.runs) (drop c.args.self.now.at c.args.self.now.bits.now.bits))
      (omega (arith, c.requires.few)) (omega (arith, c.loop-done-test.true)) c.next-piece.ensures.few refl c.next-piece.ensures.bound c.next-piece.ensures.left c.loop-done.invariant.taken;
}

pub returns-clause-word : goal.returns-clause-word
returns-clause-word g c =
    taken_word c.loop-done.word c.loop-done.done c.args.n (woven (g.R.ScanRuns.marks c.loop-done.self.runs) (drop c.loop-done.self.at c.loop-done.self.bits.now.bits)) (bits_of c.args.first.count c.args.first.bits ++ woven (g.R.ScanRuns.marks c.args.self.now.runs) (drop c.args.self.now.at c.args.self.now.bits.now.bits))
    (omega (arith, c.loop-done-test.false, c.loop-done.invariant.within)) c.loop-done.invariant.taken

pub returns-clause-left : goal.returns-clause-left
returns-clause-left g c =
    taken_left c.loop-done.word c.loop-done.done c.args.n (woven (g.R.ScanRuns.marks c.loop-done.self.runs) (drop c.loop-done.self.at c.loop-done.self.bits.now.bits)) (bits_of c.args.first.count c.args.first.bits ++ woven (g.R.ScanRuns.marks c.args.self.now.runs) (drop c.args.self.now.at c.args.self.now.bits.now.bits))
    (omega (arith, c.loop-done-test.false, c.loop-done.invariant.within)) c.loop-done.invariant.taken
