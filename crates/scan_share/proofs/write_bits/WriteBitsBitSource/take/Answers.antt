use Rattle.std.proofs.Common.{arith, drop, ap, ◌∙◌, take}
use Rattle.scan_bits.specs.Words.{number_of}
use Rattle.scan_share.specs.Rows.{woven}
use Rattle.scan_share.proofs.Taking.{taken_word, taken_left}
use Rattle.scan_share.proofs.write_bits.WriteBitsBitSource.take.Goals as goal

pub returns-then-first-n-clause-word : goal.returns-then-first-n-clause-word
returns-then-first-n-clause-word g c =
    taken_word c.next-first.result.bits c.next-first.result.count c.args.n (woven (g.R.ScanRuns.marks c.next-first.new.self.runs) (drop c.next-first.new.self.at c.next-first.new.self.bits.now.bits))
    (woven (g.R.ScanRuns.marks c.args.self.now.runs) (drop c.args.self.now.at c.args.self.now.bits.now.bits)) (omega (arith, c.if-first-n.true))
    (record { small = c.next-first.ensures.bound; is = c.next-first.ensures.left })

pub returns-then-first-n-clause-left : goal.returns-then-first-n-clause-left
returns-then-first-n-clause-left g c =
    taken_left c.next-first.result.bits c.next-first.result.count c.args.n (woven (g.R.ScanRuns.marks c.next-first.new.self.runs) (drop c.next-first.new.self.at c.next-first.new.self.bits.now.bits))
    (woven (g.R.ScanRuns.marks c.args.self.now.runs) (drop c.args.self.now.at c.args.self.now.bits.now.bits)) (omega (arith, c.if-first-n.true))
    (record { small = c.next-first.ensures.bound; is = c.next-first.ensures.left })

pub returns-clause-word : goal.returns-clause-word
returns-clause-word g c = c.take_behind.ensures.word ∙ ap (λ all. number_of (take c.args.n all)) c.next-first.ensures.left

pub returns-clause-left : goal.returns-clause-left
returns-clause-left g c = c.take_behind.ensures.left ∙ ap (drop c.args.n) c.next-first.ensures.left
