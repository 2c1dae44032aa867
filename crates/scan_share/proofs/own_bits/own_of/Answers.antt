use Rattle.std.proofs.Common.{arith}
use Rattle.scan_share.proofs.Gathering.{first_gathered, run_gathered, whole_run}
use Rattle.scan_share.proofs.own_bits.own_of.Goals as goal

pub loop-done-preserved : goal.loop-done-preserved
loop-done-preserved g c =
    run_gathered c.args.n c.args.word c.loop-done.done c.loop-done.own.count c.loop-done.own.bits c.next-run.result.others c.next-run.result.own c.with_run-own-in-loop-done.result.bits c.with_run-own-in-loop-done.result.count
    (g.R.ScanRuns.marks c.args.runs.now) (g.R.ScanRuns.marks c.loop-done.runs) (g.R.ScanRuns.marks c.next-run.new.self) c.loop-done.invariant c.next-run.ensures.few c.next-run.ensures.left c.with_run-own-in-loop-done.ensures.count
    c.with_run-own-in-loop-done.ensures.bits c.with_run-own-in-loop-done.ensures.bound

pub loop-done-init : goal.loop-done-init
loop-done-init g c =
    first_gathered c.args.n c.args.word c.next-first.result.others c.next-first.result.own c.with_run-own.result.bits c.with_run-own.result.count (g.R.ScanRuns.marks c.args.runs.now) (g.R.ScanRuns.marks c.next-first.new.self) c.requires.left
    c.next-first.ensures.few c.next-first.ensures.left c.with_run-own.ensures.count c.with_run-own.ensures.bits c.with_run-own.ensures.bound

pub returns-then-first-n : goal.returns-then-first-n
returns-then-first-n g c = record {
  taken = whole_run c.args.n c.args.word c.next-first.result.others c.next-first.result.own (g.R.ScanRuns.marks c.args.runs.now) (g.R.ScanRuns.marks c.next-first.new.self) c.requires.left c.next-first.ensures.few (omega (arith, c.if-first-n.true))
      c.next-first.ensures.left c.requires.bound;
}
