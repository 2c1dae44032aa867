use Rattle.std.proofs.Common.{arith, replicate, false}
use Rattle.scan_share.proofs.Adjacent.{both_runs, last_run, run_from}
use Rattle.scan_share.proofs.neighbours.NeighboursScanRuns.next.Goals as goal

pub returns-then-self-most-clause-left : goal.returns-then-self-most-clause-left
returns-then-self-most-clause-left c =
    run_from c.args.self.now.before c.args.most c.args.self.now.own (replicate c.args.self.now.behind false) (omega (arith, c.if-self-eq0.true)) (omega (arith, c.if-self-most.true))

pub returns-then-self-eq0-3-clause-left : goal.returns-then-self-eq0-3-clause-left
returns-then-self-eq0-3-clause-left c =
    last_run c.args.self.now.before c.args.self.now.own c.part_of-others.result c.args.self.now.behind (omega (arith, c.if-self-eq0-2.true)) (omega (arith, c.if-self-eq0-3.true)) (omega (arith, c.part_of-others.ensures))

pub returns-clause-left : goal.returns-clause-left
returns-clause-left c =
    both_runs c.args.self.now.before c.part_of-others-2.result c.args.self.now.own c.part_of-own.result c.args.most (replicate c.args.self.now.behind false) c.part_of-others-2.ensures (omega (arith, c.part_of-own.ensures))
    (omega (arith, c.part_of-own.ensures))
