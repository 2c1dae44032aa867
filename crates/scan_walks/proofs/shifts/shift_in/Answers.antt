use Rattle.std.proofs.Common.{arith, ◌-◌, ◌∙◌, refl, ap, length, length-drop}
use Rattle.scan_walks.proofs.ShiftLaws.{leads_on, led, takes_on}
use Rattle.scan_walks.proofs.shifts.shift_in.Goals as goal

pub loop-left-preserved : goal.loop-left-preserved
loop-left-preserved g c = record {
  some = omega (arith, c.loop-left-test.true);
  within = omega (arith, c.loop-left.invariant.within);
  whole = ap length c.take.ensures.left ∙ length-drop 64 (g.S.BitSource.left c.loop-left.source) ∙ ap (λ n. n - 64) c.loop-left.invariant.whole;
  devices = c.in_ok-cycles.ensures.devices;
  leads = rw c.take.ensures.left (leads_on (g.S.BitSource.left c.args.source.now) (g.S.BitSource.left c.loop-left.source) 64 c.take.result c.in_ok-cycles.field-0
      (g.C.Cable.chain c.args.cable.now) (g.C.Cable.chain c.loop-left.cable) (g.C.Cable.chain c.cycles.new.self)
      refl (omega (arith, c.loop-left-test.true, c.loop-left.invariant.whole)) c.take.ensures.word c.loop-left.invariant.leads c.in_ok-cycles.ensures.clocked);
  ahead = takes_on (c.args.count - c.loop-left.left) 64 (c.args.count - (c.loop-left.left - 64)) c.in_ok-cycles.field-0
      (g.C.Cable.ahead c.args.cable.now) (g.C.Cable.ahead c.loop-left.cable) (g.C.Cable.ahead c.cycles.new.self)
      (omega (arith, c.loop-left-test.true, c.loop-left.invariant.within)) c.loop-left.invariant.ahead c.in_ok-cycles.ensures.ahead;
  mark = c.cycles.ensures.mark ∙ c.loop-left.invariant.mark;
  trst = c.cycles.ensures.trst ∙ c.loop-left.invariant.trst;
  faults = c.in_ok-cycles.ensures.cause.kept ∙ c.loop-left.invariant.faults;
}

pub returns-clause-shifted : goal.returns-clause-shifted
returns-clause-shifted g c =
    led (g.S.BitSource.left c.args.source.now) (g.S.BitSource.left c.loop-left.source) _ _ c.take-2.result c.in_ok-cycles-2.field-0
    (g.C.Cable.chain c.args.cable.now) (g.C.Cable.chain c.loop-left.cable) (g.C.Cable.chain c.cycles-2.new.self)
    (omega (arith, c.loop-left.invariant.some, c.loop-left-test.false)) (omega (arith, c.loop-left-test.false)) (omega (arith, c.loop-left.invariant.whole, c.loop-left-test.false))
    c.last_of.ensures c.take-2.ensures.word c.loop-left.invariant.leads c.in_ok-cycles-2.ensures.clocked

pub returns-clause-ahead : goal.returns-clause-ahead
returns-clause-ahead g c =
    takes_on (c.args.count - c.loop-left.left) _ c.args.count c.in_ok-cycles-2.field-0
    (g.C.Cable.ahead c.args.cable.now) (g.C.Cable.ahead c.loop-left.cable) (g.C.Cable.ahead c.cycles-2.new.self)
    (omega (arith, c.loop-left-test.false, c.loop-left.invariant.within)) c.loop-left.invariant.ahead c.in_ok-cycles-2.ensures.ahead
