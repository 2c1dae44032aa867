use Rattle.std.proofs.Common.{arith, ◌-◌, ◌∙◌, refl}
use Rattle.scan_walks.proofs.ShiftLaws.{reading_on, read_out}
use Rattle.scan_walks.proofs.shifts.shift_out.Goals as goal

pub loop-left-preserved : goal.loop-left-preserved
loop-left-preserved g c = record {
  some = omega (arith, c.loop-left-test.true);
  within = omega (arith, c.loop-left.invariant.within);
  room = omega (arith, c.put.ensures.room, c.loop-left.invariant.room, c.loop-left-test.true);
  sink = c.put.ensures.mark ∙ c.loop-left.invariant.sink;
  devices = c.in_ok-word.ensures.devices;
  reads = reading_on c.args.count c.loop-left.left 64 (c.loop-left.left - 64) c.in_ok-word.word
      (g.C.Cable.chain c.args.cable.now) (g.C.Cable.chain c.loop-left.cable) (g.C.Cable.chain c.cycles.new.self)
      (g.C.Cable.ahead c.args.cable.now) (g.C.Cable.ahead c.loop-left.cable) (g.C.Cable.ahead c.cycles.new.self)
      (g.S.BitSink.holds c.args.sink.now) (g.S.BitSink.holds c.loop-left.sink) (g.S.BitSink.holds c.put.new.self)
      refl (omega (arith, c.loop-left-test.true)) refl c.put.ensures.taken c.in_ok-word.ensures.ahead c.in_ok-word.ensures.clocked c.loop-left.invariant.reads;
  mark = c.cycles.ensures.mark ∙ c.loop-left.invariant.mark;
  trst = c.cycles.ensures.trst ∙ c.loop-left.invariant.trst;
  faults = c.in_ok-word.ensures.cause.kept ∙ c.loop-left.invariant.faults;
}

pub returns-clause-read : goal.returns-clause-read
returns-clause-read g c =
    read_out c.args.count c.loop-left.left _ c.in_ok-word-2.word
    (g.C.Cable.chain c.args.cable.now) (g.C.Cable.chain c.loop-left.cable) (g.C.Cable.chain c.cycles-2.new.self)
    (g.C.Cable.ahead c.args.cable.now) (g.C.Cable.ahead c.loop-left.cable) (g.C.Cable.ahead c.cycles-2.new.self)
    (g.S.BitSink.holds c.args.sink.now) (g.S.BitSink.holds c.loop-left.sink) (g.S.BitSink.holds c.put-2.new.self)
    c.loop-left.invariant.some (omega (arith, c.loop-left-test.false)) c.last_of.ensures c.put-2.ensures.taken c.in_ok-word-2.ensures.ahead c.in_ok-word-2.ensures.clocked c.loop-left.invariant.reads
