use Rattle.std.proofs.Common.{◌∙◌}
use Rattle.std.proofs.KnownBytes.{Appends-trans}
use Rattle.std.proofs.Math.Seq.{take-add}
use Rattle.ports.proofs.StreamLaws.{rest_taken, rest_bound}
use Rattle.ports.proofs.streams.write_all.Goals as goal

pub loop-count-preserved : goal.loop-count-preserved
loop-count-preserved g c = record {
  bound = rest_bound c.loop-count.count c.in_ok-count.field-0 c.args.text.now c.in_ok-count.ensures.bound c.loop-count.invariant.bound;
  sent = rw (take-add c.loop-count.count c.in_ok-count.field-0 c.args.text.now, ← rest_taken c.loop-count.count c.in_ok-count.field-0 c.args.text.now) (Appends-trans _ (g.O.Sink.sent c.loop-count.out) _ _ _ c.loop-count.invariant.sent c.in_ok-count.ensures.bytes);
  faults = c.in_ok-count.ensures.cause.kept ∙ c.loop-count.invariant.faults;
}
