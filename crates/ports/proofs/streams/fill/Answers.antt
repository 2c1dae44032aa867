use Rattle.std.proofs.Common.{◌∙◌}
use Rattle.std.proofs.KnownBytes.{Consumes-trans}
use Rattle.ports.proofs.StreamLaws.{taken_part, part_bound}
use Rattle.ports.proofs.streams.fill.Goals as goal

pub loop-count-preserved : goal.loop-count-preserved
loop-count-preserved g c = record {
  bound = part_bound c.loop-count.count _ c.in_ok-more.more c.loop-count.buf c.read.new.buf c.loop-count.invariant.bound c.in_ok-more.ensures.bound.0;
  taken = rw (taken_part c.loop-count.count _ c.in_ok-more.more c.loop-count.buf c.read.new.buf c.loop-count.invariant.bound c.in_ok-more.ensures.bound.0) (Consumes-trans _ (g.I.Source.left c.loop-count.input) _ _ _ c.loop-count.invariant.taken c.in_ok-more.ensures.bytes.0);
  faults = c.in_ok-more.ensures.cause.kept ∙ c.loop-count.invariant.faults;
}
