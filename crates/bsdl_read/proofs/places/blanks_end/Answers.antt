use Rattle.std.proofs.Common.{sym, ◌∙◌, arith}
use Rattle.bsdl_read.specs.Contents.{is_space}
use Rattle.bsdl_read.proofs.Betweens.{one_more}
use Rattle.bsdl_read.proofs.places.blanks_end.Goals as goal

pub loop-stop-preserved : goal.loop-stop-preserved
loop-stop-preserved c = record {
  rises = omega (arith, c.loop-stop.invariant.rises);
  ends = omega (arith, c.loop-stop-test.true);
  blank = one_more is_space c.args.text.now c.args.start c.loop-stop.stop _ c.loop-stop.invariant.rises (omega (arith, c.loop-stop-test.true, c.requires.ends)) c.loop-stop.invariant.blank (sym c.is_space.ensures ∙ c.if-is_space.true);
}
