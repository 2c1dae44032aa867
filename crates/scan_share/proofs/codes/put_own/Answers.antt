use Rattle.std.proofs.Common.{arith, sym, ◌∙◌, ◌+◌}
use Rattle.std.specs.List.{slice_index_or}
use Rattle.scan_share.proofs.Lookups.{length-slice_set}
use Rattle.scan_share.proofs.Places.{read_at}
use Rattle.scan_share.proofs.PutCodes.{put_more, put_all}
use Rattle.scan_share.proofs.codes.put_own.Goals as goal

pub loop-i-preserved : goal.loop-i-preserved
loop-i-preserved c = record {
  same = put_more c.args.group.now c.args.own.now c.loop-i.codes c.loop-i.i (c.loop-i.i + 1) (slice_index_or c.args.group.now c.loop-i.i 0) (slice_index_or c.args.own.now c.loop-i.i 0) (omega arith)
      (read_at c.args.group.now c.loop-i.i 0 c.loop-i-test.true) (read_at c.args.own.now c.loop-i.i 0 (omega (arith, c.loop-i-test.true, c.requires.counted)))
      ∙ c.loop-i.invariant.same;
  long = length-slice_set c.loop-i.codes (slice_index_or c.args.group.now c.loop-i.i 0) (slice_index_or c.args.own.now c.loop-i.i 0) ∙ c.loop-i.invariant.long;
}

pub returns : goal.returns
returns c = sym (put_all c.args.group.now c.args.own.now c.loop-i.codes c.loop-i.i c.loop-i-test.false) ∙ c.loop-i.invariant.same
