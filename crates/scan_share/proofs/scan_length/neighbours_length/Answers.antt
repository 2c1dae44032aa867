use Rattle.std.proofs.Common.{◌<◌, arith, length, refl, sym, slice_index_or, ◌∙◌, ap, Some}
use Rattle.scan_share.specs.PrivateChains.{entries_at}
use Rattle.scan_share.specs.Scans.{codes_of, widths_during}
use Rattle.scan_share.proofs.Places.{all_at, read_at}
use Rattle.scan_share.proofs.Splits.{more_summed, all_summed, group_width, group_widths_counted}
use Rattle.scan_share.proofs.scan_length.neighbours_length.Goals as goal

pub part-requires : goal.part-requires
part-requires c =
    let here = read_at c.args.group.now c.loop-i.i 0 c.loop-i-test.true in
    omega (
      arith,
      c.requires.neighbours.each c.loop-i.i (slice_index_or c.args.group.now c.loop-i.i 0) here,
      all_at (λ k. k < length c.args.layout.now.parts) c.args.group.now c.requires.within c.loop-i.i (slice_index_or c.args.group.now c.loop-i.i 0) here,
    )

pub loop-i-preserved : goal.loop-i-preserved
loop-i-preserved c = record {
  whole = more_summed (widths_during (entries_at c.args.layout.now.parts c.args.group.now) (codes_of (entries_at c.args.layout.now.parts c.args.group.now) c.args.codes.now)) c.loop-i.sum c.loop-i.i c.selected_length.result c.loop-i.invariant.whole
      (group_width c.args.layout.now.parts c.args.group.now c.args.codes.now c.loop-i.i _ _ 0 _ c.part.result.now c.requires.within c.requires.coded c.loop-i-test.true
      (sym (c.requires.neighbours.each c.loop-i.i (slice_index_or c.args.group.now c.loop-i.i 0) (read_at c.args.group.now c.loop-i.i 0 c.loop-i-test.true))) refl c.part.ensures.is
      ∙ ap Some (sym c.selected_length.ensures));
  bound = omega arith;
}

pub returns-clause-is : goal.returns-clause-is
returns-clause-is c =
    all_summed (widths_during (entries_at c.args.layout.now.parts c.args.group.now) (codes_of (entries_at c.args.layout.now.parts c.args.group.now) c.args.codes.now)) c.loop-i.sum c.loop-i.i c.loop-i.invariant.whole
    (omega (arith, c.loop-i-test.false, group_widths_counted c.args.layout.now.parts c.args.group.now c.args.codes.now c.requires.within c.requires.coded))
