use Rattle.std.proofs.Common.{arith, refl, sym, ◌∙◌, ap, Some}
use Rattle.scan_share.specs.PrivateChains.{entries_at}
use Rattle.scan_share.specs.Scans.{codes_of, widths_during}
use Rattle.scan_share.proofs.Splits.{more_summed, all_summed, group_width, group_widths_counted}
use Rattle.scan_share.proofs.scan_length.own_length.Goals as goal

pub loop-i-preserved : goal.loop-i-preserved
loop-i-preserved c = record {
  whole = more_summed (widths_during (entries_at c.args.layout.now.parts c.args.group.now) (codes_of (entries_at c.args.layout.now.parts c.args.group.now) c.args.codes.now)) c.loop-i.sum c.loop-i.i c.selected_length.result c.loop-i.invariant.whole
      (group_width c.args.layout.now.parts c.args.group.now c.args.codes.now c.loop-i.i _ _ _ _ c.part.result.now c.requires.within c.requires.coded c.loop-i-test.true refl refl c.part.ensures.is
      ∙ ap Some (sym c.selected_length.ensures));
  bound = omega arith;
}

pub returns-clause-is : goal.returns-clause-is
returns-clause-is c =
    all_summed (widths_during (entries_at c.args.layout.now.parts c.args.group.now) (codes_of (entries_at c.args.layout.now.parts c.args.group.now) c.args.codes.now)) c.loop-i.sum c.loop-i.i c.loop-i.invariant.whole
    (omega (arith, c.loop-i-test.false, group_widths_counted c.args.layout.now.parts c.args.group.now c.args.codes.now c.requires.within c.requires.coded))
