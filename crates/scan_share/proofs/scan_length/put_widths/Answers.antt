use Rattle.std.proofs.Common.{arith, ap, refl, sym, take, ◌∙◌, Some}
use Rattle.std.proofs.lemmas.List.{take_more_set}
use Rattle.scan_share.specs.PrivateChains.{entries_at}
use Rattle.scan_share.specs.Scans.{codes_of, widths_during}
use Rattle.scan_share.proofs.Splits.{more_begun, all_begun, more_summed, all_summed, group_width, group_widths_counted}
use Rattle.scan_share.proofs.scan_length.put_widths.Goals as goal

pub loop-i-preserved : goal.loop-i-preserved
loop-i-preserved c =
    let all = widths_during (entries_at c.args.layout.now.parts c.args.group.now) (codes_of (entries_at c.args.layout.now.parts c.args.group.now) c.args.codes.now) in
    let here = group_width c.args.layout.now.parts c.args.group.now c.args.codes.now c.loop-i.i _ _ _ _ c.part.result.now c.requires.within c.requires.coded c.loop-i-test.true refl refl c.part.ensures.is
    ∙ ap Some (sym c.selected_length-width.ensures) in
    record {
      put = rw (take_more_set c.loop-i.widths c.loop-i.i c.selected_length-width.result (omega (arith, c.loop-i-test.true, c.requires.room, c.loop-i.auto.widths)))
          (more_begun (take c.loop-i.i c.loop-i.widths) all c.loop-i.i c.selected_length-width.result c.loop-i.invariant.put here);
      whole = more_summed all c.loop-i.sum c.loop-i.i c.selected_length-width.result c.loop-i.invariant.whole here;
      bound = omega arith;
    }

pub returns-clause-widths : goal.returns-clause-widths
returns-clause-widths c =
    let all = widths_during (entries_at c.args.layout.now.parts c.args.group.now) (codes_of (entries_at c.args.layout.now.parts c.args.group.now) c.args.codes.now) in
    ap (λ n. take n c.loop-i.widths) (omega (arith, c.loop-i-test.false, c.loop-i.auto.i-end))
    ∙ all_begun (take c.loop-i.i c.loop-i.widths) all c.loop-i.i c.loop-i.invariant.put (omega (arith, c.loop-i-test.false, group_widths_counted c.args.layout.now.parts c.args.group.now c.args.codes.now c.requires.within c.requires.coded))

pub returns-clause-sum : goal.returns-clause-sum
returns-clause-sum c =
    all_summed (widths_during (entries_at c.args.layout.now.parts c.args.group.now) (codes_of (entries_at c.args.layout.now.parts c.args.group.now) c.args.codes.now)) c.loop-i.sum c.loop-i.i c.loop-i.invariant.whole
    (omega (arith, c.loop-i-test.false, group_widths_counted c.args.layout.now.parts c.args.group.now c.args.codes.now c.requires.within c.requires.coded))
