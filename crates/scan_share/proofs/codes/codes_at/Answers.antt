use Rattle.std.proofs.Common.{◌∙◌, ap, arith, sym, slice_index_or, ℕ, Some}
use Rattle.scan_share.proofs.Lookups.{entry_past}
use Rattle.scan_share.proofs.Places.{read_at}
use Rattle.scan_share.proofs.Splits.{one_picked, none_picked}
use Rattle.scan_share.proofs.codes.codes_at.Goals.{then-place-codes, else-place-codes}
use Rattle.scan_share.proofs.codes.codes_at.Goals as goal

pub loop-place-preserved : goal.loop-place-preserved
loop-place-preserved c =
    let here = read_at c.args.places.now c.loop-place.place-index 0 c.loop-place-test.true ∙ ap (λ (n : ℕ). Some n) (sym c.from-place.ensures) in
    elim c.if-place-codes.branch [
      | then-place-codes w ↦
          rw (w.own-is, w.push.ensures.items)
          (one_picked c.loop-place.own.items c.args.codes.now c.args.places.now c.loop-place.place-index c.from-place.result (slice_index_or c.args.codes.now c.from-place.result 0) c.loop-place.invariant here
          (read_at c.args.codes.now c.from-place.result 0 w.if-place-codes.true))
      | else-place-codes w ↦
          rw w.own-is
          (none_picked c.loop-place.own.items c.args.codes.now c.args.places.now c.loop-place.place-index c.from-place.result c.loop-place.invariant here
          (entry_past c.args.codes.now c.from-place.result (omega (arith, w.if-place-codes.false))))
    ]
