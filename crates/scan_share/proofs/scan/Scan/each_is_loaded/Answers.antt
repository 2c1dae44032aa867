use Rattle.std.proofs.Common.{ap, arith, length, inl, inr}
use Rattle.std.specs.List.{slice_index_or}
use Rattle.std.proofs.lemmas.Bool.{cases_lt}
use Rattle.scan_share.specs.Rows.{ScanView, scan_words}
use Rattle.scan_share.proofs.Around.{code_differs, code_here}
use Rattle.scan_share.proofs.Between.{next_coded, next_within, next_word, none_between, split_behind, rows_same}
use Rattle.scan_share.proofs.Places.{length-scan_words}
use Rattle.scan_share.proofs.Splits.{all_same, none_past}
use Rattle.scan_share.proofs.scan.Scan.each_is_loaded.Goals.{then-loaded-next-via-then-loaded-next, then-loaded-next-via-else-loaded-next+then-not-are_bypassed}
use Rattle.scan_share.proofs.scan.Scan.each_is_loaded.Goals as goal

pub returns-then-loaded-devices-clause-differ : goal.returns-then-loaded-devices-clause-differ
returns-then-loaded-devices-clause-differ c = λ no same. absurd (omega (arith, c.if-loaded-devices.true, ap length same, length-scan_words c.args.self.now, c.devices.ensures.is))

pub bounds-codes-own : goal.bounds-codes-own
bounds-codes-own c = next_coded c.args.self.now _ c.self.view_is c.devices.ensures.scan c.loop-own.own c.loop-own-test.true

pub bounds-loaded-next : goal.bounds-loaded-next
bounds-loaded-next c = omega (arith, c.if-loaded-devices.false, c.devices.ensures.is, next_within c.args.self.now _ c.self.view_is c.devices.ensures.scan c.loop-own.own c.loop-own-test.true)

pub are_bypassed-requires-clause-others : goal.are_bypassed-requires-clause-others
are_bypassed-requires-clause-others c = λ place low lt. none_between c.args.self.now _ c.self.view_is c.devices.ensures.scan c.loop-own.own c.loop-own-test.true c.loop-own.place place c.loop-own.invariant.split low lt

pub returns-then-loaded-next-clause-differ : goal.returns-then-loaded-next-clause-differ
returns-then-loaded-next-clause-differ c = λ no.
    elim c.then-loaded-next.branch [
      | then-loaded-next-via-then-loaded-next w ↦
          code_differs c.args.loaded.now (scan_words c.args.self.now) (slice_index_or c.self.inside.group.now c.loop-own.own 0) (slice_index_or c.self.inside.codes.now c.loop-own.own 0)
          (omega (arith, c.if-loaded-devices.false, c.devices.ensures.is, next_within c.args.self.now _ c.self.view_is c.devices.ensures.scan c.loop-own.own c.loop-own-test.true))
          (next_word c.args.self.now _ c.self.view_is c.devices.ensures.scan c.loop-own.own c.loop-own-test.true) w.if-loaded-next.true
      | then-loaded-next-via-else-loaded-next+then-not-are_bypassed w ↦ w.are_bypassed.ensures.differ w.if-not-are_bypassed.true
    ]

pub loop-own-preserved : goal.loop-own-preserved
loop-own-preserved c = record {
  split = split_behind c.args.self.now _ c.self.view_is c.devices.ensures.scan c.loop-own.own c.loop-own-test.true c.loop-own.place c.loop-own.invariant.split;
  within = omega (arith, c.if-loaded-devices.false, c.devices.ensures.is, next_within c.args.self.now _ c.self.view_is c.devices.ensures.scan c.loop-own.own c.loop-own-test.true);
  same = rows_same c.args.loaded.now (scan_words c.args.self.now) c.loop-own.place (slice_index_or c.self.inside.group.now c.loop-own.own 0) c.loop-own.invariant.same (c.are_bypassed.ensures.same c.if-not-are_bypassed.false)
      (code_here c.args.loaded.now (scan_words c.args.self.now) (slice_index_or c.self.inside.group.now c.loop-own.own 0) (slice_index_or c.self.inside.codes.now c.loop-own.own 0)
      (omega (arith, c.if-loaded-devices.false, c.devices.ensures.is, next_within c.args.self.now _ c.self.view_is c.devices.ensures.scan c.loop-own.own c.loop-own-test.true))
      (next_word c.args.self.now _ c.self.view_is c.devices.ensures.scan c.loop-own.own c.loop-own-test.true) c.if-loaded-next.false);
}

pub are_bypassed-requires-2-clause-others : goal.are_bypassed-requires-2-clause-others
are_bypassed-requires-2-clause-others c = λ place low lt.
    none_past c.args.self.now.group c.loop-own.own c.loop-own.place place c.devices.ensures.scan.rising c.loop-own.invariant.split
    (omega (arith, c.loop-own-test.false, ap (λ (v : ScanView). length v.group) c.self.view_is)) low

pub returns-clause-same : goal.returns-clause-same
returns-clause-same c = λ yes.
    all_same c.args.loaded.now (scan_words c.args.self.now) (length c.args.loaded.now)
    (λ place lt. elim (cases_lt place c.loop-own.place) [ inl less ↦ c.loop-own.invariant.same place less | inr low ↦ c.are_bypassed-2.ensures.same yes place low lt ])
    (omega arith) (omega (arith, c.if-loaded-devices.false, c.devices.ensures.is, length-scan_words c.args.self.now))
