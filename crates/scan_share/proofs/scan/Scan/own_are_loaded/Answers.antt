use Rattle.std.proofs.Common.{◌≡◌, ◌+◌, ℕ, nat_eq, true, ap, arith, length, sym, ◌∙◌, Some}
use Rattle.std.specs.List.{slice_index_or}
use Rattle.std.proofs.lemmas.Bool.{eqb-true}
use Rattle.scan_share.specs.Rows.{ScanView, scan_words}
use Rattle.scan_share.proofs.Around.{none_differing, more_differing, own_below, own_code_at}
use Rattle.scan_share.proofs.Splits.{scan_coded}
use Rattle.scan_share.proofs.scan.Scan.own_are_loaded.Goals as goal

pub loop-i-init : goal.loop-i-init
loop-i-init c = none_differing c.args.loaded.now (scan_words c.args.self.now) c.args.first (c.args.first + 0) (omega arith)

pub bounds-loaded-first : goal.bounds-loaded-first
bounds-loaded-first c = omega (arith, c.requires.long, own_below c.args.self.now c.args.first c.loop-i.i c.devices-devices.ensures.scan c.requires.neighbours c.requires.first (omega (arith, c.loop-i-test.true, ap (λ (v : ScanView). length v.codes) c.self.view_is)))

pub loop-i-preserved : goal.loop-i-preserved
loop-i-preserved c = more_differing c.loop-i.differing c.args.loaded.now (scan_words c.args.self.now) c.args.first (c.args.first + c.loop-i.i) (c.args.first + (c.loop-i.i + 1)) _
    (omega (arith, c.requires.long, own_below c.args.self.now c.args.first c.loop-i.i c.devices-devices.ensures.scan c.requires.neighbours c.requires.first (omega (arith, c.loop-i-test.true, ap (λ (v : ScanView). length v.codes) c.self.view_is))))
    (omega arith)
    (own_code_at c.args.self.now c.args.first c.loop-i.i c.devices-devices.ensures.scan c.requires.neighbours c.requires.first (omega (arith, c.loop-i-test.true, ap (λ (v : ScanView). length v.codes) c.self.view_is))
    ∙ ap (λ (v : ScanView). Some (slice_index_or v.codes c.loop-i.i 0)) (sym c.self.view_is))
    c.loop-i.invariant

pub returns-clause-same : goal.returns-clause-same
returns-clause-same c = λ yes place low lt. c.loop-i.invariant.same (eqb-true c.loop-i.differing 0 yes) place low (omega (arith, lt, c.loop-i-test.false, scan_coded c.args.self.now c.devices-devices.ensures.scan, ap (λ (v : ScanView). length v.codes) c.self.view_is))

pub returns-clause-differ : goal.returns-clause-differ
returns-clause-differ c = λ no. c.loop-i.invariant.differ (λ none. let equal : nat_eq c.loop-i.differing 0 ≡ true = ap (λ (k : ℕ). nat_eq k 0) none in absurd (cc (no, equal)))
