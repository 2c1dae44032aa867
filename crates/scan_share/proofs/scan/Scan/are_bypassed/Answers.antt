use Rattle.std.proofs.Common.{◌≡◌, ◌+◌, ap, arith, sym, ◌∙◌, nat_eq, true, length, map, ℕ, List, Some}
use Rattle.std.specs.List.{slice_index_or}
use Rattle.std.proofs.lemmas.Bool.{eqb-true}
use Rattle.std.proofs.lemmas.List.{length-map}
use Rattle.grant_table.specs.Layouts.{bypass_word}
use Rattle.scan_share.specs.Rows.{ScanView, scan_words}
use Rattle.scan_share.proofs.Around.{more_differing, none_differing}
use Rattle.scan_share.proofs.Places.{other_word}
use Rattle.scan_share.proofs.scan.Scan.are_bypassed.Goals as goal

pub loop-place-init : goal.loop-place-init
loop-place-init c = none_differing c.args.loaded.now (scan_words c.args.self.now) c.args.from c.args.from (omega arith)

pub bounds-bypass-place : goal.bounds-bypass-place
bounds-bypass-place c = omega (
  arith,
  c.loop-place-test.true,
  c.requires.within,
  c.requires.long,
  ap length c.bypass_codes-bypass.ensures,
  length-map c.self.inside.layout.now.parts bypass_word,
  ap (λ (v : ScanView). length v.layout.parts) c.self.view_is,
)

pub loop-place-preserved : goal.loop-place-preserved
loop-place-preserved c = more_differing c.loop-place.differing c.args.loaded.now (scan_words c.args.self.now) c.args.from c.loop-place.place (c.loop-place.place + 1) _
    (omega (arith, c.loop-place-test.true, c.requires.within)) (omega arith)
    (other_word c.args.self.now c.loop-place.place c.devices-devices.ensures.scan (omega (arith, c.loop-place-test.true, c.requires.within, c.requires.long)) (c.requires.others c.loop-place.place c.loop-place.auto.place c.loop-place-test.true)
    ∙ ap (λ (v : ScanView). Some (slice_index_or (map bypass_word v.layout.parts) c.loop-place.place 0)) (sym c.self.view_is)
    ∙ ap (λ (q : List ℕ). Some (slice_index_or q c.loop-place.place 0)) (sym c.bypass_codes-bypass.ensures))
    c.loop-place.invariant

pub returns-clause-same : goal.returns-clause-same
returns-clause-same c = λ yes place low lt. c.loop-place.invariant.same (eqb-true c.loop-place.differing 0 yes) place low (omega (arith, lt, c.loop-place-test.false))

pub returns-clause-differ : goal.returns-clause-differ
returns-clause-differ c = λ no. c.loop-place.invariant.differ (λ none. let equal : nat_eq c.loop-place.differing 0 ≡ true = ap (λ (k : ℕ). nat_eq k 0) none in absurd (cc (no, equal)))
