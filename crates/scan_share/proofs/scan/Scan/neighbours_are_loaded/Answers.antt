use Rattle.std.proofs.Common.{◌+◌, ap, arith, length, sym, ◌∙◌}
use Rattle.std.specs.List.{slice_index_or}
use Rattle.scan_share.specs.Rows.{ScanView, scan_words}
use Rattle.scan_share.proofs.Around.{all_around, none_before, none_behind}
use Rattle.scan_share.proofs.Places.{length-scan_words}
use Rattle.scan_share.proofs.scan.Scan.neighbours_are_loaded.Goals as goal

pub are_bypassed-requires-clause-others : goal.are_bypassed-requires-clause-others
are_bypassed-requires-clause-others c = λ place low lt. none_before c.args.self.now place c.devices.ensures.scan c.requires.neighbours (omega (arith, lt, ap (λ (v : ScanView). slice_index_or v.group 0 0) c.self.view_is))

pub are_bypassed-requires-2-clause-others : goal.are_bypassed-requires-2-clause-others
are_bypassed-requires-2-clause-others c = λ place le lt. none_behind c.args.self.now place c.devices.ensures.scan c.requires.neighbours
    (omega (arith, le, ap (λ (v : ScanView). slice_index_or v.group 0 0) c.self.view_is, ap (λ (v : ScanView). length v.group) c.self.view_is))

pub returns-then-loaded-devices-clause-differ : goal.returns-then-loaded-devices-clause-differ
returns-then-loaded-devices-clause-differ c = λ no same. absurd (omega (arith, c.if-loaded-devices.true, ap length same, length-scan_words c.args.self.now, c.devices.ensures.is))

pub returns-clause-same : goal.returns-clause-same
returns-clause-same c = λ yes. all_around c.args.loaded.now (scan_words c.args.self.now) (slice_index_or c.self.inside.group.now 0 0) (slice_index_or c.self.inside.group.now 0 0 + length c.self.inside.group.now)
    (length-scan_words c.args.self.now ∙ sym (c.if-loaded-devices.false ∙ c.devices.ensures.is))
    (λ place low lt. c.own_are_loaded.ensures.same c.if-not-own_are_loaded.false place low (omega (arith, lt, ap (λ (v : ScanView). length v.group) c.self.view_is)))
    (c.are_bypassed.ensures.same c.if-not-are_bypassed.false) (c.are_bypassed-2.ensures.same yes)
