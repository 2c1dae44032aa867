use Rattle.std.proofs.Common.{◌++◌, ap, arith, ◌∙◌, replicate, true, false}
use Rattle.scan_share.specs.Rows.{marks_below}
use Rattle.scan_share.proofs.Places.{run_split}
use Rattle.scan_share.proofs.runs.RunsScanRuns.next.Goals as goal

pub returns-clause-left : goal.returns-clause-left
returns-clause-left c =
    ap (λ q. replicate c.entered-others.result.0 false ++ q)
    (run_split c.min-own.result c.entered-others.result.1.bits true (marks_below c.self.inside.group.now c.self.inside.widths.now c.entered-others.result.1.place) (omega (arith, c.min-own.ensures)))
    ∙ c.entered-others.ensures.same ∙ c.self.view_is
