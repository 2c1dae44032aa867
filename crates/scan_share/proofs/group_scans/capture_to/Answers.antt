use Rattle.std.proofs.Common.{◌∙◌, ap, length}
use Rattle.scan_share.specs.Views.{codes_for}
use Rattle.grant_table.specs.Layouts.{group_of}
use Rattle.scan_share.proofs.Ready.{scan_is, load_long, load_some, scan_some}
use Rattle.scan_share.proofs.Loading.{source_is, loaded_are_codes}
use Rattle.scan_share.proofs.Answered.{capture_left}
use Rattle.scan_share.proofs.group_scans.capture_to.Goals as goal

pub scan_out-requires-clause-codes : goal.scan_out-requires-clause-codes
scan_out-requires-clause-codes g c = rw c.ir_total.ensures.is (
  load_some c.args.layout.now c.scan_length-count.ensures.parts c.scan_length-count.ensures.some,
  ap length (source_is c.args.layout.now c.args.grant c.args.codes.now c.args.loaded.now c.new-source.result (scan_is c.args.layout.now (group_of c.args.layout.now.grants c.args.grant) c.args.codes.now c.scan_length-count.ensures.parts c.scan_length-count.ensures.some c.scan_length-count.ensures.group c.requires.codes) c.requires.loaded c.new-source.ensures)
      ∙ load_long c.args.layout.now (group_of c.args.layout.now.grants c.args.grant) (codes_for c.args.layout.now c.args.grant c.args.codes.now)
      (scan_is c.args.layout.now (group_of c.args.layout.now.grants c.args.grant) c.args.codes.now c.scan_length-count.ensures.parts c.scan_length-count.ensures.some c.scan_length-count.ensures.group c.requires.codes),
)

pub new-source-requires : goal.new-source-requires
new-source-requires g c =
    loaded_are_codes c.args.layout.now c.args.grant c.args.codes.now c.args.loaded.now
    (scan_is c.args.layout.now (group_of c.args.layout.now.grants c.args.grant) c.args.codes.now c.scan_length-count.ensures.parts c.scan_length-count.ensures.some c.scan_length-count.ensures.group c.requires.codes) c.requires.loaded

pub scan_out-requires-clause-some : goal.scan_out-requires-clause-some
scan_out-requires-clause-some g c = rw c.scan_length-count.ensures.is
    (scan_some c.args.layout.now (group_of c.args.layout.now.grants c.args.grant) (codes_for c.args.layout.now c.args.grant c.args.codes.now) c.scan_length-count.ensures.parts c.scan_length-count.ensures.some)

pub returns-clause-captured : goal.returns-clause-captured
returns-clause-captured g c =
    (capture_left c.args.layout.now c.args.grant c.args.codes.now c.requires.ready.before c.args.loaded.now c.args.is_loaded
    c.new-source.result c.scan_length-count.result (g.C.Cable.chain c.args.cable.now) (g.C.Cable.chain c.scan_out.new.cable) (g.C.Cable.ahead c.args.cable.now) (g.C.Cable.ahead c.scan_out.new.cable)
    c.args.sink.now.into.now.bits (g.R.ScanRuns.marks c.args.sink.now.runs.now) c.scan_out.new.sink.into.now.bits (g.R.ScanRuns.marks c.scan_out.new.sink.runs.now)
    c.scan_length-count.ensures.parts c.scan_length-count.ensures.some c.scan_length-count.ensures.group c.requires.codes (source_is c.args.layout.now c.args.grant c.args.codes.now c.args.loaded.now c.new-source.result (scan_is c.args.layout.now (group_of c.args.layout.now.grants c.args.grant) c.args.codes.now c.scan_length-count.ensures.parts c.scan_length-count.ensures.some c.scan_length-count.ensures.group c.requires.codes) c.requires.loaded c.new-source.ensures)
    c.scan_length-count.ensures.is c.requires.loaded
    c.requires.ready.same c.requires.ready.differ c.requires.whole c.requires.ready.rests c.in_ok-scan_out.ensures.scanned c.requires.kept).captured

pub returns-clause-read : goal.returns-clause-read
returns-clause-read g c =
    (capture_left c.args.layout.now c.args.grant c.args.codes.now c.requires.ready.before c.args.loaded.now c.args.is_loaded
    c.new-source.result c.scan_length-count.result (g.C.Cable.chain c.args.cable.now) (g.C.Cable.chain c.scan_out.new.cable) (g.C.Cable.ahead c.args.cable.now) (g.C.Cable.ahead c.scan_out.new.cable)
    c.args.sink.now.into.now.bits (g.R.ScanRuns.marks c.args.sink.now.runs.now) c.scan_out.new.sink.into.now.bits (g.R.ScanRuns.marks c.scan_out.new.sink.runs.now)
    c.scan_length-count.ensures.parts c.scan_length-count.ensures.some c.scan_length-count.ensures.group c.requires.codes (source_is c.args.layout.now c.args.grant c.args.codes.now c.args.loaded.now c.new-source.result (scan_is c.args.layout.now (group_of c.args.layout.now.grants c.args.grant) c.args.codes.now c.scan_length-count.ensures.parts c.scan_length-count.ensures.some c.scan_length-count.ensures.group c.requires.codes) c.requires.loaded c.new-source.ensures)
    c.scan_length-count.ensures.is c.requires.loaded
    c.requires.ready.same c.requires.ready.differ c.requires.whole c.requires.ready.rests c.in_ok-scan_out.ensures.scanned c.requires.kept).read

pub returns-clause-length : goal.returns-clause-length
returns-clause-length g c =
    (capture_left c.args.layout.now c.args.grant c.args.codes.now c.requires.ready.before c.args.loaded.now c.args.is_loaded
    c.new-source.result c.scan_length-count.result (g.C.Cable.chain c.args.cable.now) (g.C.Cable.chain c.scan_out.new.cable) (g.C.Cable.ahead c.args.cable.now) (g.C.Cable.ahead c.scan_out.new.cable)
    c.args.sink.now.into.now.bits (g.R.ScanRuns.marks c.args.sink.now.runs.now) c.scan_out.new.sink.into.now.bits (g.R.ScanRuns.marks c.scan_out.new.sink.runs.now)
    c.scan_length-count.ensures.parts c.scan_length-count.ensures.some c.scan_length-count.ensures.group c.requires.codes (source_is c.args.layout.now c.args.grant c.args.codes.now c.args.loaded.now c.new-source.result (scan_is c.args.layout.now (group_of c.args.layout.now.grants c.args.grant) c.args.codes.now c.scan_length-count.ensures.parts c.scan_length-count.ensures.some c.scan_length-count.ensures.group c.requires.codes) c.requires.loaded c.new-source.ensures)
    c.scan_length-count.ensures.is c.requires.loaded
    c.requires.ready.same c.requires.ready.differ c.requires.whole c.requires.ready.rests c.in_ok-scan_out.ensures.scanned c.requires.kept).long

pub returns-clause-whole : goal.returns-clause-whole
returns-clause-whole g c =
    (capture_left c.args.layout.now c.args.grant c.args.codes.now c.requires.ready.before c.args.loaded.now c.args.is_loaded
    c.new-source.result c.scan_length-count.result (g.C.Cable.chain c.args.cable.now) (g.C.Cable.chain c.scan_out.new.cable) (g.C.Cable.ahead c.args.cable.now) (g.C.Cable.ahead c.scan_out.new.cable)
    c.args.sink.now.into.now.bits (g.R.ScanRuns.marks c.args.sink.now.runs.now) c.scan_out.new.sink.into.now.bits (g.R.ScanRuns.marks c.scan_out.new.sink.runs.now)
    c.scan_length-count.ensures.parts c.scan_length-count.ensures.some c.scan_length-count.ensures.group c.requires.codes (source_is c.args.layout.now c.args.grant c.args.codes.now c.args.loaded.now c.new-source.result (scan_is c.args.layout.now (group_of c.args.layout.now.grants c.args.grant) c.args.codes.now c.scan_length-count.ensures.parts c.scan_length-count.ensures.some c.scan_length-count.ensures.group c.requires.codes) c.requires.loaded c.new-source.ensures)
    c.scan_length-count.ensures.is c.requires.loaded
    c.requires.ready.same c.requires.ready.differ c.requires.whole c.requires.ready.rests c.in_ok-scan_out.ensures.scanned c.requires.kept).whole

pub returns-clause-asked : goal.returns-clause-asked
returns-clause-asked g c =
    (capture_left c.args.layout.now c.args.grant c.args.codes.now c.requires.ready.before c.args.loaded.now c.args.is_loaded
    c.new-source.result c.scan_length-count.result (g.C.Cable.chain c.args.cable.now) (g.C.Cable.chain c.scan_out.new.cable) (g.C.Cable.ahead c.args.cable.now) (g.C.Cable.ahead c.scan_out.new.cable)
    c.args.sink.now.into.now.bits (g.R.ScanRuns.marks c.args.sink.now.runs.now) c.scan_out.new.sink.into.now.bits (g.R.ScanRuns.marks c.scan_out.new.sink.runs.now)
    c.scan_length-count.ensures.parts c.scan_length-count.ensures.some c.scan_length-count.ensures.group c.requires.codes (source_is c.args.layout.now c.args.grant c.args.codes.now c.args.loaded.now c.new-source.result (scan_is c.args.layout.now (group_of c.args.layout.now.grants c.args.grant) c.args.codes.now c.scan_length-count.ensures.parts c.scan_length-count.ensures.some c.scan_length-count.ensures.group c.requires.codes) c.requires.loaded c.new-source.ensures)
    c.scan_length-count.ensures.is c.requires.loaded
    c.requires.ready.same c.requires.ready.differ c.requires.whole c.requires.ready.rests c.in_ok-scan_out.ensures.scanned c.requires.kept).asked

pub returns-clause-open : goal.returns-clause-open
returns-clause-open g c =
    (capture_left c.args.layout.now c.args.grant c.args.codes.now c.requires.ready.before c.args.loaded.now c.args.is_loaded
    c.new-source.result c.scan_length-count.result (g.C.Cable.chain c.args.cable.now) (g.C.Cable.chain c.scan_out.new.cable) (g.C.Cable.ahead c.args.cable.now) (g.C.Cable.ahead c.scan_out.new.cable)
    c.args.sink.now.into.now.bits (g.R.ScanRuns.marks c.args.sink.now.runs.now) c.scan_out.new.sink.into.now.bits (g.R.ScanRuns.marks c.scan_out.new.sink.runs.now)
    c.scan_length-count.ensures.parts c.scan_length-count.ensures.some c.scan_length-count.ensures.group c.requires.codes (source_is c.args.layout.now c.args.grant c.args.codes.now c.args.loaded.now c.new-source.result (scan_is c.args.layout.now (group_of c.args.layout.now.grants c.args.grant) c.args.codes.now c.scan_length-count.ensures.parts c.scan_length-count.ensures.some c.scan_length-count.ensures.group c.requires.codes) c.requires.loaded c.new-source.ensures)
    c.scan_length-count.ensures.is c.requires.loaded
    c.requires.ready.same c.requires.ready.differ c.requires.whole c.requires.ready.rests c.in_ok-scan_out.ensures.scanned c.requires.kept).held
