use Rattle.std.proofs.Common.{◌∙◌, sym, ap, length}
use Rattle.grant_table.specs.Layouts.{group_of}
use Rattle.scan_share.specs.Views.{codes_for}
use Rattle.scan_share.proofs.Ready.{scan_is, scan_some, write_long}
use Rattle.scan_share.proofs.Scanned.{update_facts}
use Rattle.scan_share.proofs.group_scans.update_from.Goals as goal

pub write-requires-clause-some : goal.write-requires-clause-some
write-requires-clause-some g c = rw c.scan_length-count.ensures.is
    (scan_some c.args.layout.now (group_of c.args.layout.now.grants c.args.grant) (codes_for c.args.layout.now c.args.grant c.args.codes.now) c.scan_length-count.ensures.parts c.scan_length-count.ensures.some)

pub write-requires-clause-whole : goal.write-requires-clause-whole
write-requires-clause-whole g c =
    ap length c.requires.source ∙ write_long c.args.layout.now (group_of c.args.layout.now.grants c.args.grant) (codes_for c.args.layout.now c.args.grant c.args.codes.now) c.args.bits.now.bits
    (scan_is c.args.layout.now (group_of c.args.layout.now.grants c.args.grant) c.args.codes.now c.scan_length-count.ensures.parts c.scan_length-count.ensures.some c.scan_length-count.ensures.group c.requires.codes) c.requires.long
    ∙ sym c.scan_length-count.ensures.is

pub returns-clause-updated : goal.returns-clause-updated
returns-clause-updated g c =
    (update_facts c.args.layout.now c.args.grant c.args.codes.now c.args.bits.now.bits (g.S.BitSource.left c.args.source.now) c.requires.open.loaded c.scan_length-count.result
    (g.C.Cable.chain c.args.cable.now) (g.C.Cable.chain c.write.new.cable)
    c.scan_length-count.ensures.parts c.scan_length-count.ensures.some c.scan_length-count.ensures.group c.requires.codes c.requires.source c.scan_length-count.ensures.is c.requires.long c.requires.open.loaded_is
    c.requires.whole c.requires.open.open_is c.in_ok-write.ensures.made).updates

pub returns-clause-whole : goal.returns-clause-whole
returns-clause-whole g c =
    (update_facts c.args.layout.now c.args.grant c.args.codes.now c.args.bits.now.bits (g.S.BitSource.left c.args.source.now) c.requires.open.loaded c.scan_length-count.result
    (g.C.Cable.chain c.args.cable.now) (g.C.Cable.chain c.write.new.cable)
    c.scan_length-count.ensures.parts c.scan_length-count.ensures.some c.scan_length-count.ensures.group c.requires.codes c.requires.source c.scan_length-count.ensures.is c.requires.long c.requires.open.loaded_is
    c.requires.whole c.requires.open.open_is c.in_ok-write.ensures.made).whole

pub returns-clause-asked : goal.returns-clause-asked
returns-clause-asked g c =
    (update_facts c.args.layout.now c.args.grant c.args.codes.now c.args.bits.now.bits (g.S.BitSource.left c.args.source.now) c.requires.open.loaded c.scan_length-count.result
    (g.C.Cable.chain c.args.cable.now) (g.C.Cable.chain c.write.new.cable)
    c.scan_length-count.ensures.parts c.scan_length-count.ensures.some c.scan_length-count.ensures.group c.requires.codes c.requires.source c.scan_length-count.ensures.is c.requires.long c.requires.open.loaded_is
    c.requires.whole c.requires.open.open_is c.in_ok-write.ensures.made).asked
