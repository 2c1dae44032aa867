use Rattle.std.proofs.Common.{◌∙◌, ap}
use Rattle.scan_bits.specs.BitLists.{BitList}
use Rattle.scan_share.proofs.Answered.{kept_by}
use Rattle.scan_share.proofs.group_scans.capture_for.Goals as goal

pub capture_to-requires-clause-kept : goal.capture_to-requires-clause-kept
capture_to-requires-clause-kept g c = λ out long.
    c.new-sink.ensures.holds out
    ∙ kept_by c.args.layout.now c.args.grant c.args.codes.now c.new-scan.result c.members-group.result.now c.clear.new.self.bits _
    c.new-scan.ensures c.members-group.ensures.is (ap (λ (b : BitList). b.bits) c.clear.ensures) c.new-runs.ensures.read out long

pub capture_to-requires-2-clause-kept : goal.capture_to-requires-2-clause-kept
capture_to-requires-2-clause-kept g c = λ out long.
    c.new-sink-2.ensures.holds out
    ∙ kept_by c.args.layout.now c.args.grant c.args.codes.now c.new-scan.result c.members-group.result.now c.clear.new.self.bits c.new-runs-2.result
    c.new-scan.ensures c.members-group.ensures.is (ap (λ (b : BitList). b.bits) c.clear.ensures) c.new-runs-2.ensures.read out long
