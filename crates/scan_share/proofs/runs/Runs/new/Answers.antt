use Rattle.std.proofs.Common.{◌∙◌, ap, length}
use Rattle.scan_share.specs.Rows.{marks_below, own_count, woven, chosen}
use Rattle.scan_share.proofs.Places.{all_marks}
use Rattle.scan_share.proofs.Splits.{scan_row}
use Rattle.scan_share.proofs.Woven.{scan_length_is, own_count_is, woven_is_written, chosen_is_own}
use Rattle.scan_share.proofs.runs.Runs.new.Goals as goal

pub invariant_of-result : goal.invariant_of-result
invariant_of-result c =
    scan_row c.args.scan.now c.args.widths.now c.group-group.result.now c.devices.result c.devices.ensures.scan c.requires c.group-group.ensures c.devices.ensures.is (c.devices.ensures.some.1)

pub returns-clause-count : goal.returns-clause-count
returns-clause-count c =
    ap (λ g. length (marks_below g c.args.widths.now c.devices.result)) c.group-group.ensures
    ∙ ap length (all_marks c.args.scan.now c.devices.result c.args.widths.now c.devices.ensures.is c.requires) ∙ scan_length_is c.args.scan.now c.devices.ensures.scan

pub returns-clause-own : goal.returns-clause-own
returns-clause-own c =
    ap (λ g. own_count (marks_below g c.args.widths.now c.devices.result)) c.group-group.ensures
    ∙ ap own_count (all_marks c.args.scan.now c.devices.result c.args.widths.now c.devices.ensures.is c.requires) ∙ own_count_is c.args.scan.now c.devices.ensures.scan

pub returns-clause-written : goal.returns-clause-written
returns-clause-written c = λ bits long.
    ap (λ g. woven (marks_below g c.args.widths.now c.devices.result) bits) c.group-group.ensures
    ∙ ap (λ marks. woven marks bits) (all_marks c.args.scan.now c.devices.result c.args.widths.now c.devices.ensures.is c.requires) ∙ woven_is_written c.args.scan.now bits c.devices.ensures.scan long

pub returns-clause-read : goal.returns-clause-read
returns-clause-read c = λ out long.
    ap (λ g. chosen (marks_below g c.args.widths.now c.devices.result) out) c.group-group.ensures
    ∙ ap (λ marks. chosen marks out) (all_marks c.args.scan.now c.devices.result c.args.widths.now c.devices.ensures.is c.requires) ∙ chosen_is_own c.args.scan.now out c.devices.ensures.scan long
