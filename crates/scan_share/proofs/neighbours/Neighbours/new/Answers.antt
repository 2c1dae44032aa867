use Rattle.std.proofs.Common.{◌∙◌, ap, length, refl}
use Rattle.scan_share.specs.Written.{group_widths}
use Rattle.scan_share.specs.Rows.{own_codes, own_count, woven, chosen}
use Rattle.scan_share.proofs.Adjacent.{scan_marks}
use Rattle.scan_share.proofs.Places.{all_marks}
use Rattle.scan_share.proofs.Woven.{scan_length_is, own_count_is, woven_is_written, chosen_is_own}
use Rattle.scan_share.proofs.neighbours.Neighbours.new.Goals as goal

pub returns-clause-count : goal.returns-clause-count
returns-clause-count c =
    ap length (scan_marks c.args.scan.now c.group-group.result.now c.devices-devices.result c.args.own c.devices-devices.ensures.scan c.group-group.ensures c.devices-devices.ensures.is c.requires.neighbours c.requires.own
    ∙ all_marks c.args.scan.now c.devices-devices.result (group_widths c.args.scan.now.layout c.args.scan.now.group (own_codes c.args.scan.now)) c.devices-devices.ensures.is refl)
    ∙ scan_length_is c.args.scan.now c.devices-devices.ensures.scan

pub returns-clause-own : goal.returns-clause-own
returns-clause-own c =
    ap own_count (scan_marks c.args.scan.now c.group-group.result.now c.devices-devices.result c.args.own c.devices-devices.ensures.scan c.group-group.ensures c.devices-devices.ensures.is c.requires.neighbours c.requires.own
    ∙ all_marks c.args.scan.now c.devices-devices.result (group_widths c.args.scan.now.layout c.args.scan.now.group (own_codes c.args.scan.now)) c.devices-devices.ensures.is refl)
    ∙ own_count_is c.args.scan.now c.devices-devices.ensures.scan

pub returns-clause-written : goal.returns-clause-written
returns-clause-written c = λ bits long.
    ap (λ marks. woven marks bits) (scan_marks c.args.scan.now c.group-group.result.now c.devices-devices.result c.args.own c.devices-devices.ensures.scan c.group-group.ensures c.devices-devices.ensures.is c.requires.neighbours c.requires.own
    ∙ all_marks c.args.scan.now c.devices-devices.result (group_widths c.args.scan.now.layout c.args.scan.now.group (own_codes c.args.scan.now)) c.devices-devices.ensures.is refl)
    ∙ woven_is_written c.args.scan.now bits c.devices-devices.ensures.scan long

pub returns-clause-read : goal.returns-clause-read
returns-clause-read c = λ out long.
    ap (λ marks. chosen marks out) (scan_marks c.args.scan.now c.group-group.result.now c.devices-devices.result c.args.own c.devices-devices.ensures.scan c.group-group.ensures c.devices-devices.ensures.is c.requires.neighbours c.requires.own
    ∙ all_marks c.args.scan.now c.devices-devices.result (group_widths c.args.scan.now.layout c.args.scan.now.group (own_codes c.args.scan.now)) c.devices-devices.ensures.is refl)
    ∙ chosen_is_own c.args.scan.now out c.devices-devices.ensures.scan long
