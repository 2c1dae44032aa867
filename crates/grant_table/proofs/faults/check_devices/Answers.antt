use Rattle.std.proofs.Common.{◌||◌, ◌∙◌, ap, take}
use Rattle.grant_table.specs.Faults.{is_one_of}
use Rattle.grant_table.specs.Refusals.{devices_of}
use Rattle.grant_table.proofs.FaultLaws.{devices_start, device_taken, device_passes, any_devices, item_at}
use Rattle.grant_table.proofs.faults.check_devices.Goals as goal

pub loop-at-init : goal.loop-at-init
loop-at-init c = devices_start c.args.count c.args.number (devices_of c.args.earlier.now) c.args.devices.now

pub returns-then-was_granted : goal.returns-then-was_granted
returns-then-was_granted c =
    c.refuse-then-was_granted.ensures
    ∙ device_taken c.args.count c.args.number (devices_of c.args.earlier.now) c.args.devices.now c.loop-at.at c.loop-at.invariant c.from-device.result c.loop-at-test.true
    (item_at c.args.devices.now c.loop-at.at c.from-device.result c.loop-at-test.true c.from-device.ensures) c.if-is_outside.ensures
    (c.if-was_granted.ensures ∙ ap (λ b. is_one_of c.from-device.result (take c.loop-at.at c.args.devices.now) || b) (any_devices c.from-device.result c.args.earlier.now))

pub loop-at-preserved : goal.loop-at-preserved
loop-at-preserved c =
    device_passes c.args.count c.args.number (devices_of c.args.earlier.now) c.args.devices.now c.loop-at.at c.loop-at.invariant c.from-device.result c.loop-at-test.true
    (item_at c.args.devices.now c.loop-at.at c.from-device.result c.loop-at-test.true c.from-device.ensures) c.if-is_outside.ensures
    (c.if-was_granted.ensures ∙ ap (λ b. is_one_of c.from-device.result (take c.loop-at.at c.args.devices.now) || b) (any_devices c.from-device.result c.args.earlier.now))
