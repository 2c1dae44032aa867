use Rattle.std.proofs.Common.{◌∙◌, ap, arith, Bool}
use Rattle.chain_model.specs.Devices.{wired_to, net_bit}
use Rattle.chain_model.proofs.Wires.{wired_at, wired_past}
use Rattle.chain_model.proofs.nets.put_net.Goals as goal

pub returns-then-place-devices : goal.returns-then-place-devices
returns-then-place-devices c =
    wired_at c.args.net.to_device c.args.net.to_cell c.net_value-bit.result c.args.devices.now _ c.put_captured.new.self (omega (arith, c.if-net-eq0.false)) c.put_captured.ensures
    ∙ ap (λ (bit : Bool). wired_to c.args.net.to_device c.args.net.to_cell bit c.args.devices.now) c.net_value-bit.ensures

pub returns-else-place-devices : goal.returns-else-place-devices
returns-else-place-devices c =
    wired_past c.args.net.to_device c.args.net.to_cell (net_bit c.args.devices.now c.args.net) c.args.devices.now (omega (arith, c.if-place-devices.false))
