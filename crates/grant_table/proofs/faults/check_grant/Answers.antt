use Rattle.std.proofs.Common.{◌∙◌, ap, true, false}
use Rattle.grant_table.specs.Faults.{fault_if, grant_fault}
use Rattle.grant_table.specs.Refusals.{devices_of, ports_of}
use Rattle.grant_table.proofs.FaultLaws.{by_port_is}
use Rattle.grant_table.proofs.faults.check_grant.Goals as goal

pub returns-then-has_port : goal.returns-then-has_port
returns-then-has_port c =
    c.refuse-then-has_port.ensures ∙ ap (fault_if true 4 c.args.number) c.from.ensures
    ∙ by_port_is c.args.count c.args.number c.args.earlier.now (record { devices = c.grant.inside.devices; port = c.grant.inside.port; protocol = c.grant.inside.protocol })
    c.as_slice.result.now c.if-is_empty.ensures c.as_slice.ensures c.in_ok-check_devices.ensures c.if-grant-eq0.false true c.if-has_port.ensures
    ∙ ap (grant_fault c.args.count c.args.number (devices_of c.args.earlier.now) (ports_of c.args.earlier.now)) c.grant.view_is

pub returns : goal.returns
returns c =
    by_port_is c.args.count c.args.number c.args.earlier.now (record { devices = c.grant.inside.devices; port = c.grant.inside.port; protocol = c.grant.inside.protocol })
    c.as_slice.result.now c.if-is_empty.ensures c.as_slice.ensures c.in_ok-check_devices.ensures c.if-grant-eq0.false false c.if-has_port.ensures
    ∙ ap (grant_fault c.args.count c.args.number (devices_of c.args.earlier.now) (ports_of c.args.earlier.now)) c.grant.view_is
