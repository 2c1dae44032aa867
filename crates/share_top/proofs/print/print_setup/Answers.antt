use Rattle.std.proofs.Common.{refl, ◌++◌, ap}
use Rattle.std.specs.Prelude.{codes}
use Rattle.share_top.specs.Checks.{device_lines, grant_lines, net_lines}
use Rattle.text_lines.proofs.Printing.{printing_starts, printing_more, printing_fails, printing_last}
use Rattle.share_top.proofs.print.print_setup.Goals as goal

pub returns-in_err-print_devices : goal.returns-in_err-print_devices
returns-in_err-print_devices g c =
    printing_fails (g.O.Sink.sent c.args.out.now) (g.O.Sink.sent c.args.out.now) (g.O.Sink.sent c.print_devices.new.out) (g.O.Sink.fault_count c.args.out.now) (g.O.Sink.fault_count c.args.out.now) (g.O.Sink.fault_count c.print_devices.new.out) (device_lines 1 c.args.names.now c.args.layout.now.parts ++ (grant_lines c.args.layout.now 1 c.args.layout.now.grants ++ (net_lines 1 c.args.layout.now.nets ++ (codes "ok\n")))) (device_lines 1 c.args.names.now c.args.layout.now.parts ++ (grant_lines c.args.layout.now 1 c.args.layout.now.grants ++ (net_lines 1 c.args.layout.now.nets ++ (codes "ok\n"))))
    (printing_starts (g.O.Sink.sent c.args.out.now) (g.O.Sink.fault_count c.args.out.now) (device_lines 1 c.args.names.now c.args.layout.now.parts ++ (grant_lines c.args.layout.now 1 c.args.layout.now.grants ++ (net_lines 1 c.args.layout.now.nets ++ (codes "ok\n")))))
    (device_lines 1 c.args.names.now c.args.layout.now.parts) (grant_lines c.args.layout.now 1 c.args.layout.now.grants ++ (net_lines 1 c.args.layout.now.nets ++ (codes "ok\n"))) (device_lines 1 c.args.names.now c.args.layout.now.parts) refl (refl) c.from_residual.result c.from_residual.ensures.0 c.in_err-print_devices.ensures

pub returns-in_err-print_grants : goal.returns-in_err-print_grants
returns-in_err-print_grants g c =
    printing_fails (g.O.Sink.sent c.args.out.now) (g.O.Sink.sent c.print_devices.new.out) (g.O.Sink.sent c.print_grants.new.out) (g.O.Sink.fault_count c.args.out.now) (g.O.Sink.fault_count c.print_devices.new.out) (g.O.Sink.fault_count c.print_grants.new.out) (device_lines 1 c.args.names.now c.args.layout.now.parts ++ (grant_lines c.args.layout.now 1 c.args.layout.now.grants ++ (net_lines 1 c.args.layout.now.nets ++ (codes "ok\n")))) (grant_lines c.args.layout.now 1 c.args.layout.now.grants ++ (net_lines 1 c.args.layout.now.nets ++ (codes "ok\n")))
    (printing_more (g.O.Sink.sent c.args.out.now) (g.O.Sink.sent c.args.out.now) (g.O.Sink.sent c.print_devices.new.out) (g.O.Sink.fault_count c.args.out.now) (g.O.Sink.fault_count c.args.out.now) (g.O.Sink.fault_count c.print_devices.new.out) (device_lines 1 c.args.names.now c.args.layout.now.parts ++ (grant_lines c.args.layout.now 1 c.args.layout.now.grants ++ (net_lines 1 c.args.layout.now.nets ++ (codes "ok\n")))) (device_lines 1 c.args.names.now c.args.layout.now.parts ++ (grant_lines c.args.layout.now 1 c.args.layout.now.grants ++ (net_lines 1 c.args.layout.now.nets ++ (codes "ok\n")))) (printing_starts (g.O.Sink.sent c.args.out.now) (g.O.Sink.fault_count c.args.out.now) (device_lines 1 c.args.names.now c.args.layout.now.parts ++ (grant_lines c.args.layout.now 1 c.args.layout.now.grants ++ (net_lines 1 c.args.layout.now.nets ++ (codes "ok\n"))))) (device_lines 1 c.args.names.now c.args.layout.now.parts) (grant_lines c.args.layout.now 1 c.args.layout.now.grants ++ (net_lines 1 c.args.layout.now.nets ++ (codes "ok\n"))) (device_lines 1 c.args.names.now c.args.layout.now.parts) refl (refl) c.in_ok-print_devices.ensures)
    (grant_lines c.args.layout.now 1 c.args.layout.now.grants) (net_lines 1 c.args.layout.now.nets ++ (codes "ok\n")) (grant_lines c.args.layout.now 1 c.args.layout.now.grants) refl (refl) c.from_residual-in_err-print_grants.result c.from_residual-in_err-print_grants.ensures.0 c.in_err-print_grants.ensures

pub returns-in_err-print_nets : goal.returns-in_err-print_nets
returns-in_err-print_nets g c =
    printing_fails (g.O.Sink.sent c.args.out.now) (g.O.Sink.sent c.print_grants.new.out) (g.O.Sink.sent c.print_nets.new.out) (g.O.Sink.fault_count c.args.out.now) (g.O.Sink.fault_count c.print_grants.new.out) (g.O.Sink.fault_count c.print_nets.new.out) (device_lines 1 c.args.names.now c.args.layout.now.parts ++ (grant_lines c.args.layout.now 1 c.args.layout.now.grants ++ (net_lines 1 c.args.layout.now.nets ++ (codes "ok\n")))) (net_lines 1 c.args.layout.now.nets ++ (codes "ok\n"))
    (printing_more (g.O.Sink.sent c.args.out.now) (g.O.Sink.sent c.print_devices.new.out) (g.O.Sink.sent c.print_grants.new.out) (g.O.Sink.fault_count c.args.out.now) (g.O.Sink.fault_count c.print_devices.new.out) (g.O.Sink.fault_count c.print_grants.new.out) (device_lines 1 c.args.names.now c.args.layout.now.parts ++ (grant_lines c.args.layout.now 1 c.args.layout.now.grants ++ (net_lines 1 c.args.layout.now.nets ++ (codes "ok\n")))) (grant_lines c.args.layout.now 1 c.args.layout.now.grants ++ (net_lines 1 c.args.layout.now.nets ++ (codes "ok\n"))) (printing_more (g.O.Sink.sent c.args.out.now) (g.O.Sink.sent c.args.out.now) (g.O.Sink.sent c.print_devices.new.out) (g.O.Sink.fault_count c.args.out.now) (g.O.Sink.fault_count c.args.out.now) (g.O.Sink.fault_count c.print_devices.new.out) (device_lines 1 c.args.names.now c.args.layout.now.parts ++ (grant_lines c.args.layout.now 1 c.args.layout.now.grants ++ (net_lines 1 c.args.layout.now.nets ++ (codes "ok\n")))) (device_lines 1 c.args.names.now c.args.layout.now.parts ++ (grant_lines c.args.layout.now 1 c.args.layout.now.grants ++ (net_lines 1 c.args.layout.now.nets ++ (codes "ok\n")))) (printing_starts (g.O.Sink.sent c.args.out.now) (g.O.Sink.fault_count c.args.out.now) (device_lines 1 c.args.names.now c.args.layout.now.parts ++ (grant_lines c.args.layout.now 1 c.args.layout.now.grants ++ (net_lines 1 c.args.layout.now.nets ++ (codes "ok\n"))))) (device_lines 1 c.args.names.now c.args.layout.now.parts) (grant_lines c.args.layout.now 1 c.args.layout.now.grants ++ (net_lines 1 c.args.layout.now.nets ++ (codes "ok\n"))) (device_lines 1 c.args.names.now c.args.layout.now.parts) refl (refl) c.in_ok-print_devices.ensures) (grant_lines c.args.layout.now 1 c.args.layout.now.grants) (net_lines 1 c.args.layout.now.nets ++ (codes "ok\n")) (grant_lines c.args.layout.now 1 c.args.layout.now.grants) refl (refl) c.in_ok-print_grants.ensures)
    (net_lines 1 c.args.layout.now.nets) (codes "ok\n") (net_lines 1 c.nets.result.now) refl (ap (net_lines 1) c.nets.ensures) c.from_residual-in_err-print_nets.result c.from_residual-in_err-print_nets.ensures.0 c.in_err-print_nets.ensures

pub returns : goal.returns
returns g c =
    printing_last (g.O.Sink.sent c.args.out.now) (g.O.Sink.sent c.print_nets.new.out) (g.O.Sink.sent c.put.new.out) (g.O.Sink.fault_count c.args.out.now) (g.O.Sink.fault_count c.print_nets.new.out) (g.O.Sink.fault_count c.put.new.out) (device_lines 1 c.args.names.now c.args.layout.now.parts ++ (grant_lines c.args.layout.now 1 c.args.layout.now.grants ++ (net_lines 1 c.args.layout.now.nets ++ (codes "ok\n")))) (codes "ok\n")
    (printing_more (g.O.Sink.sent c.args.out.now) (g.O.Sink.sent c.print_grants.new.out) (g.O.Sink.sent c.print_nets.new.out) (g.O.Sink.fault_count c.args.out.now) (g.O.Sink.fault_count c.print_grants.new.out) (g.O.Sink.fault_count c.print_nets.new.out) (device_lines 1 c.args.names.now c.args.layout.now.parts ++ (grant_lines c.args.layout.now 1 c.args.layout.now.grants ++ (net_lines 1 c.args.layout.now.nets ++ (codes "ok\n")))) (net_lines 1 c.args.layout.now.nets ++ (codes "ok\n")) (printing_more (g.O.Sink.sent c.args.out.now) (g.O.Sink.sent c.print_devices.new.out) (g.O.Sink.sent c.print_grants.new.out) (g.O.Sink.fault_count c.args.out.now) (g.O.Sink.fault_count c.print_devices.new.out) (g.O.Sink.fault_count c.print_grants.new.out) (device_lines 1 c.args.names.now c.args.layout.now.parts ++ (grant_lines c.args.layout.now 1 c.args.layout.now.grants ++ (net_lines 1 c.args.layout.now.nets ++ (codes "ok\n")))) (grant_lines c.args.layout.now 1 c.args.layout.now.grants ++ (net_lines 1 c.args.layout.now.nets ++ (codes "ok\n"))) (printing_more (g.O.Sink.sent c.args.out.now) (g.O.Sink.sent c.args.out.now) (g.O.Sink.sent c.print_devices.new.out) (g.O.Sink.fault_count c.args.out.now) (g.O.Sink.fault_count c.args.out.now) (g.O.Sink.fault_count c.print_devices.new.out) (device_lines 1 c.args.names.now c.args.layout.now.parts ++ (grant_lines c.args.layout.now 1 c.args.layout.now.grants ++ (net_lines 1 c.args.layout.now.nets ++ (codes "ok\n")))) (device_lines 1 c.args.names.now c.args.layout.now.parts ++ (grant_lines c.args.layout.now 1 c.args.layout.now.grants ++ (net_lines 1 c.args.layout.now.nets ++ (codes "ok\n")))) (printing_starts (g.O.Sink.sent c.args.out.now) (g.O.Sink.fault_count c.args.out.now) (device_lines 1 c.args.names.now c.args.layout.now.parts ++ (grant_lines c.args.layout.now 1 c.args.layout.now.grants ++ (net_lines 1 c.args.layout.now.nets ++ (codes "ok\n"))))) (device_lines 1 c.args.names.now c.args.layout.now.parts) (grant_lines c.args.layout.now 1 c.args.layout.now.grants ++ (net_lines 1 c.args.layout.now.nets ++ (codes "ok\n"))) (device_lines 1 c.args.names.now c.args.layout.now.parts) refl (refl) c.in_ok-print_devices.ensures) (grant_lines c.args.layout.now 1 c.args.layout.now.grants) (net_lines 1 c.args.layout.now.nets ++ (codes "ok\n")) (grant_lines c.args.layout.now 1 c.args.layout.now.grants) refl (refl) c.in_ok-print_grants.ensures) (net_lines 1 c.args.layout.now.nets) (codes "ok\n") (net_lines 1 c.nets.result.now) refl (ap (net_lines 1) c.nets.ensures) c.in_ok-print_nets.ensures)
    (codes "ok\n") (refl) c.put.result c.put.ensures
