use Rattle.std.proofs.Common.{◌≡◌, drop}
use Rattle.grant_table.specs.Layouts.{grant_at_port}
use Rattle.grant_table.proofs.Ports.{behind}
use Rattle.grant_table.proofs.layout.grant_at_port.Given as goal

abbrev pub invariant-loop-grant : goal.invariant-loop-grant
invariant-loop-grant l = behind l.grant (grant_at_port (drop l.grant l.grants) l.port) ≡ grant_at_port l.grants l.port
