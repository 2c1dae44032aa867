use Rattle.std.proofs.Common.{◌≡◌, take}
use Rattle.std.specs.declared.option.Option.TheVariants.{None}
use Rattle.grant_table.specs.Layouts.{first_place}
use Rattle.hub.specs.Served.{serves_conn}
use Rattle.hub.proofs.sessions.Sessions.grant_with.Given as goal

abbrev pub invariant-loop-grant : goal.invariant-loop-grant
invariant-loop-grant g l = first_place (serves_conn l.conn) (take l.grant l.self.table.hub.seats) ≡ None
