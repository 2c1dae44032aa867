use Rattle.std.proofs.Common.{◌≡◌, take, false}
use Rattle.std.specs.List.{list_any}
use Rattle.hub.proofs.sessions.Sessions.none_ready.Given as goal

abbrev pub invariant-loop-grant : goal.invariant-loop-grant
invariant-loop-grant g l = list_any (λ ready. ready) (take l.grant l.self.table.hub.ready) ≡ false
