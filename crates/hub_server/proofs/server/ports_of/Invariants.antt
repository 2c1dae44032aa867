use Rattle.std.proofs.Common.{◌≡◌, ◌++◌, drop, length, map}
use Rattle.hub_server.specs.Serving.{ports_of}
use Rattle.hub_server.proofs.server.ports_of.Given as goal

abbrev pub invariant-loop-grant : goal.invariant-loop-grant
invariant-loop-grant l = (l.ports.items ++ map (λ shape. shape.port) (drop l.grant l.fn.layout.grants) ≡ ports_of l.fn.layout) × (length l.ports.items ≡ l.grant)
