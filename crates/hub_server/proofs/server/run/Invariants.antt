use Rattle.std.proofs.Common.{◌≡◌}
use Rattle.hub_server.specs.Serving.{Goes}
use Rattle.hub_server.proofs.Going.{Onward}
use Rattle.hub_server.proofs.server.run.Given as goal

abbrev pub invariant-loop : goal.invariant-loop
invariant-loop g l =
    (goal.iterator-loop g).can_next l.iterator' × (goal.iterator-loop g).is_finite l.iterator'
    × Goes l.fn.hub.hub l.hub.hub (g.C.Cable.chain l.fn.hub.cable) (g.C.Cable.chain l.hub.cable) (g.W.Wire.told l.fn.wire) (g.W.Wire.told l.wire) (g.O.Sink.sent l.fn.out) (g.O.Sink.sent l.out)
    × Onward l.fn.hub.hub l.hub.hub (g.W.Wire.told l.wire) (g.W.Wire.door l.fn.wire) (g.W.Wire.door l.wire) l.over
    × (g.C.Cable.mark l.hub.cable ≡ g.C.Cable.mark l.fn.hub.cable) × (g.C.Cable.trst l.hub.cable ≡ g.C.Cable.trst l.fn.hub.cable)
    × (g.W.Wire.fault_count l.wire ≡ g.W.Wire.fault_count l.fn.wire) × (g.C.Cable.fault_count l.hub.cable ≡ g.C.Cable.fault_count l.fn.hub.cable) × (g.O.Sink.fault_count l.out ≡ g.O.Sink.fault_count l.fn.out)
