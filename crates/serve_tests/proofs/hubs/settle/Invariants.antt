use Rattle.std.proofs.Common.{◌≡◌, false}
use Rattle.base_types.specs.Tellings.{Told}
use Rattle.plays.specs.Outcomes.{SeatsOpen}
use Rattle.hub.specs.Served.{OnlyTellsOpened}
use Rattle.serve_tests.proofs.hubs.settle.Given as goal

abbrev pub invariant-loop : goal.invariant-loop
invariant-loop g l = record {
  fit : l.hub.hub.broken ≡ false;
  open_now : Told (g.W.Wire.told l.wire) (SeatsOpen l.hub.hub);
  tells : Told (g.W.Wire.told l.wire) OnlyTellsOpened;
  door : g.W.Wire.door l.wire ≡ g.W.Wire.door l.fn.wire;
}
