use Rattle.std.proofs.Common.{◌≡◌, []}
use Rattle.std.specs.declared.option.Option.TheVariants.{Some}
use Rattle.wire_port.specs.Wires.{WireView}
use Rattle.plays.specs.Plays.{Setting}
use Rattle.hub.specs.Served.{AreFlagged, ConnsAreOpen}
use Rattle.hub.specs.Standing.{StandsOnBut}
use Rattle.hub.proofs.SeatLists.{Quieting}
use Rattle.hub.proofs.Standing.{StandsFlagged}
use Rattle.hub.proofs.sessions.Sessions.quiet.Given as goal

abbrev pub invariant-loop-grant : goal.invariant-loop-grant
invariant-loop-grant g l = record {
  seats : Quieting l.fn.self.table l.grant l.self.table;
  gone : l.self.gone ≡ l.fn.self.gone;
  stands : (setting : Setting) (wire : WireView) → AreFlagged l.fn.self.table.hub l.fn.self.gone.items → ConnsAreOpen l.fn.self.table.hub l.fn.self.gone.items [] wire
      → StandsOnBut setting [] l.fn.self.table.hub (g.C.Cable.chain l.fn.self.table.cable) (Some wire) → StandsFlagged g.C.Cable.chain setting l.self.table l.fn.self.gone.items wire;
}
