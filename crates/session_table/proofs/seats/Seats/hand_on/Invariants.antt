use Rattle.std.proofs.Common.{◌≡◌, ◌≤◌, ◌-◌, ◌^◌, ℕ, List}
use Rattle.client_session.specs.Desks.{cable_of}
use Rattle.plays.specs.Plays.{Play, Setting}
use Rattle.session_table.specs.Tables.{IsCalm}
use Rattle.session_table.specs.AtDesk.{EachReady, KeepsSeats, LineWent, MayServe}
use Rattle.session_table.specs.Going.{AttendsOn, HandedOn}
use Rattle.session_table.proofs.seats.Seats.hand_on.Given as goal

abbrev pub invariant-loop : goal.invariant-loop
invariant-loop g l = record {
  few : l.counter ≤ 2 ^ 80;
  may : MayServe l.self l.desk (g.C.Cable.chain (cable_of l.desk.side)) (g.C.Cable.trst (cable_of l.desk.side));
  kept : KeepsSeats l.fn.self l.self;
  went : LineWent l.fn.self l.self;
  ready : EachReady l.fn.self l.self;
  mark : g.C.Cable.mark (cable_of l.desk.side) ≡ g.C.Cable.mark (cable_of l.fn.desk.side);
  trst : g.C.Cable.trst (cable_of l.desk.side) ≡ g.C.Cable.trst (cable_of l.fn.desk.side);
  faults : g.C.Cable.fault_count (cable_of l.desk.side) ≡ g.C.Cable.fault_count (cable_of l.fn.desk.side);
  played : (setting : Setting) (given : ℕ → List ℕ) (play : Play) → AttendsOn setting l.fn.self l.fn.desk given (g.C.Cable.chain (cable_of l.fn.desk.side)) play → IsCalm play
      → HandedOn setting l.fn.self l.self l.desk given (g.C.Cable.chain (cable_of l.desk.side)) play l.counter;
}

abbrev pub decreases-loop : goal.decreases-loop
decreases-loop g l = 2 ^ 80 - l.counter
