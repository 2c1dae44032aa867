use Rattle.std.proofs.Common.{◌≡◌, ◌≤◌, ◌-◌, true, false, is_some}
use Rattle.base_types.specs.Tellings.{Told}
use Rattle.scan_share.specs.Scans.{IsWhole}
use Rattle.virtual_tap.specs.Taps.{ScansAt}
use Rattle.client_session.specs.Turns.{Turn}
use Rattle.client_session.specs.Sessions.{DeskView}
use Rattle.client_session.specs.Stores.{HoldsShift}
use Rattle.client_session.specs.Going.{GoesTo, ShiftsAt}
use Rattle.chain_token.specs.Tokens.{waiting}
use Rattle.chain_token.specs.Waiting.{is_among}
use Rattle.client_session.specs.Desks.{Attends, IsDesk, KeepsOthers, cable_of}
use Rattle.client_session.proofs.shift.shift_on.Given as goal

abbrev pub invariant-loop-leg : goal.invariant-loop-leg
invariant-loop-leg g l = record {
  within : l.at ≤ l.cycles;
  vector : l.frame.vector ≡ l.fn.frame.vector;
  held : HoldsShift l.frame l.cycles;
  same : (l.tap.grant ≡ l.fn.tap.grant) × (l.tap.parts ≡ l.fn.tap.parts);
  there : is_some l.tap.view.register ≡ true;
  low : ScansAt false l.tap.view;
  desk_is : IsDesk l.layout l.grant l.tap.view l.desk;
  others : KeepsOthers l.grant l.fn.desk l.desk;
  line : is_among l.grant (waiting l.fn.desk) ≡ false → is_among l.grant (waiting l.desk) ≡ false;
  whole : Told (g.C.Cable.chain (cable_of l.desk.side)) (IsWhole l.layout);
  mark : g.C.Cable.mark (cable_of l.desk.side) ≡ g.C.Cable.mark (cable_of l.fn.desk.side);
  trst : g.C.Cable.trst (cable_of l.desk.side) ≡ g.C.Cable.trst (cable_of l.fn.desk.side);
  faults : g.C.Cable.fault_count (cable_of l.desk.side) ≡ g.C.Cable.fault_count (cable_of l.fn.desk.side);
  went : (base_desk : DeskView) (base turn : Turn) → IsWhole l.layout base_desk.chain
      → Attends l.layout l.grant base_desk base (ShiftsAt l.fn.frame l.fn.tap l.from l.grant) l.fn.desk (g.C.Cable.chain (cable_of l.fn.desk.side)) turn
      → GoesTo l.layout l.grant (Attends l.layout l.grant base_desk base (ShiftsAt l.frame l.tap l.at l.grant) l.desk (g.C.Cable.chain (cable_of l.desk.side))) turn;
}

abbrev pub decreases-loop-leg : goal.decreases-loop-leg
decreases-loop-leg g l = l.cycles - l.at
