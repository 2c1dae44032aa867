use Rattle.std.proofs.Common.{◌≡◌, ◌≤◌, ◌-◌, ℕ, true, false}
use Rattle.virtual_tap.specs.Taps.{KeepsTap, ScansAt}
use Rattle.client_session.specs.Turns.{Turn}
use Rattle.client_session.specs.Stores.{HoldsShift}
use Rattle.client_session.specs.Going.{ShiftsAt, Leads}
use Rattle.client_session.proofs.shift.walk.Given as goal

abbrev pub invariant-loop-at : goal.invariant-loop-at
invariant-loop-at l = record {
  behind : l.from ≤ l.at;
  within : l.at ≤ l.cycles;
  vector : l.frame.vector ≡ l.fn.frame.vector;
  held : HoldsShift l.frame l.cycles;
  kept : KeepsTap l.fn.tap l.tap;
  scan : l.tap.view.scan_open ≡ l.fn.tap.view.scan_open;
  codes : l.fn.tap.view.scan_open ≡ true → l.tap.view.codes ≡ l.fn.tap.view.codes;
  low : ScansAt false l.tap.view;
  went : (grant : ℕ) (turn : Turn) → ShiftsAt l.fn.frame l.fn.tap l.from grant turn → Leads l.layout grant (ShiftsAt l.frame l.tap l.at grant) turn;
}

abbrev pub decreases-loop-at : goal.decreases-loop-at
decreases-loop-at l = l.cycles - l.at
