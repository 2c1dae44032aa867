-- A seat that shares the scan chain with others: one grant at a time has a data register scan open on it. A seat goes on
-- until nothing is left to do, or until it has to wait before it opens a scan.
use Rattle.std.specs.Prelude.{ℕ, zero, suc, ◌+◌, Bool, true, false, not, ◌&&◌, ◌==◌, List, ◌∷◌, if◌then◌else◌}
use Rattle.std.specs.declared.option.Option.{Option}
use Rattle.std.specs.declared.option.Option.TheVariants.{None, Some}
use Rattle.base_types.specs.Counts.{raised}
pub use Rattle.grant_table.specs.Layouts.{LayoutShape}
use Rattle.grant_table.specs.Layouts.{group_of, ir_total}
use Rattle.scan_share.specs.Scans.{code_list, scan_length, capture_cost, update_cost}
pub use Rattle.chain_token.specs.Waiting.{is_among, with_waiting, without, may_open}
use Rattle.client_session.specs.Acts.{Act}
use Rattle.client_session.specs.Acts.Act.{SetTrst}
use Rattle.client_session.specs.Seats.{Seat, advanced, opens_next, steps_left}

-- a grant's seat with what the grants share: the grant that holds the chain, those that wait for it in order,
-- how often a grant began to wait, and how many cycles of the chain are due so far
pub record Turn : Type 0 where
  pub seat : Seat
  pub holder : Option ℕ
  pub waiting : List ℕ
  pub joins : ℕ
  pub cost : ℕ

-- the grant holds the chain
abbrev pub is_holder : Option ℕ → ℕ → Bool
is_holder None grant = false
is_holder (Some holder) grant = holder == grant

-- the bits between TDI and TDO of the shared chain during a scan for a grant, under the codes of its seat
abbrev pub scan_length_of : LayoutShape → ℕ → Seat → ℕ
scan_length_of layout grant seat = scan_length layout (group_of layout.grants grant) (code_list seat.chain)

-- the cycles that close a scan on the shared chain: one where TRST abandons it, and else those of an update
abbrev pub freeing_cost : List Act → ℕ → ℕ
freeing_cost (SetTrst true ∷ acts) width = 1
freeing_cost _ width = update_cost width

-- the chain is free again: the grant holds it, and its scan is closed
abbrev pub frees : Option ℕ → ℕ → Seat → Bool
frees holder grant new = is_holder holder grant && not new.chain.scan_open

-- a step that opens no scan; where it closes one, the chain is free, and the cycles that close it are due
abbrev pub stepped : LayoutShape → ℕ → Seat → Turn → Turn
stepped layout grant new turn = record {
  seat = new;
  holder = if frees turn.holder grant new then None else turn.holder;
  waiting = turn.waiting;
  joins = turn.joins;
  cost = if frees turn.holder grant new then turn.cost + freeing_cost turn.seat.acts (scan_length_of layout grant turn.seat) else turn.cost;
}

-- a step that opens a scan: the grant holds the chain from now on and waits no longer, and the cycles of a capture are due
abbrev pub captured : LayoutShape → ℕ → Seat → Turn → Turn
captured layout grant new turn = record {
  seat = new;
  holder = Some grant;
  waiting = without grant turn.waiting;
  joins = turn.joins;
  cost = turn.cost + capture_cost (ir_total layout) (scan_length_of layout grant turn.seat);
}

-- no step: the grant waits
abbrev pub put_in_line : ℕ → Turn → Turn
put_in_line grant turn = record turn {
  waiting = with_waiting grant turn.waiting;
  joins = if is_among grant turn.waiting then turn.joins else raised turn.joins 1;
}

-- one step of a grant, by whether it opens a scan, and whether the grant may open one
abbrev pub advanced_as : (opens may : Bool) → LayoutShape → ℕ → Turn → Turn
advanced_as false may layout grant turn = stepped layout grant (advanced turn.seat) turn
advanced_as true true layout grant turn = captured layout grant (advanced turn.seat) turn
advanced_as true false layout grant turn = put_in_line grant turn

-- one step of a grant, as far as it may
abbrev pub advanced_turn : LayoutShape → ℕ → Turn → Turn
advanced_turn layout grant turn = advanced_as (opens_next turn.seat) (may_open turn.holder turn.waiting grant) layout grant turn

-- so many steps of a grant
abbrev pub advanced_turns : ℕ → LayoutShape → ℕ → Turn → Turn
advanced_turns zero layout grant turn = turn
advanced_turns (suc times) layout grant turn = advanced_turns times layout grant (advanced_turn layout grant turn)

-- the grant goes on until nothing is left to do, or it waits
abbrev pub gone_on : LayoutShape → ℕ → Turn → Turn
gone_on layout grant turn = advanced_turns (steps_left turn.seat) layout grant turn
