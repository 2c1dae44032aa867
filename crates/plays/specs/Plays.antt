-- A play: what the steps of a wire come to. Each grant has a seat over its private chain, and one grant at a time has a scan open.
-- A play knows nothing of the shared chain but who holds it, who waits for it, and how many cycles are due on it.
use Rattle.std.specs.Prelude.{ℕ, zero, suc, ◌+◌, Bool, false, List, [], ◌∷◌, ◌++◌, map, drop, length, slice_set, if◌then◌else◌}
use Rattle.std.specs.List.{slice_index_or}
use Rattle.std.specs.declared.option.Option.{Option}
use Rattle.std.specs.declared.option.Option.TheVariants.{None, Some}
use Rattle.part_model.specs.Parts.{DeviceType}
use Rattle.grant_table.specs.declared.Protocol.TheVariants.{Xvc}
use Rattle.grant_table.specs.Layouts.{LayoutShape, GrantShape, grant_of, first_place}
use Rattle.chain_model.specs.Chains.{Placed, powered}
use Rattle.scan_share.specs.PrivateChains.{private_chain}
pub use Rattle.chain_token.specs.Waiting.{next_in_line}
use Rattle.client_session.specs.declared.End.{End}
use Rattle.client_session.specs.Seats.{Seat, EndedSession, steps_left}
use Rattle.client_session.specs.Turns.{Turn, advanced_turn}
pub use Rattle.client_session.specs.Turns.{is_among, with_waiting, without, may_open, is_holder}
use Rattle.client_session.specs.Private.{free_seat, opened, is_live, took, dropped}
use Rattle.wire_port.specs.Steps.{Step}
use Rattle.wire_port.specs.Steps.Step.{Opened, Took, Gone, Shut}

-- what a play is played under: the layout, the pins of each device, the vector length, and whether the letters of TRST count
pub record Setting : Type 0 where
  pub layout : LayoutShape
  pub pins : List (List Bool)
  pub vector : ℕ
  pub uses_trst : Bool

-- a session that ended: its grant, its connection, and how it ended
pub record SessionEnd : Type 0 where
  pub grant : ℕ
  pub conn : ℕ
  pub end : End

-- a play: a seat for each grant, the grant that holds the chain, those that wait for it in order, the sessions that ended in order,
-- how often a grant began to wait, and how many cycles of the shared chain are due so far
pub record Play : Type 0 where
  pub seats : List Seat
  pub holder : Option ℕ
  pub waiting : List ℕ
  pub ends : List SessionEnd
  pub joins : ℕ
  pub cost : ℕ

-- device types with their pins
abbrev pub placed : List DeviceType → List (List Bool) → List Placed
placed [] pins = []
placed (part ∷ parts) [] = record { part = part; pins = [] } ∷ placed parts []
placed (part ∷ parts) (row ∷ pins) = record { part = part; pins = row } ∷ placed parts pins

-- the devices of the shared chain
abbrev pub boards_of : Setting → List Placed
boards_of setting = placed setting.layout.parts setting.pins

-- the free seat of a grant, over its private chain at power-up
abbrev pub seat_of : Setting → GrantShape → Seat
seat_of setting shape = free_seat shape.protocol setting.uses_trst setting.vector (private_chain (boards_of setting) shape.group setting.layout.nets)

-- a play before its first step: all seats are free, and six cycles lead the chain to Run-Test/Idle
abbrev pub start : Setting → Play
start setting = record {
  seats = map (seat_of setting) setting.layout.grants;
  holder = None;
  waiting = [];
  ends = [];
  joins = 0;
  cost = 6;
}

-- the seat of a grant that is not there
abbrev pub no_seat : Seat
no_seat = free_seat Xvc false 0 (powered [] [])

-- the seat of a grant
abbrev pub seat_at : Play → ℕ → Seat
seat_at play grant = slice_index_or play.seats grant no_seat

-- the play with another seat for a grant
abbrev pub with_seat : ℕ → Seat → Play → Play
with_seat grant seat play = record play { seats = slice_set play.seats grant seat }

-- the grant waits for the chain
abbrev pub is_waiting : Play → ℕ → Bool
is_waiting play grant = is_among grant play.waiting

-- the sessions of a grant that ended
abbrev pub new_ends : ℕ → List EndedSession → List SessionEnd
new_ends grant past = map (λ ended. record { grant = grant; conn = ended.conn; end = ended.end }) past

-- a grant's seat with what the grants share
abbrev pub turn_at : Play → ℕ → Turn
turn_at play grant = record { seat = seat_at play grant; holder = play.holder; waiting = play.waiting; joins = play.joins; cost = play.cost }

-- the play after a grant's turn
abbrev pub after_turn : ℕ → Play → Turn → Play
after_turn grant play turn = record {
  seats = slice_set play.seats grant turn.seat;
  holder = turn.holder;
  waiting = turn.waiting;
  ends = play.ends ++ new_ends grant (drop (length (seat_at play grant).past) turn.seat.past);
  joins = turn.joins;
  cost = turn.cost;
}

-- one step of a grant's seat, as far as it may
abbrev pub advanced_at : Setting → ℕ → Play → Play
advanced_at setting grant play = after_turn grant play (advanced_turn setting.layout grant (turn_at play grant))

-- so many steps of a grant's seat
abbrev pub advanced_times : ℕ → Setting → ℕ → Play → Play
advanced_times zero setting grant play = play
advanced_times (suc times) setting grant play = advanced_times times setting grant (advanced_at setting grant play)

-- the grant goes on until nothing is left to do, or it waits
abbrev pub go : Setting → ℕ → Play → Play
go setting grant play = advanced_times (steps_left (seat_at play grant)) setting grant play

-- the grant goes on, where there is one
abbrev pub go_if : Option ℕ → Setting → Play → Play
go_if None setting play = play
go_if (Some grant) setting play = go setting grant play

-- where nobody holds the chain, the first of those that wait goes on
abbrev pub handed_on_once : Setting → Play → Play
handed_on_once setting play = go_if (next_in_line play.holder play.waiting) setting play

-- the same so many times
abbrev pub handed_on_times : ℕ → Setting → Play → Play
handed_on_times zero setting play = play
handed_on_times (suc times) setting play = handed_on_times times setting (handed_on_once setting play)

-- no fewer steps than all seats together can take
abbrev pub all_steps_left : List Seat → ℕ
all_steps_left [] = 0
all_steps_left (seat ∷ seats) = steps_left seat + all_steps_left seats

-- the chain is handed on: while nobody holds it, the first of those that wait goes on; each time some seat takes a step, so that this ends
abbrev pub handed_on : Setting → Play → Play
handed_on setting play = handed_on_times (all_steps_left play.seats) setting play

-- the grant goes on, and then the chain is handed on
abbrev pub moved : Setting → ℕ → Play → Play
moved setting grant play = handed_on setting (go setting grant play)

-- what a step changes: one grant's seat
pub record SeatChange : Type 0 where
  pub grant : ℕ
  pub seat : Seat

-- a connection that opens at a grant's port begins a session where the seat is free; else it is turned away, and nothing changes
abbrev pub change_by_opening : Option ℕ → ℕ → Play → Option SeatChange
change_by_opening None conn play = None
change_by_opening (Some grant) conn play = if (seat_at play grant).going then None else Some (record { grant = grant; seat = opened conn (seat_at play grant) })

-- the grant whose session that is going has the connection
abbrev pub live_grant : ℕ → List Seat → Option ℕ
live_grant conn seats = first_place (is_live conn) seats

-- what a connection brings changes the seat of its session; nothing changes where it has none
abbrev pub change_of_live : Option ℕ → (Seat → Seat) → Play → Option SeatChange
change_of_live None event play = None
change_of_live (Some grant) event play = Some (record { grant = grant; seat = event (seat_at play grant) })

-- what a step changes
abbrev pub change_by : Setting → Play → Step → Option SeatChange
change_by setting play (Opened conn port) = change_by_opening (grant_of setting.layout port) conn play
change_by setting play (Took conn bytes) = change_of_live (live_grant conn play.seats) (took conn bytes) play
change_by setting play (Gone conn) = change_of_live (live_grant conn play.seats) (dropped conn) play
change_by setting play (Shut conn) = None

-- the changed seat's grant goes on, and then the chain is handed on
abbrev pub after_change : Setting → Play → Option SeatChange → Play
after_change setting play None = play
after_change setting play (Some change) = moved setting change.grant (with_seat change.grant change.seat play)

-- the play after one step more
abbrev pub after_step : Setting → Play → Step → Play
after_step setting play step = after_change setting play (change_by setting play step)

-- the play after so many steps more
abbrev pub after_steps : Setting → List Step → Play → Play
after_steps setting [] play = play
after_steps setting (step ∷ steps) play = after_steps setting steps (after_step setting play step)

-- the play of steps in order
abbrev pub played : Setting → List Step → Play
played setting steps = after_steps setting steps (start setting)
