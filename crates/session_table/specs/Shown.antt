-- What a table of sessions shows of its parts.
use Rattle.std.specs.Prelude.{ℕ, ◌≡◌, ◌≤◌, ◌<◌, Bool, true, false, List, [], ◌∷◌, map}
use Rattle.std.proofs.lemmas.Bool.{true≢false}
use Rattle.std.specs.declared.option.Option.{Option}
use Rattle.std.specs.declared.option.Option.TheVariants.{None, Some}
use Rattle.chain_model.specs.Chains.{ChainState}
use Rattle.std.specs.declared.result.Result.{Result}
use Rattle.std.specs.declared.result.Result.TheVariants.{Ok, Err}
use Rattle.std.specs.Prelude.{IsOk, IsErr}
use Rattle.scan_share.specs.Views.{ParkedView, OpenView, BrokenView}
use Rattle.chain_token.specs.declared.token.Token.{Token}
use Rattle.chain_token.specs.Tokens.{holder, waiting}
use Rattle.grant_table.specs.Layouts.{LayoutShape}
use Rattle.scan_share.specs.Scans.{IsParked}
use Rattle.client_session.specs.Desks.{cable_of}
use Rattle.plays.specs.Plays.{Setting, SessionEnd, start}
use Rattle.plays.specs.Alone.{Holds}
use Rattle.plays.specs.Laws.{PartsFit}
use Rattle.plays.specs.Stands.{SeatView, HubView}
use Rattle.session_table.specs.declared.Ended.{Ended}
use Rattle.session_table.specs.declared.seats.Seat.{Seat}
use Rattle.session_table.specs.declared.seats.Seats.{Seats}
use Rattle.session_table.specs.declared.table.Slot.{Slot}
use Rattle.session_table.specs.declared.table.Slot.TheVariants.{Out, Free, Broken}

-- the desk is taken out
abbrev pub is_out : {C : Type 0} → Slot C → Bool
is_out Out = true
is_out _ = false

-- the cable failed
abbrev pub is_broken : {C : Type 0} → Slot C → Bool
is_broken (Broken broken) = true
is_broken _ = false

-- the cable
abbrev pub cable_in : {C : Type 0} → (slot : Slot C) → is_out slot ≡ false → C
cable_in Out there = absurd (true≢false there)
cable_in (Free desk) there = cable_of desk.side
cable_in (Broken broken) there = broken.cable

-- who holds the chain, and who waits for it; nobody once the cable failed
abbrev pub holder_in : {C : Type 0} → Slot C → Option ℕ
holder_in (Free desk) = holder desk
holder_in _ = None

abbrev pub waiting_in : {C : Type 0} → Slot C → List ℕ
waiting_in (Free desk) = waiting desk
waiting_in _ = []

-- what a seat shows
abbrev pub seat_view : Seat → SeatView
seat_view seat = record { session = seat.session.view; conn = seat.conn }

-- a session that ended
abbrev pub session_end : Ended → SessionEnd
session_end ended = record { grant = ended.grant; conn = ended.conn; end = ended.end }

-- each is a session of a grant below 16
abbrev pub EachFew : List Ended → Type 0
EachFew [] = Unit {0}
EachFew (ended ∷ more) = (ended.grant < 16) × EachFew more

-- what seats and a slot show
abbrev pub hub_of : {C : Type 0} → Seats → Slot C → HubView
hub_of seats slot = record {
  layout = seats.layout;
  vector = seats.vector;
  uses_trst = seats.uses_trst;
  seats = map seat_view seats.list.items;
  holder = holder_in slot;
  waiting = waiting_in slot;
  joins = seats.joins;
  ready = seats.ready.items;
  ended = map session_end seats.ended.items;
  broken = is_broken slot;
}

-- the chain is as it is before the first step of a play: at rest, all contents are those of power-up, and it made six cycles at most
pub record IsFresh (setting : Setting) (layout : LayoutShape) (vector : ℕ) (uses_trst : Bool) (chain : ChainState) : Type 0 where
  pub layout_is : layout ≡ setting.layout
  pub vector_is : vector ≡ setting.vector
  pub trst_is : uses_trst ≡ setting.uses_trst
  pub fit : PartsFit setting.layout.parts setting.pins
  pub parked : IsParked chain
  pub holds : Holds setting chain (start setting)
  pub made : chain.made ≤ 6

abbrev pub FreshOn : Setting → LayoutShape → ℕ → Bool → Option ChainState → Type 0
FreshOn setting layout vector uses_trst None = ⊥
FreshOn setting layout vector uses_trst (Some chain) = IsFresh setting layout vector uses_trst chain

-- the desk lies in the slot, or what is left of it where the cable failed
abbrev pub Settles : {C E : Type 0} → Result (Token (ParkedView C) (OpenView C)) (BrokenView C) → Slot C → Result (Unit {0}) E → Type 0
Settles (Ok desk) slot result = (slot ≡ Free desk) × IsOk result
Settles (Err broken) slot result = (slot ≡ Broken broken) × IsErr result
