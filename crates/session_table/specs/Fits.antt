-- What always holds of a table of sessions.
use Rattle.std.specs.Prelude.{◌≡◌, Bool, length}
use Rattle.std.specs.declared.option.Option.{Option}
use Rattle.chain_model.specs.Chains.{ChainState}
use Rattle.client_session.specs.Desks.{cable_of}
use Rattle.session_table.specs.declared.seats.Seats.{Seats}
use Rattle.session_table.specs.declared.table.Slot.{Slot}
use Rattle.session_table.specs.declared.table.Slot.TheVariants.{Free}
use Rattle.session_table.specs.AtDesk.{MayServe}

-- while the cable has not failed, the sessions may be served at the desk
abbrev pub SlotServes : {C : Type 0} → Seats → Slot C → (C → Option ChainState) → (C → Bool) → Type 0
SlotServes seats (Free desk) chain trst = MayServe seats desk (chain (cable_of desk.side)) (trst (cable_of desk.side))
SlotServes seats _ chain trst = Unit {0}

-- what always holds of a table
pub record TableFits {C : Type 0} (seats : Seats) (slot : Slot C) (chain : C → Option ChainState) (trst : C → Bool) : Type 0 where
  pub flags : length seats.ready.items ≡ length seats.list.items
  pub serves : SlotServes seats slot chain trst
