-- A session on its way through its acts, beside the turn that it stands for.
use Rattle.std.specs.Prelude.{ℕ, suc, ◌-◌, ◌≡◌, ◌≢◌, ◌≤◌, ◌<◌, List, Bool, true, false, [], ◌∷◌, ◌++◌, take, drop, slice_set}
use Rattle.std.specs.declared.option.Option.TheVariants.{Some}
use Rattle.tap_states.specs.declared.Tap.TheVariants.{UpdateDr}
use Rattle.scan_bits.specs.Registers.{bit_at, joined}
use Rattle.chain_model.specs.Chains.{ChainState, reset}
use Rattle.chain_model.specs.Cycles.{fall, closed, dr_stages}
use Rattle.base_types.specs.Counts.{raised}
use Rattle.scan_share.specs.Scans.{code_list, contents_of, types_of, update_cost, with_contents, IsWithin}
use Rattle.xvc_frame.specs.Frames.{FrameState, tms_bits, tdi_bits}
use Rattle.virtual_tap.specs.Taps.{VTapState, ScansAt}
use Rattle.virtual_tap.specs.Views.{TapView, StandsFor, at_capture, closed_view}
use Rattle.client_session.specs.declared.shift.Pause.{Pause}
use Rattle.client_session.specs.declared.shift.Pause.TheVariants as pauses
use Rattle.client_session.specs.Acts.{shift_acts}
use Rattle.client_session.specs.Acts.Act.{Rise, Fall}
use Rattle.client_session.specs.Seats.{Seat, advanced, opens_next}
use Rattle.client_session.specs.Sessions.{DeskView, Serves}
use Rattle.client_session.specs.Turns.{LayoutShape, Turn, is_among, is_holder, freeing_cost, advanced_turn, advanced_turns}

-- the view once an open scan is closed where its register is written back
abbrev pub closed_if : Bool → TapView → TapView
closed_if true view = closed_view view
closed_if false view = view

-- the grant holds the chain exactly where its seat has a scan open
abbrev pub Holds : ℕ → Turn → Type 0
Holds grant turn = is_holder turn.holder grant ≡ turn.seat.chain.scan_open

-- the next fall ends the scan of the chain: the virtual TAP's register is what is to be latched, and once the scan is closed it stands
-- for the chain after the fall
pub record IsToClose (view : TapView) (chain : ChainState) : Type 0 where
  pub chain_open : chain.scan_open ≡ true
  pub view_open : view.scan_open ≡ true
  pub state : chain.state ≡ UpdateDr
  pub codes : view.codes ≡ code_list chain
  pub register : view.register ≡ Some (joined (dr_stages chain.devices))
  pub stands : StandsFor (closed_view view) (fall chain)

-- steps of a grant that neither open nor close a scan: the shared chain is not asked, and nothing of it is due
pub record Quiet (layout : LayoutShape) (grant : ℕ) (turn next : Turn) : Type 0 where
  pub steps : ℕ
  pub made : next ≡ advanced_turns steps layout grant turn
  pub holder : next.holder ≡ turn.holder
  pub waiting : next.waiting ≡ turn.waiting
  pub joins : next.joins ≡ turn.joins
  pub cost : next.cost ≡ turn.cost
  pub scan : next.seat.chain.scan_open ≡ turn.seat.chain.scan_open
  pub contents : contents_of next.seat.chain ≡ contents_of turn.seat.chain
  pub codes : turn.seat.chain.scan_open ≡ true → code_list next.seat.chain ≡ code_list turn.seat.chain

-- the TDO bit of a cycle took the place of its TDI bit
pub record PutsBit (at : ℕ) (bit : Bool) (old new : FrameState) : Type 0 where
  pub vector : new.vector ≡ old.vector
  pub tms : tms_bits new ≡ tms_bits old
  pub tdi : tdi_bits new ≡ slice_set (tdi_bits old) at bit

-- amid a `shift:`, before the cycle at a place: its acts are left, the TDO bits before it are sampled, and the virtual TAP stands for the chain
pub record ShiftsAt (frame : FrameState) (tap : VTapState) (at grant : ℕ) (turn : Turn) : Type 0 where
  pub going : turn.seat.going ≡ true
  pub holds : Holds grant turn
  pub types : types_of turn.seat.chain ≡ tap.parts
  pub acts : turn.seat.acts ≡ shift_acts (drop at (tms_bits frame)) (drop at (tdi_bits frame))
  pub sampled : turn.seat.sampled ≡ take at (tdi_bits frame)
  pub stands : StandsFor tap.view turn.seat.chain

-- the same before the fall of the cycle before, which ends the scan
pub record ClosesAt (frame : FrameState) (tap : VTapState) (at grant : ℕ) (turn : Turn) : Type 0 where
  pub going : turn.seat.going ≡ true
  pub holds : Holds grant turn
  pub types : types_of turn.seat.chain ≡ tap.parts
  pub acts : turn.seat.acts ≡ Fall ∷ shift_acts (drop at (tms_bits frame)) (drop at (tdi_bits frame))
  pub sampled : turn.seat.sampled ≡ take at (tdi_bits frame)
  pub closes : IsToClose tap.view turn.seat.chain

-- of a seat nothing changed but its chain, its acts and its samples
abbrev pub KeepsBytes : Seat → Seat → Type 0
KeepsBytes old new = new ≡ record old { chain = new.chain; acts = new.acts; sampled = new.sampled }

-- quiet steps led to a turn of which this holds
pub record Leads (layout : LayoutShape) (grant : ℕ) (P : Turn → Type 0) (turn : Turn) : Type 0 where
  pub next : Turn
  pub quiet : Quiet layout grant turn next
  pub kept : KeepsBytes turn.seat next.seat
  pub there : P next

-- where a walk through the cycles of a `shift:` ended: all are made, or the next edge captures, or the last one ended the scan
abbrev pub WalksTo : Pause → FrameState → VTapState → (cycles grant : ℕ) → Turn → Type 0
WalksTo pauses.Made frame tap cycles grant turn = ShiftsAt frame tap cycles grant turn
WalksTo (pauses.Capture at) frame tap cycles grant turn = ShiftsAt frame tap at grant turn
WalksTo (pauses.Update at) frame tap cycles grant turn = ClosesAt frame tap at grant turn

-- with TCK low after it
abbrev pub PausesWell : Pause → VTapState → (from cycles : ℕ) → Type 0
PausesWell pauses.Made tap from cycles = ScansAt false tap.view
PausesWell (pauses.Capture at) tap from cycles = ScansAt false tap.view × (at_capture tap.view ≡ true) × (from ≤ at) × (at < cycles)
PausesWell (pauses.Update at) tap from cycles = ScansAt false (closed_view tap.view) × (tap.view.scan_open ≡ true) × (from < at) × (at ≤ cycles)

-- ---- the shared chain

-- from one desk and turn of the grant the session came to another: the desk serves the turn, all other devices hold what they held, another
-- holder's scan is not touched, and the chain made no more cycles than are due
pub record Follows (layout : LayoutShape) (group : List ℕ) (grant : ℕ) (base_desk : DeskView) (base : Turn) (desk : DeskView) (turn : Turn) : Type 0 where
  pub serves : Serves layout group grant desk turn
  pub others : contents_of desk.chain ≡ with_contents group (contents_of turn.seat.chain) (contents_of base_desk.chain)
  pub held : (holder : ℕ) → base_desk.holder ≡ Some holder → holder ≢ grant → desk.holder ≡ Some holder
  pub untouched : (holder : ℕ) → base_desk.holder ≡ Some holder → holder ≢ grant → (desk.chain ≡ base_desk.chain) × (desk.scan ≡ base_desk.scan)
  pub due : base.cost ≤ turn.cost
  pub made : IsWithin desk.chain.made (raised base_desk.chain.made (turn.cost - base.cost))

-- amid a `shift:`, with TDO sampled for the cycle at a place, before its rise
pub record SampledAt (frame : FrameState) (tap : VTapState) (at grant : ℕ) (turn : Turn) : Type 0 where
  pub going : turn.seat.going ≡ true
  pub holds : Holds grant turn
  pub types : types_of turn.seat.chain ≡ tap.parts
  pub acts : turn.seat.acts ≡ Rise (bit_at (tms_bits frame) at) (bit_at (tdi_bits frame) at) ∷ Fall ∷ shift_acts (drop (suc at) (tms_bits frame)) (drop (suc at) (tdi_bits frame))
  pub sampled : turn.seat.sampled ≡ take at (tdi_bits frame) ++ tap.view.tdo ∷ []
  pub stands : StandsFor tap.view turn.seat.chain

-- the session waits there, since the rise may not come yet
pub record WaitsAt (layout : LayoutShape) (frame : FrameState) (tap : VTapState) (at grant : ℕ) (turn : Turn) : Type 0 where
  pub amid : SampledAt frame tap at grant turn
  pub rests : advanced_turn layout grant turn ≡ turn
  pub waits : is_among grant turn.waiting ≡ true

-- steps of the grant lead from a turn to one of which this holds
pub record GoesTo (layout : LayoutShape) (grant : ℕ) (P : Turn → Type 0) (turn : Turn) : Type 0 where
  pub next : Turn
  pub steps : ℕ
  pub made : next ≡ advanced_turns steps layout grant turn
  pub kept : KeepsBytes turn.seat next.seat
  pub there : P next

-- the next step of the turn ends the session, or else closes the chain as an end does: an open scan is updated, and the chain is reset
pub record EndsNext (tap : VTapState) (grant : ℕ) (turn : Turn) : Type 0 where
  pub holds : Holds grant turn
  pub types : types_of turn.seat.chain ≡ tap.parts
  pub stands : StandsFor tap.view turn.seat.chain
  pub opens : opens_next turn.seat ≡ false
  pub closes : (advanced turn.seat).chain ≡ closed turn.seat.chain
  pub cost : (width : ℕ) → freeing_cost turn.seat.acts width ≡ update_cost width

-- the next step of the turn resets the chain by TRST
pub record ResetsNext (tap : VTapState) (grant : ℕ) (turn : Turn) : Type 0 where
  pub holds : Holds grant turn
  pub types : types_of turn.seat.chain ≡ tap.parts
  pub stands : StandsFor tap.view turn.seat.chain
  pub opens : opens_next turn.seat ≡ false
  pub resets : (advanced turn.seat).chain ≡ reset turn.seat.chain
  pub cost : (width : ℕ) → freeing_cost turn.seat.acts width ≡ 1

-- the virtual TAP stands for the chain of a seat that has no scan open
pub record IsShut (tap : VTapState) (grant : ℕ) (turn : Turn) : Type 0 where
  pub holds : Holds grant turn
  pub types : types_of turn.seat.chain ≡ tap.parts
  pub stands : StandsFor tap.view turn.seat.chain
  pub shut : turn.seat.chain.scan_open ≡ false
