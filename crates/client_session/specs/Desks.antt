-- The desk with the shared chain, as the calls of a session see it.
use Rattle.std.specs.Prelude.{ℕ, ◌≡◌, ◌≢◌, ◌≤◌, ◌<◌, List, Bool, true, false, length}
use Rattle.std.specs.declared.option.Option.{Option}
use Rattle.std.specs.declared.option.Option.TheVariants.{None, Some}
use Rattle.std.specs.declared.result.Result.{Result}
use Rattle.std.specs.declared.result.Result.TheVariants.{Ok, Err}
use Rattle.base_types.specs.Tellings.{Both}
use Rattle.tap_states.specs.States.{next}
use Rattle.scan_bits.specs.Registers.{bit_at}
use Rattle.chain_model.specs.Chains.{ChainState}
use Rattle.chain_model.specs.Cycles.{fall}
use Rattle.xvc_frame.specs.Frames.{FrameState, tms_bits}
use Rattle.chain_token.specs.declared.token.Side.{Side}
use Rattle.chain_token.specs.declared.token.Side.TheVariants.{Free, Held}
use Rattle.chain_token.specs.declared.token.Token.{Token}
use Rattle.chain_token.specs.Tokens.{holder, waiting}
use Rattle.chain_token.specs.Waiting.{may_open}
use Rattle.grant_table.specs.Layouts.{LayoutShape, group_of}
use Rattle.grant_table.specs.Kept.{AllParts}
use Rattle.scan_share.specs.Laws.{IsGroup}
use Rattle.scan_share.specs.Scans.{Abandons, Captures, Updates, codes_during, types_of}
use Rattle.scan_share.specs.Views.{ParkedView, OpenView, BrokenView, codes_for, words_of}
use Rattle.virtual_tap.specs.Taps.{VTapState}
use Rattle.virtual_tap.specs.Views.{TapView, StandsFor, at_capture, opened_view, closed_view}
use Rattle.client_session.specs.declared.shift.Leg.{Leg}
use Rattle.client_session.specs.declared.shift.Leg.TheVariants.{Made, On, Waits}
use Rattle.client_session.specs.Turns.{Turn, advanced_turn, is_among, is_holder, without}
use Rattle.client_session.specs.Going.{Follows, IsShut, PutsBit, ShiftsAt, WaitsAt}
use Rattle.client_session.specs.Sessions.{DeskView, OpenScan}

-- a layout as each is, and a grant of it
pub record IsSound (layout : LayoutShape) (grant : ℕ) : Type 0 where
  pub in_range : grant < length layout.grants
  pub few : grant < 16
  pub parts : AllParts layout.parts
  pub group_is : IsGroup layout (group_of layout.grants grant)

-- its cable
abbrev pub cable_of : {C : Type 0} → Side (ParkedView C) (OpenView C) → C
cable_of (Free parked) = parked.cable
cable_of (Held held grant) = held.cable

-- the scan that is open on it
abbrev pub scan_on : {C : Type 0} → LayoutShape → Side (ParkedView C) (OpenView C) → Option OpenScan
scan_on layout (Free parked) = None
scan_on layout (Held held grant) = Some (record { grant = held.grant; codes = codes_for layout held.grant held.codes })

-- what it shows of the shared chain
abbrev pub desk_of : {C : Type 0} → LayoutShape → Token (ParkedView C) (OpenView C) → ChainState → DeskView
desk_of layout desk chain = record { holder = holder desk; waiting = waiting desk; scan = scan_on layout desk.side; chain = chain }

-- the cable in an answer
abbrev pub cable_after : {C : Type 0} → Result (Token (ParkedView C) (OpenView C)) (BrokenView C) → C
cable_after (Ok desk) = cable_of desk.side
cable_after (Err broken) = broken.cable

abbrev pub cable_then : {C X : Type 0} → Result (X × Token (ParkedView C) (OpenView C)) (BrokenView C) → C
cable_then (Ok pair) = cable_of pair.1.side
cable_then (Err broken) = broken.cable

-- the scan that a grant holds was captured for it under these codes, and they are still loaded
pub record HoldsScan {C : Type 0} (layout : LayoutShape) (grant : ℕ) (codes : List (List Bool)) (held : OpenView C) : Type 0 where
  pub grant_is : held.grant ≡ grant
  pub codes_are : codes_for layout grant held.codes ≡ codes
  pub loaded : held.loaded ≡ words_of (codes_during layout (group_of layout.grants grant) codes)

abbrev pub SideFits : {C : Type 0} → LayoutShape → ℕ → List (List Bool) → Side (ParkedView C) (OpenView C) → Type 0
SideFits layout grant codes (Free parked) = Unit {0}
SideFits layout grant codes (Held held holder) = holder ≡ grant → HoldsScan layout grant codes held

-- the grant holds the desk exactly where its virtual TAP has a scan open, and then with the scan of its codes
pub record IsDesk {C : Type 0} (layout : LayoutShape) (grant : ℕ) (tap : TapView) (desk : Token (ParkedView C) (OpenView C)) : Type 0 where
  pub holds : is_holder (holder desk) grant ≡ tap.scan_open
  pub fits : SideFits layout grant tap.codes desk.side

-- of the other grants nothing changed at the desk: a scan that one of them holds is as it was, none of them holds one that it did not, and
-- they wait in the same order
pub record KeepsOthers {C : Type 0} (grant : ℕ) (desk next : Token (ParkedView C) (OpenView C)) : Type 0 where
  pub held : (other : ℕ) → holder desk ≡ Some other → other ≢ grant → next.side ≡ desk.side
  pub gained : (other : ℕ) → holder next ≡ Some other → other ≢ grant → next.side ≡ desk.side
  pub line : without grant (waiting next) ≡ without grant (waiting desk)

-- a grant may not open a scan at the desk, for another holds it, or waits for it before the grant
pub record IsBlocked {C : Type 0} (grant : ℕ) (desk : Token (ParkedView C) (OpenView C)) : Type 0 where
  pub holds : is_holder (holder desk) grant ≡ false
  pub opens : may_open (holder desk) (waiting desk) grant ≡ false

-- only there a session waits
abbrev pub WaitsBlocked : {C : Type 0} → (waits : Bool) → ℕ → Token (ParkedView C) (OpenView C) → Type 0
WaitsBlocked true grant desk = IsBlocked grant desk
WaitsBlocked false grant desk = Unit {0}

-- a capture filled the register of the virtual TAP and opened its scan, and the grant holds the desk
pub record Opened {C : Type 0} (layout : LayoutShape) (grant : ℕ) (waits : List ℕ) (old new : VTapState) (desk : Token (ParkedView C) (OpenView C)) (before after : Option ChainState) : Type 0 where
  pub bits : List Bool
  pub grant_is : new.grant ≡ old.grant
  pub parts_are : new.parts ≡ old.parts
  pub view_is : new.view ≡ opened_view bits old.view
  pub captured : Both before after (Captures layout (group_of layout.grants grant) old.view.codes bits)
  pub held : holder desk ≡ Some grant
  pub scan : scan_on layout desk.side ≡ Some (record { grant = grant; codes = old.view.codes })
  pub fits : SideFits layout grant old.view.codes desk.side
  pub waits_are : waiting desk ≡ waits

-- an update wrote the register of the virtual TAP back and closed its scan, and the desk is free
pub record Closed {C : Type 0} (layout : LayoutShape) (grant : ℕ) (waits : List ℕ) (old new : VTapState) (desk : Token (ParkedView C) (OpenView C)) (before after : Option ChainState) : Type 0 where
  pub tap : new ≡ record old { view = closed_view old.view }
  pub updated : (bits : List Bool) → old.view.register ≡ Some bits → Both before after (Updates layout (group_of layout.grants grant) old.view.codes bits)
  pub free : holder desk ≡ None
  pub scan : scan_on layout desk.side ≡ None
  pub fits : SideFits layout grant old.view.codes desk.side
  pub waits_are : waiting desk ≡ waits

-- a capture opened the scan of the cycle at a place, and the cycle was made
pub record Entered {C : Type 0} (layout : LayoutShape) (grant at : ℕ) (waits : List ℕ) (frame frame_new : FrameState) (old new : VTapState) (desk : Token (ParkedView C) (OpenView C)) (before after : Option ChainState) : Type 0 where
  pub bits : List Bool
  pub captured : Both before after (Captures layout (group_of layout.grants grant) old.view.codes bits)
  pub put : PutsBit at old.view.tdo frame frame_new
  pub moved : (chain : ChainState) → types_of chain ≡ old.parts → StandsFor (record (opened_view bits old.view) { state = next old.view.state (bit_at (tms_bits frame) at) }) chain → StandsFor new.view (fall chain)
  pub scan_open : new.view.scan_open ≡ true
  pub held : holder desk ≡ Some grant
  pub scan : scan_on layout desk.side ≡ Some (record { grant = grant; codes = old.view.codes })
  pub waits_are : waiting desk ≡ waits

-- the desk, whose cable tells its chain, serves a turn of which this holds, and follows an earlier desk and turn
abbrev pub Attends : {C : Type 0} → LayoutShape → ℕ → DeskView → Turn → (Turn → Type 0) → Token (ParkedView C) (OpenView C) → Option ChainState → Turn → Type 0
Attends layout grant base_desk base P desk None turn = ⊥
Attends layout grant base_desk base P desk (Some chain) turn = Follows layout (group_of layout.grants grant) grant base_desk base (desk_of layout desk chain) turn × P turn

-- what a leg of a `shift:` comes to: all cycles are made; those before one are; or the session waits before the rise of one
abbrev pub LegTo : Leg → LayoutShape → FrameState → VTapState → (cycles grant : ℕ) → Turn → Type 0
LegTo Made layout frame tap cycles grant turn = ShiftsAt frame tap cycles grant turn
LegTo (On at) layout frame tap cycles grant turn = ShiftsAt frame tap at grant turn
LegTo (Waits at) layout frame tap cycles grant turn = WaitsAt layout frame tap at grant turn

-- and where it stands then
abbrev pub LegWithin : Leg → VTapState → (from cycles : ℕ) → Type 0
LegWithin Made tap from cycles = Unit {0}
LegWithin (On at) tap from cycles = (from < at) × (at ≤ cycles)
LegWithin (Waits at) tap from cycles = (at_capture tap.view ≡ true) × (at < cycles)

-- where a session that waited, or went on, stands at the desk over every cable
abbrev pub MayWait : Leg → ℕ → List ℕ → Type 0
MayWait (Waits at) grant waits = is_among grant waits ≡ true
MayWait _ grant waits = Unit {0}

-- where a session stops amid a `shift:`: nowhere, all cycles being made; or before the rise of a cycle, where it waits
abbrev pub StopsAt : Option ℕ → LayoutShape → FrameState → VTapState → (cycles grant : ℕ) → Turn → Type 0
StopsAt None layout frame tap cycles grant turn = ShiftsAt frame tap cycles grant turn
StopsAt (Some at) layout frame tap cycles grant turn = WaitsAt layout frame tap at grant turn

abbrev pub StopsWell : Option ℕ → VTapState → (cycles grant : ℕ) → List ℕ → Type 0
StopsWell None tap cycles grant waits = Unit {0}
StopsWell (Some at) tap cycles grant waits = (at_capture tap.view ≡ true) × (at < cycles) × (is_among grant waits ≡ true)

-- the desk, whose cable tells its chain, serves the turn after a step, and no scan of the grant is open
abbrev pub StepsTo : {C : Type 0} → LayoutShape → ℕ → VTapState → DeskView → Turn → Token (ParkedView C) (OpenView C) → Option ChainState → Turn → Type 0
StepsTo layout grant tap base_desk base desk told turn = Attends layout grant base_desk base (IsShut tap grant) desk told (advanced_turn layout grant turn)

-- a reset of the shared chain ended the scan without an update, and the desk is free
pub record AbandonsScan {C : Type 0} (layout : LayoutShape) (waits : List ℕ) (old new : VTapState) (desk : Token (ParkedView C) (OpenView C)) (before after : Option ChainState) : Type 0 where
  pub tap : new ≡ record old { view = closed_view old.view }
  pub abandoned : Both before after (Abandons layout)
  pub free : holder desk ≡ None
  pub scan : scan_on layout desk.side ≡ None
  pub waits_are : waiting desk ≡ waits
