-- An edge of TCK that a session of remote_bitbang makes on its virtual TAP, beside the turn that it stands for.
use Rattle.std.specs.Prelude.{ℕ, ◌≡◌, Bool, true, not, ◌&&◌, List, if◌then◌else◌}
use Rattle.std.specs.declared.option.Option.{Option}
use Rattle.chain_model.specs.Chains.{ChainState}
use Rattle.chain_token.specs.declared.token.Token.{Token}
use Rattle.grant_table.specs.Layouts.{LayoutShape}
use Rattle.scan_share.specs.Scans.{types_of, update_cost}
use Rattle.scan_share.specs.Views.{ParkedView, OpenView}
use Rattle.virtual_tap.specs.Taps.{VTapState}
use Rattle.virtual_tap.specs.Views.{StandsFor, at_capture}
use Rattle.client_session.specs.declared.input.Input.{Input}
use Rattle.client_session.specs.Seats.{advanced, after_tck, opens_next}
use Rattle.client_session.specs.Turns.{Turn, advanced_turn, freeing_cost, is_among}
use Rattle.client_session.specs.Sessions.{DeskView}
use Rattle.client_session.specs.Stores.{HasRoomToSay, KeepsInput, protocol_of, replied, unused_of}
use Rattle.client_session.specs.Going.{Holds}
use Rattle.client_session.specs.Desks.{Attends}

-- the same bytes and replies, whatever edge is asked for
pub record SameLetters (old new : Input) : Type 0 where
  pub protocol : protocol_of new ≡ protocol_of old
  pub unused : unused_of new ≡ unused_of old
  pub replied_is : (said : List ℕ) → replied new said ≡ replied old said
  pub keeps : (vector : ℕ) → KeepsInput vector old → KeepsInput vector new
  pub room : (said : List ℕ) → HasRoomToSay old said → HasRoomToSay new said

-- the next step of the turn is an edge of TCK to this level, with TMS and TDI
pub record MakesEdge (tck tms tdi : Bool) (tap : VTapState) (grant : ℕ) (turn : Turn) : Type 0 where
  pub holds : Holds grant turn
  pub types : types_of turn.seat.chain ≡ tap.parts
  pub stands : StandsFor tap.view turn.seat.chain
  pub opens : opens_next turn.seat ≡ (tck && at_capture tap.view)
  pub moves : (advanced turn.seat).chain ≡ after_tck (not tck) tck tms tdi turn.seat.chain
  pub cost : (width : ℕ) → freeing_cost turn.seat.acts width ≡ update_cost width

-- the turn after that step: the edge is made, or the session waits before it
pub record AfterEdge (waits : Bool) (layout : LayoutShape) (tap : VTapState) (grant : ℕ) (turn next : Turn) : Type 0 where
  pub holds : Holds grant next
  pub types : types_of next.seat.chain ≡ tap.parts
  pub stands : StandsFor tap.view next.seat.chain
  pub seat : next.seat ≡ (if waits then turn.seat else advanced turn.seat)
  pub rests : waits ≡ true → advanced_turn layout grant next ≡ next
  pub line : waits ≡ true → is_among grant next.waiting ≡ true

-- the desk, whose cable tells its chain, serves that turn
abbrev pub EdgesTo : {C : Type 0} → Bool → LayoutShape → ℕ → VTapState → DeskView → Turn → Token (ParkedView C) (OpenView C) → Option ChainState → Turn → Type 0
EdgesTo waits layout grant tap base_desk base desk told turn = Attends layout grant base_desk base (AfterEdge waits layout tap grant turn) desk told (advanced_turn layout grant turn)
