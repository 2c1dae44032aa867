-- A session on its way from the input to the output: between two pieces of its bytes.
use Rattle.std.specs.Prelude.{ℕ, ◌≡◌, ◌≤◌, ◌<◌, Bool, true, false, List, [], length}
use Rattle.std.specs.declared.option.Option.{Option}
use Rattle.std.specs.declared.option.Option.TheVariants.{None, Some}
use Rattle.std.specs.declared.result.Result.{Result}
use Rattle.std.specs.declared.result.Result.TheVariants.{Ok, Err}
use Rattle.std.specs.Io.KnownBytes.{Appends, Consumes}
use Rattle.base_types.specs.Counts.{Rose}
use Rattle.base_types.specs.Tellings.{Told}
use Rattle.chain_model.specs.Chains.{ChainState}
use Rattle.chain_token.specs.declared.token.Token.{Token}
use Rattle.chain_token.specs.Tokens.{waiting}
use Rattle.chain_token.specs.Waiting.{is_among}
use Rattle.grant_table.specs.Layouts.{LayoutShape, group_of}
use Rattle.scan_share.specs.Scans.{IsWhole, contents_of, with_contents}
use Rattle.scan_share.specs.Views.{ParkedView, OpenView}
use Rattle.client_session.specs.declared.End.{End}
use Rattle.client_session.specs.declared.Stop.{Stop}
use Rattle.client_session.specs.declared.Stop.TheVariants as stops
use Rattle.client_session.specs.declared.Stand.{Stand}
use Rattle.client_session.specs.Seats.{most_bytes}
use Rattle.client_session.specs.Turns.{Turn}
use Rattle.client_session.specs.Laws.{IsByItself}
use Rattle.client_session.specs.Sessions.{DeskView, Serves, SessionView, Shows, view_taken}
use Rattle.client_session.specs.Stores.{IsOfLayout, SessionState}
use Rattle.client_session.specs.Desks.{IsDesk, desk_of}
use Rattle.lone_session.specs.declared.Served.{Served}
use Rattle.lone_session.specs.Serving.{Closes, IsAlone, MayEnd, ServedCauses, ServedFrom, after_bytes}

-- the session waits for bytes at the desk, where nobody else is, with all replies given
pub record IsReady {C : Type 0} (layout : LayoutShape) (session : SessionState) (desk : Token (ParkedView C) (OpenView C)) (told : Option ChainState) (has_trst : Bool) : Type 0 where
  pub layout_is : IsOfLayout layout session
  pub grant : session.grant < length layout.grants
  pub fit : session.view.spent ≡ false
  pub desk_is : IsDesk layout session.grant session.view.tap desk
  pub whole : Told told (IsWhole layout)
  pub trst : session.view.uses_trst ≡ true → has_trst ≡ true
  pub line : is_among session.grant (waiting desk) ≡ false
  pub alone : IsAlone session.grant desk
  pub going : session.view.stand ≡ Stand.Going
  pub given : session.view.reply ≡ []

-- the session of a turn goes on, once these bytes were taken: the seat is what it is by itself, the session shows it, the desk serves it, and
-- all other devices hold what they held
pub record Reaches (layout : LayoutShape) (grant : ℕ) (view : SessionView) (old_desk new_desk : DeskView) (start : Turn) (taken replies : List ℕ) : Type 0 where
  pub turn : Turn
  pub seat : turn.seat ≡ after_bytes taken start.seat
  pub conn : turn.seat.conn ≡ start.seat.conn
  pub past : turn.seat.past ≡ start.seat.past
  pub shows : Shows view false turn.seat replies
  pub serves : Serves layout (group_of layout.grants grant) grant new_desk turn
  pub itself : IsByItself grant turn
  pub old_whole : IsWhole layout old_desk.chain
  pub others : contents_of new_desk.chain ≡ with_contents (group_of layout.grants grant) (contents_of turn.seat.chain) (contents_of old_desk.chain)

-- the same over a cable that tells its chain
abbrev pub Reached : {C : Type 0} → LayoutShape → ℕ → SessionView → DeskView → Token (ParkedView C) (OpenView C) → Option ChainState → Turn → (taken replies : List ℕ) → Type 0
Reached layout grant view old_desk desk None start taken replies = ⊥
Reached layout grant view old_desk desk (Some chain) start taken replies = Reaches layout grant view old_desk (desk_of layout desk chain) start taken replies

abbrev pub Closed : {C : Type 0} → LayoutShape → ℕ → DeskView → Token (ParkedView C) (OpenView C) → Option ChainState → Turn → (taken replies : List ℕ) → End → Type 0
Closed layout grant old_desk desk None start taken replies end = ⊥
Closed layout grant old_desk desk (Some chain) start taken replies end = Closes layout grant old_desk (desk_of layout desk chain) start taken replies end

-- the session used bytes, and goes on or ended by them, with these replies
abbrev pub FedTo : {C : Type 0} → Stop → LayoutShape → ℕ → SessionView → DeskView → Token (ParkedView C) (OpenView C) → Option ChainState → Turn → (taken replies : List ℕ) → Type 0
FedTo stops.Done layout grant view old_desk desk told start taken replies = Reached layout grant (record view { reply = [] }) old_desk desk told start taken replies
FedTo (stops.Ended end) layout grant view old_desk desk told start taken replies = Closed layout grant old_desk desk told start taken replies end × ((rest : Option (List ℕ)) → MayEnd end rest)
FedTo stops.Waits layout grant view old_desk desk told start taken replies = ⊥

-- a call used all bytes, or ended the session: it does not wait
abbrev pub NeverWaits : Stop → Type 0
NeverWaits stops.Waits = ⊥
NeverWaits _ = Unit {0}

-- where it ended the session, no drop did
abbrev pub EndsItself : Stop → Type 0
EndsItself (stops.Ended end) = (rest : Option (List ℕ)) → MayEnd end rest
EndsItself _ = Unit {0}

-- more bytes of the session were taken, and no more than the most
pub record TakesMore (old new : SessionView) : Type 0 where
  pub more : view_taken old < view_taken new
  pub few : view_taken new ≤ most_bytes

-- bytes were taken from the input, and their replies went out
pub record GoesOn {C : Type 0} (layout : LayoutShape) (grant : ℕ) (view : SessionView) (left rest sent sent' : Option (List ℕ)) (old_desk : DeskView) (desk : Token (ParkedView C) (OpenView C)) (told : Option ChainState) (start : Turn) : Type 0 where
  pub taken : List ℕ
  pub given : List ℕ
  pub consumed : Consumes left rest taken
  pub wrote : Appends sent sent' given
  pub reached : Reached layout grant view old_desk desk told start taken given

-- a turn comes to the next, or to the end of the input's bytes
abbrev pub TurnedTo : {C : Type 0} → Option Served → LayoutShape → ℕ → SessionView → (left rest sent sent' : Option (List ℕ)) → DeskView → Token (ParkedView C) (OpenView C) → Option ChainState → Turn → Type 0
TurnedTo None layout grant view left rest sent sent' old_desk desk told start = GoesOn layout grant view left rest sent sent' old_desk desk told start
TurnedTo (Some served) layout grant view left rest sent sent' old_desk desk told start = ServedFrom layout grant served left rest sent sent' old_desk desk told start

-- no count rose in a turn that comes to the next
abbrev pub StepCauses : Option Served → (source source' cable cable' sink sink' : ℕ) → Type 0
StepCauses None source source' cable cable' sink sink' = (source' ≡ source) × (cable' ≡ cable) × (sink' ≡ sink)
StepCauses (Some served) source source' cable cable' sink sink' = ServedCauses served source source' cable cable' sink sink'

abbrev pub TurnCauses : {X E : Type 0} → Result (Option Served × X) E → (source source' cable cable' sink sink' : ℕ) → Type 0
TurnCauses (Ok pair) source source' cable cable' sink sink' = StepCauses pair.0 source source' cable cable' sink sink'
TurnCauses (Err broken) source source' cable cable' sink sink' = (source ≤ source') × Rose cable cable' × (sink ≤ sink')
