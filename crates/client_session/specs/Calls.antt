-- What a call makes of a session, beside the turn that it stands for.
use Rattle.std.specs.Prelude.{ℕ, ◌+◌, ◌≡◌, Bool, true, false, nat_le, List, [], ◌∷◌, ◌++◌, is_some, length, if◌then◌else◌}
use Rattle.std.specs.declared.option.Option.{Option}
use Rattle.std.specs.declared.option.Option.TheVariants.{None, Some}
use Rattle.chain_model.specs.Chains.{ChainState}
use Rattle.chain_token.specs.declared.token.Token.{Token}
use Rattle.grant_table.specs.Layouts.{LayoutShape, group_of}
use Rattle.scan_share.specs.Views.{ParkedView, OpenView}
use Rattle.scan_share.specs.Scans.{types_of, update_cost}
use Rattle.virtual_tap.specs.Views.{StandsFor}
use Rattle.client_session.specs.declared.End.{End}
use Rattle.client_session.specs.declared.End.TheVariants as ends
use Rattle.client_session.specs.declared.Stop.{Stop}
use Rattle.client_session.specs.declared.Stop.TheVariants as stops
use Rattle.client_session.specs.declared.halt.Halt.{Halt}
use Rattle.client_session.specs.declared.halt.Halt.TheVariants.{Rests, Waits, Ends}
use Rattle.client_session.specs.declared.progress.Progress.{Progress}
use Rattle.client_session.specs.Acts.{Act}
use Rattle.client_session.specs.Seats.{Seat, next_in, advanced, ended, gone_end, most_bytes, opens_next}
use Rattle.client_session.specs.Seats.Next.{Nothing}
use Rattle.client_session.specs.Turns.{Turn, is_among, freeing_cost, advanced_turn, advanced_turns}
use Rattle.client_session.specs.Stores.{AwaitsBytes, AwaitsCapture, HasEnded, IsInTime, protocol_of, unused_of, acts_of, sampled_of, reply_of}
use Rattle.client_session.specs.Going.{Follows, Holds}
use Rattle.client_session.specs.Sessions.{Came, DeskView, Serves, SessionView, Shows, stop_of}
use Rattle.client_session.specs.Desks.{desk_of}

-- the session has the settings and the lines of the seat of a turn, which is going, and its virtual TAP stands for the seat's chain
pub record ShowsTap (progress : Progress) (grant : ℕ) (turn : Turn) : Type 0 where
  pub going : turn.seat.going ≡ true
  pub holds : Holds grant turn
  pub types : types_of turn.seat.chain ≡ progress.tap.parts
  pub stands : StandsFor progress.tap.view turn.seat.chain
  pub protocol : protocol_of progress.input ≡ turn.seat.protocol
  pub uses_trst : progress.uses_trst ≡ turn.seat.uses_trst
  pub vector : progress.vector ≡ turn.seat.vector
  pub tck : progress.tck ≡ turn.seat.tck
  pub trst : progress.trst ≡ turn.seat.trst

-- and it has the seat's bytes, acts and samples, and its replies in what the peer was given and what is left to give
pub record ShowsSeat (progress : Progress) (grant : ℕ) (given : List ℕ) (turn : Turn) : Type 0 where
  pub tap : ShowsTap progress grant turn
  pub unused : unused_of progress.input ≡ turn.seat.unused
  pub used : progress.used ≡ turn.seat.used
  pub acts : acts_of progress.input ≡ turn.seat.acts
  pub sampled : sampled_of progress.input progress.tap.view.tdo ≡ turn.seat.sampled
  pub replies : given ++ reply_of progress ≡ turn.seat.replies

-- bytes came to the seat that the session has not taken yet; its peer was given all replies
pub record ShowsFed (progress : Progress) (piece : List ℕ) (grant : ℕ) (given : List ℕ) (turn : Turn) : Type 0 where
  pub tap : ShowsTap progress grant turn
  pub unused : unused_of progress.input ++ piece ≡ turn.seat.unused
  pub used : progress.used ≡ turn.seat.used
  pub acts : turn.seat.acts ≡ []
  pub sampled : turn.seat.sampled ≡ []
  pub replies : given ≡ turn.seat.replies

-- one act is left to the seat, for which the session has used its letter
pub record IsToAct (act : Act) (progress : Progress) (grant : ℕ) (given : List ℕ) (turn : Turn) : Type 0 where
  pub tap : ShowsTap progress grant turn
  pub unused : unused_of progress.input ≡ turn.seat.unused
  pub used : progress.used ≡ turn.seat.used
  pub acts : turn.seat.acts ≡ act ∷ []
  pub sampled : turn.seat.sampled ≡ []
  pub replies : given ++ reply_of progress ≡ turn.seat.replies

-- the next step of the turn ends the session so
pub record EndsSo (end : End) (progress : Progress) (grant : ℕ) (given : List ℕ) (turn : Turn) : Type 0 where
  pub tap : ShowsTap progress grant turn
  pub replies : given ++ reply_of progress ≡ turn.seat.replies
  pub opens : opens_next turn.seat ≡ false
  pub ends : advanced turn.seat ≡ ended end turn.seat
  pub cost : (width : ℕ) → freeing_cost turn.seat.acts width ≡ update_cost width

-- no act is left, and no message is whole
pub record RestsThere (progress : Progress) (grant : ℕ) (given : List ℕ) (turn : Turn) : Type 0 where
  pub shows : ShowsSeat progress grant given turn
  pub none : turn.seat.acts ≡ []
  pub nothing : next_in turn.seat.protocol turn.seat ≡ Nothing

-- the next act captures, which it may not yet
pub record WaitsThere (layout : LayoutShape) (progress : Progress) (grant : ℕ) (given : List ℕ) (turn : Turn) : Type 0 where
  pub shows : ShowsSeat progress grant given turn
  pub rests : advanced_turn layout grant turn ≡ turn
  pub waits : is_among grant turn.waiting ≡ true

-- what the session came to, beside its turn
abbrev pub HaltsAt : Halt → LayoutShape → Progress → (grant : ℕ) → (given : List ℕ) → Turn → Type 0
HaltsAt Rests layout progress grant given turn = RestsThere progress grant given turn
HaltsAt Waits layout progress grant given turn = WaitsThere layout progress grant given turn
HaltsAt (Ends end) layout progress grant given turn = EndsSo end progress grant given turn

-- lines were set: the session waits before their rise, or no act is left
abbrev pub LinesTo : (waits : Bool) → LayoutShape → Progress → (grant : ℕ) → (given : List ℕ) → Turn → Type 0
LinesTo true layout progress grant given turn = WaitsThere layout progress grant given turn
LinesTo false layout progress grant given turn = ShowsSeat progress grant given turn

abbrev pub LinesWell : (waits : Bool) → Progress → Type 0
LinesWell true progress = AwaitsCapture progress
LinesWell false progress = acts_of progress.input ≡ []

-- and over every cable
abbrev pub HaltsWell : Halt → Progress → Type 0
HaltsWell Rests progress = AwaitsBytes progress.input
HaltsWell Waits progress = AwaitsCapture progress
HaltsWell (Ends end) progress = Unit {0}

-- it waits
abbrev pub is_waiting : Halt → Bool
is_waiting Waits = true
is_waiting _ = false

-- what no act of a session changes: whose it is, and its settings
pub record KeepsSettings (old new : Progress) : Type 0 where
  pub grant : new.tap.grant ≡ old.tap.grant
  pub parts : new.tap.parts ≡ old.tap.parts
  pub protocol : protocol_of new.input ≡ protocol_of old.input
  pub uses_trst : new.uses_trst ≡ old.uses_trst
  pub vector : new.vector ≡ old.vector

-- an act of a letter leaves the letters and the replies
pub record KeepsLetters (old new : Progress) : Type 0 where
  pub unused : unused_of new.input ≡ unused_of old.input
  pub used : new.used ≡ old.used
  pub taken : new.taken ≡ old.taken
  pub said : new.said ≡ old.said
  pub pending : new.pending ≡ old.pending

-- a session that may go on: it is in time, and the register of its virtual TAP is there
pub record MayGoOn (progress : Progress) : Type 0 where
  pub time : IsInTime progress
  pub there : is_some progress.tap.view.register ≡ true

-- steps of the grant come to a turn of which this holds, within the same session
pub record ComesTo (layout : LayoutShape) (grant : ℕ) (P : Turn → Type 0) (turn : Turn) : Type 0 where
  pub next : Turn
  pub steps : ℕ
  pub made : next ≡ advanced_turns steps layout grant turn
  pub gone : next.seat.gone ≡ turn.seat.gone
  pub past : next.seat.past ≡ turn.seat.past
  pub there : P next

-- the replies of a going seat are those that the peer was given and those that are left to give
pub record HasReplied (progress : Progress) (given : List ℕ) (turn : Turn) : Type 0 where
  pub going : turn.seat.going ≡ true
  pub replies : given ++ reply_of progress ≡ turn.seat.replies

-- ---- where a call ends

-- the seat once it ended so, or as it is
abbrev pub ended_by : Option End → Seat → Seat
ended_by None seat = seat
ended_by (Some end) seat = ended end seat

-- how a session ends that waits for bytes, over every cable: at the most bytes, or where its peer is gone
abbrev pub rest_end : (gone : Bool) → (used : ℕ) → (unused : List ℕ) → Option End
rest_end gone used unused = if nat_le most_bytes (used + length unused) then Some (ends.Long most_bytes) else (if gone then Some (gone_end used unused) else None)

abbrev pub stop_by : Option End → Stop
stop_by None = stops.Done
stop_by (Some end) = stops.Ended end

-- how a call stops, by what the session came to
abbrev pub halt_stop : Halt → (gone : Bool) → (used : ℕ) → (unused : List ℕ) → Stop
halt_stop Rests gone used unused = stop_by (rest_end gone used unused)
halt_stop Waits gone used unused = stops.Waits
halt_stop (Ends end) gone used unused = stops.Ended end

-- until a session ends, so many of its bytes were taken
abbrev pub TakesOn : Stop → (taken now : ℕ) → Type 0
TakesOn (stops.Ended end) taken now = Unit {0}
TakesOn _ taken now = now ≡ taken

-- a session that ended, before its seat is used again: what it shows is the free seat, and the reply that is left to give
pub record HasLeft (old new : Progress) : Type 0 where
  pub ended : HasEnded new
  pub unused : unused_of new.input ≡ []
  pub used : new.used ≡ 0
  pub acts : acts_of new.input ≡ []
  pub sampled : (tdo : Bool) → sampled_of new.input tdo ≡ []
  pub reply : reply_of new ≡ reply_of old

-- steps of the grant lead from a turn to where it goes on no further: the desk serves it there, the session shows it, and the answer says how
-- it stopped
pub record ComesToStop (layout : LayoutShape) (grant : ℕ) (base_desk : DeskView) (base : Turn) (view : SessionView) (given : List ℕ) (stop : Stop) (desk : DeskView) (turn : Turn) : Type 0 where
  pub next : Turn
  pub steps : ℕ
  pub made : next ≡ advanced_turns steps layout grant turn
  pub rests : advanced_turn layout grant next ≡ next
  pub follows : Follows layout (group_of layout.grants grant) grant base_desk base desk next
  pub shows : Shows view (is_among grant next.waiting) next.seat given
  pub stops : stop ≡ stop_of grant turn.seat next

-- over a cable that tells its chain
abbrev pub StopsThere : {C : Type 0} → LayoutShape → ℕ → DeskView → Turn → SessionView → List ℕ → Stop → Token (ParkedView C) (OpenView C) → Option ChainState → Turn → Type 0
StopsThere layout grant base_desk base view given stop desk None turn = ⊥
StopsThere layout grant base_desk base view given stop desk (Some chain) turn = ComesToStop layout grant base_desk base view given stop (desk_of layout desk chain) turn

-- ---- the calls of a session

-- the desk, whose cable tells its chain, serves the turn of a grant
abbrev pub ServedBy : {C : Type 0} → LayoutShape → ℕ → Token (ParkedView C) (OpenView C) → Option ChainState → Turn → Type 0
ServedBy layout grant desk None turn = ⊥
ServedBy layout grant desk (Some chain) turn = Serves layout (group_of layout.grants grant) grant (desk_of layout desk chain) turn

-- a call led from one desk and turn to where the grant goes on no further, by the chains that are told before and after it
abbrev pub CameOn : {C : Type 0} → LayoutShape → ℕ → SessionView → List ℕ → (old new : Token (ParkedView C) (OpenView C)) → (before after : Option ChainState) → Turn → Stop → Type 0
CameOn layout grant view given old new (Some before) (Some after) turn stop = Came layout grant view given (desk_of layout old before) (desk_of layout new after) turn stop
CameOn layout grant view given old new _ _ turn stop = ⊥
