-- A session that is served from an input to an output, where its grant is by itself.
use Rattle.std.specs.Prelude.{ℕ, ◌≡◌, ◌≤◌, IfSome, List, [], ◌∷◌, ◌++◌}
use Rattle.std.specs.declared.option.Option.{Option}
use Rattle.std.specs.declared.option.Option.TheVariants.{None, Some}
use Rattle.std.specs.declared.result.Result.{Result}
use Rattle.std.specs.declared.result.Result.TheVariants.{Ok, Err}
use Rattle.std.specs.Io.KnownBytes.{Appends, Consumes, IsAtEnd}
use Rattle.base_types.specs.Counts.{Rose}
use Rattle.chain_model.specs.Chains.{ChainState}
use Rattle.chain_token.specs.declared.token.Token.{Token}
use Rattle.chain_token.specs.Tokens.{holder, waiting}
use Rattle.chain_token.specs.Waiting.{without}
use Rattle.grant_table.specs.Layouts.{LayoutShape, group_of}
use Rattle.scan_share.specs.Scans.{contents_of, with_contents}
use Rattle.scan_share.specs.Views.{ParkedView, OpenView}
use Rattle.client_session.specs.declared.End.{End}
use Rattle.client_session.specs.declared.End.TheVariants.{Gone, Cut}
use Rattle.client_session.specs.Seats.{Seat, replies_now}
use Rattle.client_session.specs.Private.{after_events}
use Rattle.client_session.specs.Private.Event.{Took, Gone as PeerGone}
use Rattle.client_session.specs.Turns.{Turn}
use Rattle.client_session.specs.Laws.{IsByItself}
use Rattle.client_session.specs.Sessions.{DeskView, IsPrefix, Serves}
use Rattle.client_session.specs.Desks.{desk_of}
use Rattle.lone_session.specs.declared.Served.{Served}
use Rattle.lone_session.specs.declared.Served.TheVariants.{Ended, ReadFault, WriteFault}

-- nobody else is at the desk: nobody but the grant holds the chain, and nobody else waits for it
pub record IsAlone {C : Type 0} (grant : ℕ) (desk : Token (ParkedView C) (OpenView C)) : Type 0 where
  pub held : IfSome (holder desk) (λ other. other ≡ grant)
  pub line : without grant (waiting desk) ≡ []

-- the seat by itself after these bytes of its session, and once its peer is gone after them
abbrev pub after_bytes : List ℕ → Seat → Seat
after_bytes bytes seat = after_events (Took seat.conn bytes ∷ []) seat

abbrev pub after_input : List ℕ → Seat → Seat
after_input bytes seat = after_events (Took seat.conn bytes ∷ PeerGone seat.conn ∷ []) seat

-- one session more has ended at the seat, so and with these replies
abbrev pub EndedSo : End → List ℕ → Seat → Seat → Type 0
EndedSo end replies old new = new.past ≡ old.past ++ record { conn = old.conn; replies = replies; end = end } ∷ []

-- a session ends because its peer is gone only where the input is at its end
abbrev pub MayEnd : End → (rest : Option (List ℕ)) → Type 0
MayEnd (Gone count) rest = IsAtEnd rest
MayEnd (Cut count) rest = IsAtEnd rest
MayEnd _ rest = Unit {0}

-- so over every cable
abbrev pub EndsAt : Served → (rest : Option (List ℕ)) → Type 0
EndsAt (Ended end) rest = MayEnd end rest
EndsAt _ rest = Unit {0}

-- the session of a turn has ended so, once these bytes were taken: the seat is what it is by itself, the desk serves it, and all other devices
-- hold what they held
pub record Closes (layout : LayoutShape) (grant : ℕ) (old_desk new_desk : DeskView) (start : Turn) (taken replies : List ℕ) (end : End) : Type 0 where
  pub next : Turn
  pub seat : next.seat ≡ after_input taken start.seat
  pub past : EndedSo end replies start.seat next.seat
  pub serves : Serves layout (group_of layout.grants grant) grant new_desk next
  pub itself : IsByItself grant next
  pub others : contents_of new_desk.chain ≡ with_contents (group_of layout.grants grant) (contents_of next.seat.chain) (contents_of old_desk.chain)

-- what went out of the replies, by how the bytes of the input came to their end
abbrev pub Gives : Served → End → (given replies : List ℕ) → (rest : Option (List ℕ)) → Type 0
Gives (Ended told) end given replies rest = (told ≡ end) × (given ≡ replies) × MayEnd end rest
Gives ReadFault end given replies rest = given ≡ replies
Gives WriteFault end given replies rest = IsPrefix given replies

-- a session was served to its end: bytes were taken from the input, and went out
pub record WasServed (layout : LayoutShape) (grant : ℕ) (served : Served) (left rest sent sent' : Option (List ℕ)) (old_desk new_desk : DeskView) (start : Turn) : Type 0 where
  pub taken : List ℕ
  pub given : List ℕ
  pub replies : List ℕ
  pub end : End
  pub consumed : Consumes left rest taken
  pub wrote : Appends sent sent' given
  pub closes : Closes layout grant old_desk new_desk start taken replies end
  pub gives : Gives served end given replies rest

-- by the chains that the cable tells before and after it
abbrev pub ServedFrom : {C : Type 0} → LayoutShape → ℕ → Served → (left rest sent sent' : Option (List ℕ)) → DeskView → Token (ParkedView C) (OpenView C) → Option ChainState → Turn → Type 0
ServedFrom layout grant served left rest sent sent' old_desk desk None start = ⊥
ServedFrom layout grant served left rest sent sent' old_desk desk (Some chain) start = WasServed layout grant served left rest sent sent' old_desk (desk_of layout desk chain) start

abbrev pub ServedBetween : {C : Type 0} → LayoutShape → ℕ → Served → (left rest sent sent' : Option (List ℕ)) → (old new : Token (ParkedView C) (OpenView C)) → (before after : Option ChainState) → Turn → Type 0
ServedBetween layout grant served left rest sent sent' old new None after start = ⊥
ServedBetween layout grant served left rest sent sent' old new (Some before) after start = ServedFrom layout grant served left rest sent sent' (desk_of layout old before) new after start

-- the cable failed: a front of the replies to the bytes that were taken went out
pub record WasCutOff (left rest sent sent' : Option (List ℕ)) (seat : Seat) : Type 0 where
  pub taken : List ℕ
  pub given : List ℕ
  pub consumed : Consumes left rest taken
  pub wrote : Appends sent sent' given
  pub front : IsPrefix given (replies_now (after_bytes taken seat))

-- a fault of the input or the output is answered only where its count rose, and every other count stays
abbrev pub ServedCauses : Served → (source source' cable cable' sink sink' : ℕ) → Type 0
ServedCauses (Ended end) source source' cable cable' sink sink' = (source' ≡ source) × (cable' ≡ cable) × (sink' ≡ sink)
ServedCauses ReadFault source source' cable cable' sink sink' = Rose source source' × (cable' ≡ cable) × (sink' ≡ sink)
ServedCauses WriteFault source source' cable cable' sink sink' = (source' ≡ source) × (cable' ≡ cable) × Rose sink sink'

-- a failed cable is answered only where its count rose, after a failed read or write too
abbrev pub HasCauses : {X E : Type 0} → Result (Served × X) E → (source source' cable cable' sink sink' : ℕ) → Type 0
HasCauses (Ok pair) source source' cable cable' sink sink' = ServedCauses pair.0 source source' cable cable' sink sink'
HasCauses (Err broken) source source' cable cable' sink sink' = (source ≤ source') × Rose cable cable' × (sink ≤ sink')
