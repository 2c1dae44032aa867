-- The letters of remote_bitbang that a session took, used one after another.
use Rattle.std.specs.Prelude.{ℕ, ◌+◌, ◌≡◌, ◌<◌, Bool, true, false, List, [], ◌∷◌, ◌++◌, drop, length}
use Rattle.client_session.specs.declared.letters.LetterAct.{LetterAct}
use Rattle.client_session.specs.declared.letters.LetterAct.TheVariants as asked
use Rattle.client_session.specs.declared.progress.Progress.{Progress}
use Rattle.client_session.specs.Acts.{Act}
use Rattle.client_session.specs.Acts.Act.{SayTdo, SetLines, SetTrst}
use Rattle.client_session.specs.Seats.{next_bitbang, tdo_digit}
use Rattle.client_session.specs.Seats.Next.{Whole}
use Rattle.client_session.specs.Turns.{LayoutShape, Turn}
use Rattle.client_session.specs.Going.{Quiet}
use Rattle.client_session.specs.Stores.{acts_of, protocol_of, reply_of, unused_of}
use Rattle.client_session.specs.Calls.{ShowsTap}

-- the acts that a letter asks for
abbrev pub acts_asked : LetterAct → List Act
acts_asked (asked.Lines tck tms tdi) = SetLines tck tms tdi ∷ []
acts_asked (asked.Trst level) = SetTrst level ∷ []
acts_asked asked.Tdo = SayTdo ∷ []
acts_asked asked.Nothing = []

-- it asks for TRST
abbrev pub is_trst : LetterAct → Bool
is_trst (asked.Trst level) = true
is_trst _ = false

-- the first letter that is not used asks for this, and for TRST only where the setting has it
pub record IsNext (act : LetterAct) (progress : Progress) : Type 0 where
  pub whole : next_bitbang progress.uses_trst progress.used (unused_of progress.input) ≡ Whole (acts_asked act) 1
  pub trst : is_trst act ≡ true → progress.uses_trst ≡ true

-- of a session nothing changed but its bytes and its replies
pub record KeepsLines (old new : Progress) : Type 0 where
  pub tap : new.tap ≡ old.tap
  pub tck : new.tck ≡ old.tck
  pub trst : new.trst ≡ old.trst
  pub protocol : protocol_of new.input ≡ protocol_of old.input
  pub uses_trst : new.uses_trst ≡ old.uses_trst
  pub vector : new.vector ≡ old.vector

-- the first letter was used, and there is room for the reply to it
pub record UsesFirst (old new : Progress) : Type 0 where
  pub lines : KeepsLines old new
  pub unused : unused_of new.input ≡ drop 1 (unused_of old.input)
  pub used : new.used ≡ old.used + 1
  pub taken : new.taken ≡ old.taken
  pub acts : acts_of new.input ≡ acts_of old.input
  pub said : new.said ≡ old.said
  pub pending : new.pending ≡ old.pending
  pub room : length new.said.items + length (unused_of new.input) < 16

-- the digit of TDO was replied
pub record SaysTdo (old new : Progress) : Type 0 where
  pub lines : KeepsLines old new
  pub unused : unused_of new.input ≡ unused_of old.input
  pub used : new.used ≡ old.used
  pub taken : new.taken ≡ old.taken
  pub acts : acts_of new.input ≡ acts_of old.input
  pub reply : reply_of new ≡ reply_of old ++ tdo_digit old.tap.view.tdo ∷ []

-- letters were taken where none was left; the replies before them were given
pub record TakesLetters (piece : List ℕ) (old new : Progress) : Type 0 where
  pub lines : KeepsLines old new
  pub unused : unused_of new.input ≡ piece
  pub used : new.used ≡ old.used
  pub taken : new.taken ≡ old.taken + length piece
  pub acts : acts_of new.input ≡ []
  pub reply : reply_of new ≡ []

-- these acts are left to the seat, for which the session has used a letter
pub record IsToDo (acts : List Act) (progress : Progress) (grant : ℕ) (given : List ℕ) (turn : Turn) : Type 0 where
  pub tap : ShowsTap progress grant turn
  pub unused : unused_of progress.input ≡ turn.seat.unused
  pub used : progress.used ≡ turn.seat.used
  pub acts_are : turn.seat.acts ≡ acts
  pub sampled : turn.seat.sampled ≡ []
  pub replies : given ++ reply_of progress ≡ turn.seat.replies

-- quiet steps of the grant come to a turn of which this holds, within the same session
pub record ComesQuietly (layout : LayoutShape) (grant : ℕ) (P : Turn → Type 0) (turn : Turn) : Type 0 where
  pub next : Turn
  pub quiet : Quiet layout grant turn next
  pub gone : next.seat.gone ≡ turn.seat.gone
  pub past : next.seat.past ≡ turn.seat.past
  pub there : P next
