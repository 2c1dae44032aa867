-- How a session of XVC uses the bytes of a message: they are taken until they are whole, and then used.
use Rattle.std.specs.Prelude.{ℕ, ◌+◌, ◌≡◌, ◌≤◌, ◌<◌, Bool, true, false, List, [], ◌++◌, length}
use Rattle.std.specs.declared.option.Option.{Option}
use Rattle.std.specs.declared.option.Option.TheVariants.{None, Some}
use Rattle.grant_table.specs.declared.Protocol.TheVariants as protocols
use Rattle.grant_table.specs.Layouts.{LayoutShape}
use Rattle.xvc_frame.specs.declared.FrameStep.{FrameStep}
use Rattle.xvc_frame.specs.Frames.{FrameState, Tells}
use Rattle.virtual_tap.specs.Views.{at_capture}
use Rattle.client_session.specs.declared.input.Input.{Input}
use Rattle.client_session.specs.declared.input.Input.TheVariants.{Xvc, Bitbang}
use Rattle.client_session.specs.declared.input.Work.{Work}
use Rattle.client_session.specs.declared.input.Work.TheVariants.{Taking}
use Rattle.client_session.specs.declared.progress.Progress.{Progress}
use Rattle.client_session.specs.declared.shift.Leg.{Leg}
use Rattle.client_session.specs.declared.shift.Leg.TheVariants.{Made, On, Waits}
use Rattle.client_session.specs.Seats.{most_bytes}
use Rattle.client_session.specs.Turns.{Turn}
use Rattle.client_session.specs.Stores.{HoldsShift, protocol_of, unused_of}
use Rattle.client_session.specs.Going.{Quiet}

-- the session waits where a leg of a `shift:` ended
abbrev pub waits_after : Leg → Bool
waits_after Made = false
waits_after (On at) = false
waits_after (Waits at) = true

-- the frame of a message; an empty one in remote_bitbang
abbrev pub frame_of : Input → FrameState
frame_of (Xvc messages) = messages.frame
frame_of (Bitbang letters) = record { vector = 0; held = [] }

-- what is done with the message in it
abbrev pub work_of : Input → Work
work_of (Xvc messages) = messages.work
work_of (Bitbang letters) = Taking

-- of a session nothing changed but its bytes, its acts and its replies
pub record KeepsLines (old new : Progress) : Type 0 where
  pub tap : new.tap ≡ old.tap
  pub protocol : protocol_of new.input ≡ protocol_of old.input
  pub uses_trst : new.uses_trst ≡ old.uses_trst
  pub vector : new.vector ≡ old.vector
  pub tck : new.tck ≡ old.tck
  pub trst : new.trst ≡ old.trst

-- a session of XVC whose frame is for its vector length, and to whose client no reply is left to give
pub record IsReplied (progress : Progress) : Type 0 where
  pub some : 1 ≤ progress.vector
  pub most : progress.vector ≤ 65536
  pub protocol : protocol_of progress.input ≡ protocols.Xvc
  pub vector : (frame_of progress.input).vector ≡ progress.vector
  pub said : progress.said.items ≡ []
  pub pending : progress.pending ≡ 0
  pub taken : progress.taken ≡ progress.used + length (unused_of progress.input)
  pub few : progress.taken ≤ most_bytes

-- it took bytes that are not used yet, and this is told of them
pub record HasTaken (step : FrameStep) (progress : Progress) : Type 0 where
  pub replied : IsReplied progress
  pub work : work_of progress.input ≡ Taking
  pub told : Tells progress.vector (frame_of progress.input).held step

-- bytes were taken behind those that were not used yet
pub record TakesBytes (piece : List ℕ) (old new : Progress) : Type 0 where
  pub unused : unused_of new.input ≡ unused_of old.input ++ piece
  pub used : new.used ≡ old.used
  pub taken : new.taken ≡ old.taken + length piece

-- all bytes that were taken are used
pub record UsesBytes (old new : Progress) : Type 0 where
  pub used : new.used ≡ old.taken
  pub taken : new.taken ≡ old.taken

-- where a `shift:` of so many cycles may stop
abbrev pub IsStop : Option ℕ → (cycles : ℕ) → Progress → Type 0
IsStop None cycles progress = Unit {0}
IsStop (Some at) cycles progress = (at < cycles) × (at_capture progress.tap.view ≡ true)

-- a `shift:` of so many cycles stopped there: all its bytes are used
pub record HasStopped (stop : Option ℕ) (cycles : ℕ) (progress : Progress) : Type 0 where
  pub replied : IsReplied progress
  pub unused : unused_of progress.input ≡ []
  pub held : HoldsShift (frame_of progress.input) cycles
  pub stops : IsStop stop cycles progress

-- the seat of a turn has the settings, the lines, the bytes and the replies of a session
pub record ShowsBytes (progress : Progress) (given : List ℕ) (turn : Turn) : Type 0 where
  pub protocol : protocol_of progress.input ≡ turn.seat.protocol
  pub uses_trst : progress.uses_trst ≡ turn.seat.uses_trst
  pub vector : progress.vector ≡ turn.seat.vector
  pub tck : progress.tck ≡ turn.seat.tck
  pub trst : progress.trst ≡ turn.seat.trst
  pub unused : unused_of progress.input ≡ turn.seat.unused
  pub used : progress.used ≡ turn.seat.used
  pub replies : given ≡ turn.seat.replies

-- quiet steps within the same session led to a turn of which this holds
pub record QuietlyTo (layout : LayoutShape) (grant : ℕ) (P : Turn → Type 0) (turn : Turn) : Type 0 where
  pub next : Turn
  pub quiet : Quiet layout grant turn next
  pub gone : next.seat.gone ≡ turn.seat.gone
  pub past : next.seat.past ≡ turn.seat.past
  pub there : P next
