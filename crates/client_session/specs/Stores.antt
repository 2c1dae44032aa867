-- How a session is kept: the bytes that it took as they lie in its buffers, and the acts that are left as a place in them.
use Rattle.std.specs.Prelude.{ℕ, suc, ◌+◌, ◌-◌, ◌≡◌, ◌≤◌, ◌<◌, Bool, true, false, List, [], ◌∷◌, ◌++◌, take, drop, length, is_some}
use Rattle.std.specs.declared.option.Option.{Option}
use Rattle.std.specs.declared.option.Option.TheVariants.{None, Some}
use Rattle.scan_bits.specs.Registers.{bit_at}
use Rattle.part_model.specs.Parts.{DeviceType}
use Rattle.grant_table.specs.declared.Protocol.{Protocol}
use Rattle.grant_table.specs.declared.Protocol.TheVariants as protocols
use Rattle.grant_table.specs.Layouts.{LayoutShape, group_of}
use Rattle.scan_share.specs.PrivateChains.{entries_at}
use Rattle.tap_states.specs.declared.Tap.TheVariants.{TestLogicReset}
use Rattle.virtual_tap.specs.Taps.{KeepsTap, ScansAt}
use Rattle.virtual_tap.specs.Views.{at_capture}
use Rattle.xvc_frame.specs.Frames.{FrameState, IsOpen, holds_shift, reply_bytes, tms_bits, tdi_bits}
use Rattle.client_session.specs.declared.Stand.{Stand}
use Rattle.client_session.specs.declared.input.Input.{Input}
use Rattle.client_session.specs.declared.input.Input.TheVariants.{Xvc, Bitbang}
use Rattle.client_session.specs.declared.input.Work.{Work}
use Rattle.client_session.specs.declared.input.Work.TheVariants.{Taking, Shifting, Sampled, Shifted}
use Rattle.client_session.specs.declared.input.Edge.{Edge}
use Rattle.client_session.specs.declared.progress.Progress.{Progress}
use Rattle.client_session.specs.Acts.{Act, shift_acts}
use Rattle.client_session.specs.Acts.Act.{Rise, Fall, SetLines}
use Rattle.client_session.specs.Seats.{most_bytes}
use Rattle.client_session.specs.Sessions.{SessionView}

-- a session: its grant's number, the device types of the group, and what it shows
pub record SessionState : Type 0 where
  pub grant : ℕ
  pub parts : List DeviceType
  pub view : SessionView

-- ---- what the buffers say

-- the protocol that bytes are kept for
abbrev pub protocol_of : Input → Protocol
protocol_of (Xvc messages) = protocols.Xvc
protocol_of (Bitbang letters) = protocols.Bitbang

-- the bytes in a frame that are no part of a message in use
abbrev pub held_unused : Work → FrameState → List ℕ
held_unused Taking frame = frame.held
held_unused _ frame = []

-- the bytes that are not used yet
abbrev pub unused_of : Input → List ℕ
unused_of (Xvc messages) = held_unused messages.work messages.frame
unused_of (Bitbang letters) = letters.letters.items

-- the acts that are left of a `shift:`
abbrev pub shift_left : Work → FrameState → List Act
shift_left (Shifting cycles at) frame = shift_acts (drop at (tms_bits frame)) (drop at (tdi_bits frame))
shift_left (Sampled cycles at) frame = Rise (bit_at (tms_bits frame) at) (bit_at (tdi_bits frame) at) ∷ Fall ∷ shift_acts (drop (suc at) (tms_bits frame)) (drop (suc at) (tdi_bits frame))
shift_left _ frame = []

-- the act that is left of a digit
abbrev pub edge_left : Option Edge → List Act
edge_left None = []
edge_left (Some edge) = SetLines true edge.tms edge.tdi ∷ []

-- the acts that are left
abbrev pub acts_of : Input → List Act
acts_of (Xvc messages) = shift_left messages.work messages.frame
acts_of (Bitbang letters) = edge_left letters.edge

-- the samples of a `shift:`: the TDO bits that were put, and TDO as it is
abbrev pub shift_sampled : Work → FrameState → (tdo : Bool) → List Bool
shift_sampled (Shifting cycles at) frame tdo = take at (tdi_bits frame)
shift_sampled (Sampled cycles at) frame tdo = take at (tdi_bits frame) ++ tdo ∷ []
shift_sampled _ frame tdo = []

-- the samples
abbrev pub sampled_of : Input → (tdo : Bool) → List Bool
sampled_of (Xvc messages) tdo = shift_sampled messages.work messages.frame tdo
sampled_of (Bitbang letters) tdo = []

-- the bytes of which the last are the reply: those of a `shift:` that is made, or else the short ones
abbrev pub replied_in : Work → FrameState → List ℕ → List ℕ
replied_in Shifted frame said = reply_bytes frame
replied_in _ frame said = said

abbrev pub replied : Input → List ℕ → List ℕ
replied (Xvc messages) said = replied_in messages.work messages.frame said
replied (Bitbang letters) said = said

-- the reply that was not given
abbrev pub reply_of : Progress → List ℕ
reply_of progress = drop (length (replied progress.input progress.said.items) - progress.pending) (replied progress.input progress.said.items)

-- what a session shows, by how it stands
abbrev pub view_of : Progress → Stand → Bool → SessionView
view_of progress stand spent = record {
  protocol = protocol_of progress.input;
  uses_trst = progress.uses_trst;
  vector = progress.vector;
  stand = stand;
  tap = progress.tap.view;
  tck = progress.tck;
  trst = progress.trst;
  unused = unused_of progress.input;
  used = progress.used;
  acts = acts_of progress.input;
  sampled = sampled_of progress.input progress.tap.view.tdo;
  reply = reply_of progress;
  spent = spent;
}

-- ---- what holds of them

-- a `shift:` of so many cycles is held
pub record HoldsShift (frame : FrameState) (cycles : ℕ) : Type 0 where
  pub shift : holds_shift frame ≡ true
  pub tms : length (tms_bits frame) ≡ cycles
  pub tdi : length (tdi_bits frame) ≡ cycles

-- what is held is what is worked at
abbrev pub WorksAt : Work → FrameState → Type 0
WorksAt Taking frame = IsOpen frame
WorksAt (Shifting cycles at) frame = HoldsShift frame cycles × (at ≤ cycles)
WorksAt (Sampled cycles at) frame = HoldsShift frame cycles × (at < cycles)
WorksAt Shifted frame = holds_shift frame ≡ true

-- the bytes are kept for this vector length
abbrev pub KeepsInput : ℕ → Input → Type 0
KeepsInput vector (Xvc messages) = (messages.frame.vector ≡ vector) × WorksAt messages.work messages.frame
KeepsInput vector (Bitbang letters) = Unit {0}

-- no act is left, and bytes may come
abbrev pub IsBetween : Work → Type 0
IsBetween Taking = Unit {0}
IsBetween Shifted = Unit {0}
IsBetween _ = ⊥

abbrev pub AwaitsBytes : Input → Type 0
AwaitsBytes (Xvc messages) = IsBetween messages.work
AwaitsBytes (Bitbang letters) = (letters.edge ≡ None) × (letters.letters.items ≡ [])

-- the next act is a rise that captures: TDO was sampled for its cycle, or it is left of a digit
abbrev pub IsAtRise : Work → Type 0
IsAtRise (Sampled cycles at) = Unit {0}
IsAtRise _ = ⊥

abbrev pub AwaitsChain : Input → Type 0
AwaitsChain (Xvc messages) = IsAtRise messages.work
AwaitsChain (Bitbang letters) = is_some letters.edge ≡ true

-- amid a `shift:` there is no short reply
abbrev pub IsSilent : Work → List ℕ → Type 0
IsSilent Taking said = Unit {0}
IsSilent Shifted said = Unit {0}
IsSilent _ said = said ≡ []

-- each letter that is kept may add one byte to the short replies
abbrev pub HasRoomToSay : Input → List ℕ → Type 0
HasRoomToSay (Xvc messages) said = IsSilent messages.work said
HasRoomToSay (Bitbang letters) said = length said + length letters.letters.items ≤ 16

-- no byte is kept, no act is left, and what is replied are the short replies
pub record IsEmpty (input : Input) : Type 0 where
  pub unused : unused_of input ≡ []
  pub acts : acts_of input ≡ []
  pub sampled : (tdo : Bool) → sampled_of input tdo ≡ []
  pub replied_is : (said : List ℕ) → replied input said ≡ said
  pub awaits : AwaitsBytes input

-- what always holds
pub record KeepsProgress (progress : Progress) : Type 0 where
  pub some : 1 ≤ progress.vector
  pub most : progress.vector ≤ 65536
  pub input : KeepsInput progress.vector progress.input
  pub said : HasRoomToSay progress.input progress.said.items
  pub pending : progress.pending ≤ length (replied progress.input progress.said.items)
  pub taken : progress.taken ≡ progress.used + length (unused_of progress.input)
  pub few : progress.taken ≤ most_bytes

-- while a session is open, between two acts: a scan is open exactly in the states of one, with TCK at its level; in XVC both lines are 0;
-- and while TRST is 1 the controllers are held in reset
pub record IsInTime (progress : Progress) : Type 0 where
  pub scans : ScansAt progress.tck progress.tap.view
  pub low : protocol_of progress.input ≡ protocols.Xvc → (progress.tck ≡ false) × (progress.trst ≡ false)
  pub held : progress.trst ≡ true → progress.tap.view.state ≡ TestLogicReset

-- the session waits for the chain: its next act is a rise that captures
pub record AwaitsCapture (progress : Progress) : Type 0 where
  pub input : AwaitsChain progress.input
  pub capture : at_capture progress.tap.view ≡ true
  pub tck : progress.tck ≡ false
  pub trst : progress.trst ≡ false

-- a session has begun: no scan is open, the lines are 0, and there are no bytes
pub record HasBegun (old new : Progress) : Type 0 where
  pub uses_trst : new.uses_trst ≡ old.uses_trst
  pub vector : new.vector ≡ old.vector
  pub tap : KeepsTap old.tap new.tap
  pub state : new.tap.view.state ≡ TestLogicReset
  pub shut : new.tap.view.scan_open ≡ false
  pub tck : new.tck ≡ false
  pub trst : new.trst ≡ false
  pub used : new.used ≡ 0
  pub taken : new.taken ≡ 0
  pub protocol : protocol_of new.input ≡ protocol_of old.input
  pub empty : IsEmpty new.input
  pub reply : reply_of new ≡ []

-- a session that has ended: no scan is open, the lines are 0, and no byte is left
abbrev pub HasEnded : Progress → Type 0
HasEnded progress = (progress.tap.view.scan_open ≡ false) × (progress.tck ≡ false) × (progress.trst ≡ false) × (progress.taken ≡ 0) × AwaitsBytes progress.input

-- by how a session stands between two calls
abbrev pub StandsSo : Stand → Progress → Type 0
StandsSo Stand.Free progress = HasEnded progress
StandsSo Stand.Going progress = AwaitsBytes progress.input × (progress.taken < most_bytes) × IsInTime progress
StandsSo _ progress = AwaitsCapture progress × IsInTime progress

-- what always holds of a session; of one that is spent, little
pub record IsSession (progress : Progress) (stand : Stand) (spent : Bool) : Type 0 where
  pub keeps : KeepsProgress progress
  pub there : spent ≡ false → is_some progress.tap.view.register ≡ true
  pub stands : spent ≡ false → StandsSo stand progress

-- what no call changes: whose session it is, its protocol, whether the letters of TRST count, and the vector length
pub record KeepsSession (old new : SessionState) : Type 0 where
  pub grant : new.grant ≡ old.grant
  pub parts : new.parts ≡ old.parts
  pub protocol : new.view.protocol ≡ old.view.protocol
  pub uses_trst : new.view.uses_trst ≡ old.view.uses_trst
  pub vector : new.view.vector ≡ old.view.vector

-- the layout is that of the session's grant
abbrev pub IsOfLayout : LayoutShape → SessionState → Type 0
IsOfLayout layout session = entries_at layout.parts (group_of layout.grants session.grant) ≡ session.parts
