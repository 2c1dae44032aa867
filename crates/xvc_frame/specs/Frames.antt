-- What contracts see of a frame, which takes the bytes of one message.
use Rattle.std.specs.Prelude.{◌≡◌, ◌≤◌, ℕ, ◌+◌, ◌*◌, Bool, true, false, List, [], ◌++◌, take, drop, length}
use Rattle.std.specs.declared.option.Option.{Option}
use Rattle.std.specs.declared.option.Option.TheVariants.{None, Some}
use Rattle.scan_bits.specs.Words.{byte_count}
use Rattle.xvc_frame.specs.declared.FrameStep.{FrameStep}
use Rattle.xvc_frame.specs.declared.FrameStep.TheVariants.{More, Whole, Refused}
use Rattle.xvc_frame.specs.declared.Msg.{Msg}
use Rattle.xvc_frame.specs.declared.Msg.TheVariants as told
use Rattle.xvc_frame.specs.Messages.{Message, Framed, front, refused, IsFramed, IsMessage}
use Rattle.xvc_frame.specs.Messages.Message.{GetInfo, SetTck, Shift}

-- the vector length that is announced, and the bytes taken since a message was last forgotten, TDO bits that were put in the place of TDI bits
pub record FrameState : Type 0 where
  pub vector : ℕ
  pub held : List ℕ

-- no message is whole yet, and nothing is refused
abbrev pub IsOpen : FrameState → Type 0
IsOpen state = (front state.vector state.held ≡ None) × (refused state.vector state.held ≡ None)

-- a message without its vectors
abbrev pub told_of : Message → Msg
told_of GetInfo = told.GetInfo
told_of (SetTck period) = told.SetTck period
told_of (Shift tms tdi) = told.Shift (length tms)

-- the message that is told, without vectors
abbrev pub said_message : Msg → Message
said_message told.GetInfo = GetInfo
said_message (told.SetTck period) = SetTck period
said_message (told.Shift count) = Shift [] []

-- it is a `shift:`
abbrev pub is_said_shift : Msg → Bool
is_said_shift told.GetInfo = false
is_said_shift (told.SetTck period) = false
is_said_shift (told.Shift count) = true

-- all bytes that are held are this message, and this is told of it
pub record IsWhole (vector : ℕ) (held : List ℕ) (said : Msg) : Type 0 where
  pub message : Message
  pub is_message : IsMessage vector message held
  pub is_framed : IsFramed vector message held
  pub said_is : told_of message ≡ said

-- what is told of the bytes that are held
abbrev pub Tells : ℕ → List ℕ → FrameStep → Type 0
Tells vector held More = (front vector held ≡ None) × (refused vector held ≡ None)
Tells vector held (Whole said) = IsWhole vector held said
Tells vector held (Refused at cause) = refused vector held ≡ Some (record { at = at; cause = cause })

-- a message that is whole is all of the bytes
abbrev pub EndsAtFront : ℕ → List ℕ → Type 0
EndsAtFront vector held = (framed : Framed) → front vector held ≡ Some framed → framed.bytes ≡ length held

-- the TMS bits of a `shift:`
abbrev pub tms_of : Message → List Bool
tms_of GetInfo = []
tms_of (SetTck period) = []
tms_of (Shift tms tdi) = tms

-- the TDI bits of a `shift:`
abbrev pub tdi_of : Message → List Bool
tdi_of GetInfo = []
tdi_of (SetTck period) = []
tdi_of (Shift tms tdi) = tdi

-- it is a `shift:` with its vectors
abbrev pub is_shift : Message → Bool
is_shift GetInfo = false
is_shift (SetTck period) = false
is_shift (Shift tms tdi) = true

-- the message that was found, `getinfo:` where none was
abbrev pub message_or : Option Framed → Message
message_or None = GetInfo
message_or (Some framed) = framed.message

-- the message that is held
abbrev pub held_message : FrameState → Message
held_message state = message_or (front state.vector state.held)

-- a `shift:` is held whole
abbrev pub holds_shift : FrameState → Bool
holds_shift state = is_shift (held_message state)

-- the TMS bits of the `shift:` that is held; none where none is
abbrev pub tms_bits : FrameState → List Bool
tms_bits state = tms_of (held_message state)

-- its TDI bits, each until a TDO bit takes its place
abbrev pub tdi_bits : FrameState → List Bool
tdi_bits state = tdi_of (held_message state)

-- the bytes of the TDI vector, which becomes the reply
abbrev pub reply_bytes : FrameState → List ℕ
reply_bytes state = drop (10 + byte_count (length (tms_bits state))) state.held

-- bits of a list replaced from a place on
abbrev pub replaced : List Bool → ℕ → List Bool → List Bool
replaced bits at by = take at bits ++ by ++ drop (at + length by) bits

-- what is kept of a frame's bytes: room for the longest message and a word behind it, and no message ends before the last byte held
pub record HasRoom (vector : ℕ) (bytes : List ℕ) (count : ℕ) : Type 0 where
  pub some : 1 ≤ vector
  pub most : vector ≤ 65536
  pub room : length bytes ≡ 2 * vector + 26
  pub fits : count ≤ 2 * vector + 10
  pub ends : EndsAtFront vector (take count bytes)
