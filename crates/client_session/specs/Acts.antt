-- What a message asks of a session and its chain, as acts in a row.
use Rattle.std.specs.Prelude.{ℕ, Bool, List, [], ◌∷◌, ◌++◌, if◌then◌else◌, codes}
use Rattle.std.specs.Fmt.{decimal}
use Rattle.scan_bits.specs.Words.{bytes_of}
use Rattle.xvc_frame.specs.Messages.{Message}
use Rattle.xvc_frame.specs.Messages.Message.{GetInfo, SetTck, Shift}
use Rattle.bitbang_frame.specs.declared.Letter.{Letter}
use Rattle.bitbang_frame.specs.declared.Letter.TheVariants.{Lines, Read, Quit, Light, Reset}

-- an act: reply these bytes; reply TDO as the digit 0 or 1; sample TDO; a rising edge of TCK with TMS and TDI; a falling edge;
-- reply the samples as a bit vector; set the lines TCK, TMS and TDI; set the line TRST; end the session at a byte
pub data Act : Type 0 where
  Say : (bytes : List ℕ) → Act
  SayTdo : Act
  Sample : Act
  Rise : (tms tdi : Bool) → Act
  Fall : Act
  Pack : Act
  SetLines : (tck tms tdi : Bool) → Act
  SetTrst : (level : Bool) → Act
  EndAt : (at : ℕ) → Act

-- a `shift:` (XVC 1.0): in each cycle TDO is sampled, TCK rises with the cycle's TMS and TDI, and falls; then the samples are the reply
abbrev pub shift_acts : List Bool → List Bool → List Act
shift_acts (tms ∷ more) (tdi ∷ rest) = Sample ∷ Rise tms tdi ∷ Fall ∷ shift_acts more rest
shift_acts _ _ = Pack ∷ []

-- the reply to `getinfo:` (XVC 1.0): the version and the vector length in decimal, and a newline
abbrev pub info : ℕ → List ℕ
info vector = codes "xvcServer_v1.0:" ++ decimal vector ++ 10 ∷ []

-- the acts of a message of XVC 1.0; `settck:` is answered with the period that it asks for
abbrev pub message_acts : ℕ → Message → List Act
message_acts vector GetInfo = Say (info vector) ∷ []
message_acts vector (SetTck period) = Say (bytes_of 4 period) ∷ []
message_acts vector (Shift tms tdi) = shift_acts tms tdi

-- the acts of a letter of remote_bitbang at a byte of the session; the light and SRST ask for nothing, TRST only where the setting has it
abbrev pub letter_acts : Bool → ℕ → Letter → List Act
letter_acts uses_trst at (Lines tck tms tdi) = SetLines tck tms tdi ∷ []
letter_acts uses_trst at Read = SayTdo ∷ []
letter_acts uses_trst at Quit = EndAt at ∷ []
letter_acts uses_trst at (Light on) = []
letter_acts uses_trst at (Reset trst srst) = if uses_trst then SetTrst trst ∷ [] else []
