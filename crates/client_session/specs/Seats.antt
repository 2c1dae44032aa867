-- A seat: the private chain of a grant, and one session after another that uses it.
use Rattle.std.specs.Prelude.{ℕ, zero, suc, ◌+◌, ◌*◌, ◌^◌, ◌≡◌, Bool, true, false, not, ◌&&◌, nat_le, List, [], ◌∷◌, ◌++◌, drop, length, if◌then◌else◌}
use Rattle.std.specs.declared.option.Option.{Option}
use Rattle.std.specs.declared.option.Option.TheVariants.{None, Some}
use Rattle.scan_bits.specs.Words.{packed}
use Rattle.tap_states.specs.States.{is_capture_dr}
use Rattle.grant_table.specs.declared.Protocol.{Protocol}
use Rattle.grant_table.specs.declared.Protocol.TheVariants.{Xvc, Bitbang}
use Rattle.chain_model.specs.Chains.{ChainState, reset}
use Rattle.chain_model.specs.Cycles.{rise, fall, closed}
use Rattle.xvc_frame.specs.Messages.{Framed, Refusal, front, refused}
use Rattle.bitbang_frame.specs.declared.Letter.{Letter}
use Rattle.bitbang_frame.specs.Letters.{letter}
use Rattle.client_session.specs.declared.End.{End}
use Rattle.client_session.specs.declared.End.TheVariants.{Quit, Refused, Gone, Cut, Long}
use Rattle.client_session.specs.Acts.{Act, message_acts, letter_acts}
use Rattle.client_session.specs.Acts.Act.{Say, SayTdo, Sample, Rise, Fall, Pack, SetLines, SetTrst, EndAt}

-- a session that has ended: its connection, its replies, and how it ended
pub record EndedSession : Type 0 where
  pub conn : ℕ
  pub replies : List ℕ
  pub end : End

-- a seat: its protocol, whether the letters of TRST count, the vector length, its chain, and the lines TCK and TRST;
-- of the session that is going: its connection, whether its peer is gone, the bytes taken and not yet used, how many were used,
-- the acts that are left of the message in use, the samples of TDO, and the replies; and the sessions that have ended
pub record Seat : Type 0 where
  pub protocol : Protocol
  pub uses_trst : Bool
  pub vector : ℕ
  pub chain : ChainState
  pub tck : Bool
  pub trst : Bool
  pub going : Bool
  pub conn : ℕ
  pub gone : Bool
  pub unused : List ℕ
  pub used : ℕ
  pub acts : List Act
  pub sampled : List Bool
  pub replies : List ℕ
  pub past : List EndedSession

-- the most bytes of one session
abbrev pub most_bytes : ℕ
most_bytes = 2 ^ 62

-- how many bytes of the session were taken, used or not
abbrev pub taken : Seat → ℕ
taken seat = seat.used + length seat.unused

-- the session ends: an open scan is updated and the chain reset, the lines are 0, the bytes that are left are thrown away, and the seat is free
abbrev pub ended : End → Seat → Seat
ended end seat = record seat {
  chain = closed seat.chain;
  tck = false;
  trst = false;
  going = false;
  gone = false;
  unused = [];
  used = 0;
  acts = [];
  sampled = [];
  replies = [];
  past = seat.past ++ record { conn = seat.conn; replies = seat.replies; end = end } ∷ [];
}

-- the replies of the session that ended last
abbrev pub last_replies : List EndedSession → List ℕ
last_replies [] = []
last_replies (past ∷ []) = past.replies
last_replies (past ∷ next ∷ more) = last_replies (next ∷ more)

-- the replies of the session that is going, or else of the one that ended last
abbrev pub replies_now : Seat → List ℕ
replies_now seat = if seat.going then seat.replies else last_replies seat.past

-- what stands at the front of the unused bytes: a whole message, with its acts and its length; bytes that are refused, at a place
-- and for a cause; or nothing that can be told yet
pub data Next : Type 0 where
  Whole : (acts : List Act) (bytes : ℕ) → Next
  RefusedAt : (at cause : ℕ) → Next
  Nothing : Next

-- bytes that are no whole message: refused, or nothing yet
abbrev pub next_refusal : Option Refusal → Next
next_refusal None = Nothing
next_refusal (Some refusal) = RefusedAt refusal.at refusal.cause

-- by XVC 1.0: the message at the front where it is whole, and else the refusal
abbrev pub next_xvc : ℕ → Option Framed → Option Refusal → Next
next_xvc vector (Some framed) refusal = Whole (message_acts vector framed.message) framed.bytes
next_xvc vector None refusal = next_refusal refusal

-- by remote_bitbang: the letter of a byte, which is a whole message; a byte that is none is refused for cause 3
abbrev pub next_letter : Bool → ℕ → Option Letter → Next
next_letter uses_trst at None = RefusedAt 0 3
next_letter uses_trst at (Some letter) = Whole (letter_acts uses_trst at letter) 1

-- by remote_bitbang, where there is a byte
abbrev pub next_bitbang : Bool → ℕ → List ℕ → Next
next_bitbang uses_trst at [] = Nothing
next_bitbang uses_trst at (byte ∷ bytes) = next_letter uses_trst at (letter byte)

-- by the protocol of the seat
abbrev pub next_in : Protocol → Seat → Next
next_in Xvc seat = next_xvc seat.vector (front seat.vector seat.unused) (refused seat.vector seat.unused)
next_in Bitbang seat = next_bitbang seat.uses_trst seat.used seat.unused

-- how a session ends whose peer is gone: Gone between two messages, Cut within one, with the number of its bytes
abbrev pub gone_end : ℕ → List ℕ → End
gone_end used [] = Gone used
gone_end used (byte ∷ bytes) = Cut (used + suc (length bytes))

-- where no message is whole: the session ends at the most bytes; it ends where its peer is gone; else it waits for bytes
abbrev pub without_message : Seat → Seat
without_message seat =
    if nat_le most_bytes (taken seat) then ended (Long most_bytes) seat else
    (if seat.gone then ended (gone_end seat.used seat.unused) seat else seat)

-- where no act is left: the next message is used, and its acts are left; or its bytes are refused, and the session ends
abbrev pub load_next : Next → Seat → Seat
load_next (Whole acts bytes) seat = record seat { acts = acts; unused = drop bytes seat.unused; used = seat.used + bytes }
load_next (RefusedAt at cause) seat = ended (Refused (seat.used + at) cause) seat
load_next Nothing seat = without_message seat

-- the seat after it looked for its next message
abbrev pub loaded : Seat → Seat
loaded seat = load_next (next_in seat.protocol seat) seat

-- the chain after TCK went from one level to another: from 0 to 1 it rises, from 1 to 0 it falls, and else there is no edge
abbrev pub after_tck : (from to tms tdi : Bool) → ChainState → ChainState
after_tck false true tms tdi chain = rise chain tms tdi
after_tck true false tms tdi chain = fall chain
after_tck true true tms tdi chain = chain
after_tck false false tms tdi chain = chain

-- the lines are set (remote_bitbang); while TRST is 1 the controller is held in reset, and no edge acts (IEEE 1149.1)
abbrev pub with_lines : (tck tms tdi : Bool) → Seat → Seat
with_lines tck tms tdi seat = record seat {
  tck = tck;
  chain = if seat.trst then seat.chain else after_tck seat.tck tck tms tdi seat.chain;
}

-- TRST is set; where it goes from 0 to 1 the chain is reset (IEEE 1149.1)
abbrev pub with_trst : Bool → Seat → Seat
with_trst level seat = record seat {
  trst = level;
  chain = if level && not seat.trst then reset seat.chain else seat.chain;
}

-- TDO as the reply to `R`, the digit 0 or 1 in ASCII (remote_bitbang)
abbrev pub tdo_digit : Bool → ℕ
tdo_digit true = 49
tdo_digit false = 48

-- the seat after an act
abbrev pub acted : Act → Seat → Seat
acted (Say bytes) seat = record seat { replies = seat.replies ++ bytes }
acted SayTdo seat = record seat { replies = seat.replies ++ tdo_digit seat.chain.tdo ∷ [] }
acted Sample seat = record seat { sampled = seat.sampled ++ seat.chain.tdo ∷ [] }
acted (Rise tms tdi) seat = record seat { chain = rise seat.chain tms tdi }
acted Fall seat = record seat { chain = fall seat.chain }
acted Pack seat = record seat { replies = seat.replies ++ packed seat.sampled; sampled = [] }
acted (SetLines tck tms tdi) seat = with_lines tck tms tdi seat
acted (SetTrst level) seat = with_trst level seat
acted (EndAt at) seat = ended (Quit at) seat

-- a step of a session that is going: its next act, or where no act is left its next message
abbrev pub step_of : List Act → Seat → Seat
step_of [] seat = loaded seat
step_of (act ∷ acts) seat = acted act (record seat { acts = acts })

-- the seat after one step; a free seat takes none
abbrev pub advanced : Seat → Seat
advanced seat = if seat.going then step_of seat.acts seat else seat

-- the seat after so many steps
abbrev pub advanced_by : ℕ → Seat → Seat
advanced_by zero seat = seat
advanced_by (suc steps) seat = advanced_by steps (advanced seat)

-- no fewer steps than the seat can take: a message has fewer than 32 acts for each of its bytes
abbrev pub steps_left : Seat → ℕ
steps_left seat = length seat.acts + 32 * length seat.unused + 1

-- the seat once nothing is left to do; that it has then taken all its steps is a law
abbrev pub finished : Seat → Seat
finished seat = advanced_by (steps_left seat) seat

-- nothing is left to do
abbrev pub IsFinished : Seat → Type 0
IsFinished seat = advanced seat ≡ seat

-- the act is a rising edge of TCK
abbrev pub is_rise : Act → Seat → Bool
is_rise (Rise tms tdi) seat = true
is_rise (SetLines tck tms tdi) seat = tck && (not seat.tck && not seat.trst)
is_rise _ seat = false

-- the next act is a rising edge of TCK
abbrev pub rises_next : List Act → Seat → Bool
rises_next [] seat = false
rises_next (act ∷ acts) seat = is_rise act seat

-- the next act opens a scan: it is a rising edge of TCK in Capture-DR
abbrev pub opens_next : Seat → Bool
opens_next seat = seat.going && (is_capture_dr seat.chain.state && (not seat.chain.scan_open && rises_next seat.acts seat))
