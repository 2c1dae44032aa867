-- What holds of every message, letter and seat.
use Rattle.std.specs.Prelude.{ℕ, suc, ◌+◌, ◌*◌, ◌^◌, ◌≡◌, ◌≤◌, ◌<◌, Bool, true, List, [], ◌∷◌, length}
use Rattle.std.specs.declared.option.Option.TheVariants.{Some}
use Rattle.scan_bits.specs.Words.{byte_count}
use Rattle.xvc_frame.specs.Messages.{Framed, front}
use Rattle.bitbang_frame.specs.declared.Letter.{Letter}
use Rattle.client_session.specs.Acts.{Act, message_acts, letter_acts}
use Rattle.client_session.specs.Acts.Act.{Say, SayTdo, Sample, Pack}
use Rattle.client_session.specs.Seats.{finished}
use Rattle.client_session.specs.Turns.{LayoutShape, Turn, gone_on}

-- no grant waits, and none but this one holds the chain, by its open scan
pub record IsByItself (grant : ℕ) (turn : Turn) : Type 0 where
  pub waiting : turn.waiting ≡ []
  pub holder : (other : ℕ) → turn.holder ≡ Some other → (other ≡ grant) × (turn.seat.chain.scan_open ≡ true)

-- a grant by itself goes on until nothing is left to do: it never waits, and it stays by itself
pub record GoesOnByItself (layout : LayoutShape) (grant : ℕ) (turn : Turn) : Type 0 where
  pub seat : (gone_on layout grant turn).seat ≡ finished turn.seat
  pub joins : (gone_on layout grant turn).joins ≡ turn.joins
  pub itself : IsByItself grant (gone_on layout grant turn)

abbrev pub NoneWaitsByItself : Type 0
NoneWaitsByItself = (layout : LayoutShape) (grant : ℕ) (turn : Turn) → IsByItself grant turn → GoesOnByItself layout grant turn

-- how many bytes acts reply, with so many bits of TDO noted before them
abbrev pub reply_bytes : ℕ → List Act → ℕ
reply_bytes noted [] = 0
reply_bytes noted (Say bytes ∷ acts) = length bytes + reply_bytes noted acts
reply_bytes noted (SayTdo ∷ acts) = suc (reply_bytes noted acts)
reply_bytes noted (Sample ∷ acts) = reply_bytes (suc noted) acts
reply_bytes noted (Pack ∷ acts) = byte_count noted + reply_bytes 0 acts
reply_bytes noted (act ∷ acts) = reply_bytes noted acts

-- the reply to `getinfo:` is the longest for its bytes: with a vector length of eight digits, three bytes for each
abbrev pub IsShortVector : ℕ → Type 0
IsShortVector vector = vector < 10 ^ 8

-- three bytes at most for each byte of a message, and one for a letter
abbrev pub MessagesReplyShort : Type 0
MessagesReplyShort = (vector : ℕ) (bytes : List ℕ) (framed : Framed) → IsShortVector vector → front vector bytes ≡ Some framed → reply_bytes 0 (message_acts vector framed.message) ≤ 3 * framed.bytes

abbrev pub LettersReplyShort : Type 0
LettersReplyShort = (uses_trst : Bool) (at : ℕ) (letter : Letter) → reply_bytes 0 (letter_acts uses_trst at letter) ≤ 1
