-- The format of a script: what its lines are, word by word.
use Rattle.std.specs.Prelude.{◌≡◌, ◌⊎◌, ◌≤◌, ◌<◌, ℕ, suc, true, false, List, [], ◌∷◌, ◌++◌, length, codes, Ok, Err}
use Rattle.std.specs.Fmt.{decimal}
use Rattle.std.specs.declared.option.Option.{Option}
use Rattle.std.specs.declared.option.Option.TheVariants.{None, Some}
use Rattle.hex.specs.Hex.{decode_of}
use Rattle.wire_port.specs.declared.script.Stand.{Stand}
use Rattle.wire_port.specs.declared.script.Stand.TheVariants.{Unopened, Opened}
use Rattle.wire_port.specs.declared.script.ScriptRefusal.{ScriptRefusal}
use Rattle.wire_port.specs.declared.script.ScriptRefusal.TheVariants as refusal
use Rattle.wire_port.specs.Offers.{ScriptLine}
use Rattle.wire_port.specs.Offers.ScriptLine.{Open, Send, Drop, Room}
use Rattle.wire_port.specs.Words.{lines_of, words_of, is_passed_over}
use Rattle.wire_port.specs.Scripts.{conn_of, stand_after, after_words}

-- a number of a range, in decimal without leading zeros
pub record IsNumber (low high : ℕ) (word : List ℕ) (number : ℕ) : Type 0 where
  pub is : word ≡ decimal number
  pub no_less : low ≤ number
  pub no_more : number ≤ high

-- one byte or more, each in two digits of hex, of either case
pub record IsHex (word bytes : List ℕ) : Type 0 where
  pub is : decode_of word ≡ Ok bytes
  pub some : 1 ≤ length bytes

-- `all`, or how many bytes
abbrev pub IsRoom : List ℕ → Option ℕ → Type 0
IsRoom word None = word ≡ codes "all"
IsRoom word (Some count) = IsNumber 0 1000000 word count

-- three words of which the first is a command, the second a connection, and the third such
pub record IsCommand (words : List (List ℕ)) (command : List ℕ) (conn : ℕ) (is : List ℕ → Type 0) : Type 0 where
  pub name : List ℕ
  pub value : List ℕ
  pub are : words ≡ command ∷ name ∷ value ∷ []
  pub is_name : IsNumber 1 65535 name conn
  pub such : is value

-- `drop`, and a connection
pub record IsDrop (words : List (List ℕ)) (conn : ℕ) : Type 0 where
  pub name : List ℕ
  pub are : words ≡ codes "drop" ∷ name ∷ []
  pub is_name : IsNumber 1 65535 name conn

-- the words say the line
abbrev pub IsLine : List (List ℕ) → ScriptLine → Type 0
IsLine words (Open conn port) = IsCommand words (codes "open") conn (λ word. IsNumber 0 65535 word port)
IsLine words (Send conn bytes) = IsCommand words (codes "send") conn (λ word. IsHex word bytes)
IsLine words (Drop conn) = IsDrop words conn
IsLine words (Room conn room) = IsCommand words (codes "room") conn (λ word. IsRoom word room)

-- how a connection is to stand before a line on it: only one that was not opened yet is opened, and it is dropped once
abbrev pub stand_for : ScriptLine → Stand
stand_for (Open conn port) = Unopened
stand_for _ = Opened

abbrev pub MayFollow : List ScriptLine → ScriptLine → Type 0
MayFollow before line = stand_after (conn_of line) before ≡ stand_for line

-- a line of a text that says a line, which follows others
pub record SaysLine (before : List ScriptLine) (text : List ℕ) (line : ScriptLine) : Type 0 where
  pub counts : is_passed_over (words_of text) ≡ false
  pub says : IsLine (words_of text) line
  pub follows : MayFollow before line

-- the lines of a text say these lines, behind others, and nothing else but blank lines and comments
abbrev pub Say : List ScriptLine → List (List ℕ) → List ScriptLine → Type 0
Say before [] lines = lines ≡ []
Say before (text ∷ texts) lines =
    ((is_passed_over (words_of text) ≡ true) × Say before texts lines)
    ⊎ ((line : ScriptLine) × (rest : List ScriptLine) × (lines ≡ line ∷ rest) × SaysLine before text line × Say (before ++ line ∷ []) texts rest)

-- the text is a script of these lines
pub record IsScript (text : List ℕ) (lines : List ScriptLine) : Type 0 where
  pub no_more : length text ≤ 1048576
  pub say : Say [] (lines_of text) lines

-- the lines up to one say something, and that one, counted from 1, is refused for the cause that comes first
pub record HasRefusedLine (text : List ℕ) (number cause : ℕ) : Type 0 where
  pub no_more : length text ≤ 1048576
  pub front : List (List ℕ)
  pub refused : List ℕ
  pub behind : List (List ℕ)
  pub lines : List ScriptLine
  pub are : lines_of text ≡ front ++ refused ∷ behind
  pub say : Say [] front lines
  pub number_is : number ≡ suc (length front)
  pub wrong : after_words lines (words_of refused) ≡ Err cause

-- the text is no script: it is too long, or one of its lines is refused
abbrev pub NoScript : List ℕ → ℕ → ℕ → Type 0
NoScript text number cause = ((1048576 < length text) × (number ≡ 0) × (cause ≡ 8)) ⊎ HasRefusedLine text number cause

-- a refusal says so, unless memory is wanting
abbrev pub RefusesScript : ScriptRefusal → List ℕ → Type 0
RefusesScript refusal.Memory text = Unit {0}
RefusesScript (refusal.Refused number cause) text = NoScript text number cause
