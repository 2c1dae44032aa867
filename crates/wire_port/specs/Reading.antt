-- What the reader of scripts answers.
use Rattle.std.specs.Prelude.{◌≡◌, ℕ, ◌+◌, ◌<◌, Bool, not, List, [], ◌∷◌, length, slice_index_or, Result, Ok, Err}
use Rattle.std.specs.declared.option.Option.{Option}
use Rattle.std.specs.declared.option.Option.TheVariants.{None, Some}
use Rattle.wire_port.specs.declared.words.Class.{Class}
use Rattle.wire_port.specs.declared.words.Class.TheVariants as class
use Rattle.wire_port.specs.declared.lines.LineRefusal.{LineRefusal}
use Rattle.wire_port.specs.declared.lines.LineRefusal.TheVariants as line
use Rattle.wire_port.specs.declared.script.Stand.{Stand}
use Rattle.wire_port.specs.declared.script.ScriptRefusal.{ScriptRefusal}
use Rattle.wire_port.specs.declared.script.ScriptRefusal.TheVariants as refusal
use Rattle.wire_port.specs.Offers.{ScriptLine}
use Rattle.wire_port.specs.Words.{ends_line, is_blank, lines_of, words_of}
use Rattle.wire_port.specs.Scripts.{ScriptFault, stand_after}

-- ---- words

abbrev pub belongs : Class → ℕ → Bool
belongs class.InLine byte = not (ends_line byte)
belongs class.Blank byte = is_blank byte
belongs class.InWord byte = not (is_blank byte)

-- the lines behind the first
abbrev pub lines_left : Option (List ℕ) → List (List ℕ)
lines_left None = []
lines_left (Some text) = lines_of text

-- a word, and the words behind it
abbrev pub words_left : Option (List ℕ × List ℕ) → List (List ℕ)
words_left None = []
words_left (Some (word, rest)) = word ∷ words_of rest

-- a text behind a line is shorter
abbrev pub Shorter : Option (List ℕ) → List ℕ → Type 0
Shorter None text = Unit {0}
Shorter (Some rest) text = length rest < length text

-- ---- answers

-- unless memory is wanting
abbrev pub RefusesLine : {A : Type 0} → LineRefusal → Result A ℕ → Type 0
RefusesLine line.Memory read = Unit {0}
RefusesLine (line.Cause cause) read = read ≡ Err cause

abbrev pub ReadsLine : {X Y : Type 0} → (X → Y) → Result X LineRefusal → Result Y ℕ → Type 0
ReadsLine seen (Ok x) read = read ≡ Ok (seen x)
ReadsLine seen (Err refusal) read = RefusesLine refusal read

-- the lines are these afterwards
abbrev pub Goes : List ScriptLine → Result (Unit {0}) LineRefusal → Result (List ScriptLine) ℕ → Type 0
Goes after (Ok _) read = read ≡ Ok after
Goes after (Err refusal) read = RefusesLine refusal read

-- a refused line, with its number
abbrev pub refused_at : ℕ → LineRefusal → ScriptRefusal
refused_at number line.Memory = refusal.Memory
refused_at number (line.Cause cause) = refusal.Refused number cause

abbrev pub RefusesText : ScriptRefusal → Result (List ScriptLine) ScriptFault → Type 0
RefusesText refusal.Memory read = Unit {0}
RefusesText (refusal.Refused number cause) read = read ≡ Err (record { line = number; cause = cause })

abbrev pub ReadsText : {X : Type 0} → (X → List ScriptLine) → Result X ScriptRefusal → Result (List ScriptLine) ScriptFault → Type 0
ReadsText seen (Ok x) read = read ≡ Ok (seen x)
ReadsText seen (Err refusal) read = RefusesText refusal read

-- how many bytes are left of a text, and one where it is not at its end
abbrev pub size_left : Option (List ℕ) → ℕ
size_left None = 0
size_left (Some text) = length text + 1

-- ---- what became of each connection

-- a table of all connections has how each stands after these lines
pub record Tracks (stands : List Stand) (lines : List ScriptLine) : Type 0 where
  pub all : length stands ≡ 65536
  pub each : (conn : ℕ) (default : Stand) → conn < 65536 → slice_index_or stands conn default ≡ stand_after conn lines
