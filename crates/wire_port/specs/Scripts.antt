-- The lines that a text says as a script, or its first refusal.
use Rattle.std.specs.Prelude.{ℕ, suc, nat_lt, ◌==◌, List, [], ◌∷◌, ◌++◌, length, if◌then◌else◌, Result, Ok, Err}
use Rattle.wire_port.specs.declared.script.Line.{Line}
use Rattle.wire_port.specs.declared.script.Line.TheVariants as line
use Rattle.wire_port.specs.declared.script.Stand.{Stand}
use Rattle.wire_port.specs.declared.script.Stand.TheVariants.{Unopened, Opened, Dropped}
use Rattle.wire_port.specs.Offers.{ScriptLine}
use Rattle.wire_port.specs.Offers.ScriptLine.{Open, Send, Drop, Room}
use Rattle.wire_port.specs.Words.{lines_of, words_of, begins_comment}
use Rattle.wire_port.specs.Lines.{and_then, line_said}

-- the line that the program keeps
abbrev pub line_of : Line → ScriptLine
line_of (line.Open conn port) = Open conn port
line_of (line.Send conn bytes) = Send conn bytes.items
line_of (line.Drop conn) = Drop conn
line_of (line.Room conn room) = Room conn room

-- the connection that a line is on
abbrev pub conn_of : ScriptLine → ℕ
conn_of (Open conn port) = conn
conn_of (Send conn bytes) = conn
conn_of (Drop conn) = conn
conn_of (Room conn room) = conn

-- ---- what became of a connection

-- how a connection stands after one more line
abbrev pub next_stand : ℕ → Stand → ScriptLine → Stand
next_stand conn stand (Open other port) = if other == conn then Opened else stand
next_stand conn stand (Drop other) = if other == conn then Dropped else stand
next_stand conn stand _ = stand

abbrev pub stand_from : ℕ → Stand → List ScriptLine → Stand
stand_from conn stand [] = stand
stand_from conn stand (line ∷ lines) = stand_from conn (next_stand conn stand line) lines

-- how a connection stands after these lines
abbrev pub stand_after : ℕ → List ScriptLine → Stand
stand_after conn lines = stand_from conn Unopened lines

-- cause 5: a connection that was opened before
abbrev pub opened_at : Stand → Result (Unit {0}) ℕ
opened_at Unopened = Ok tt
opened_at _ = Err 5

-- cause 6: a connection that was not opened; cause 7: one that was dropped
abbrev pub used_at : Stand → Result (Unit {0}) ℕ
used_at Unopened = Err 6
used_at Opened = Ok tt
used_at Dropped = Err 7

abbrev pub may_follow_at : Stand → ScriptLine → Result (Unit {0}) ℕ
may_follow_at stand (Open conn port) = opened_at stand
may_follow_at stand _ = used_at stand

-- whether a line may follow others
abbrev pub may_follow : List ScriptLine → ScriptLine → Result (Unit {0}) ℕ
may_follow before line = may_follow_at (stand_after (conn_of line) before) line

-- ---- texts

-- the line of a text that is refused, counted from 1, or 0 for the whole text; and the cause
pub record ScriptFault : Type 0 where
  pub line : ℕ
  pub cause : ℕ

-- a line put behind others, where it may follow them
abbrev pub behind : List ScriptLine → ScriptLine → Result (List ScriptLine) ℕ
behind before line = and_then (may_follow before line) (λ _. Ok (before ++ line ∷ []))

-- the lines of a script, after a line of a text with these words
abbrev pub after_words : List ScriptLine → List (List ℕ) → Result (List ScriptLine) ℕ
after_words before [] = Ok before
after_words before (word ∷ words) = if begins_comment word then Ok before else and_then (line_said word words) (behind before)

abbrev pub at_line : ℕ → Result (List ScriptLine) ℕ → Result (List ScriptLine) ScriptFault
at_line number (Ok lines) = Ok lines
at_line number (Err cause) = Err (record { line = number; cause = cause })

-- the lines of a script, after these lines of a text, the first of which has this number
abbrev pub script_from : ℕ → List ScriptLine → List (List ℕ) → Result (List ScriptLine) ScriptFault
script_from number before [] = Ok before
script_from number before (text ∷ texts) = and_then (at_line number (after_words before (words_of text))) (λ after. script_from (suc number) after texts)

-- what a text says as a script
abbrev pub script_of : List ℕ → Result (List ScriptLine) ScriptFault
script_of text = if nat_lt 1048576 (length text) then Err (record { line = 0; cause = 8 }) else script_from 1 [] (lines_of text)

-- how many connections the lines open
abbrev pub opens_in : List ScriptLine → ℕ
opens_in [] = 0
opens_in (Open conn port ∷ lines) = suc (opens_in lines)
opens_in (_ ∷ lines) = opens_in lines
