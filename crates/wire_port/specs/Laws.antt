-- What holds of the format of scripts.
use Rattle.std.specs.Prelude.{◌≡◌, ◌⊎◌, ◌↔◌, ℕ, true, List, Ok, Err}
use Rattle.wire_port.specs.Offers.{ScriptLine, lines_open_once}
use Rattle.wire_port.specs.Scripts.{script_of}
use Rattle.wire_port.specs.Format.{IsScript, NoScript}

-- a text is a script of these lines exactly where it is read as them
abbrev pub ScriptsHaveFormat : Type 0
ScriptsHaveFormat = (text : List ℕ) (lines : List ScriptLine) → (script_of text ≡ Ok lines) ↔ IsScript text lines

-- a text is no script at this line for this cause exactly where it is refused there for it
abbrev pub RefusalsHaveFormat : Type 0
RefusalsHaveFormat = (text : List ℕ) (number cause : ℕ) → (script_of text ≡ Err (record { line = number; cause = cause })) ↔ NoScript text number cause

-- every text is a script of some lines, or none, at some line for some cause
abbrev pub OneOfBoth : Type 0
OneOfBoth = (text : List ℕ) → ((lines : List ScriptLine) × IsScript text lines) ⊎ ((number : ℕ) × (cause : ℕ) × NoScript text number cause)

-- no text is both
abbrev pub NeverBoth : Type 0
NeverBoth = (text : List ℕ) (lines : List ScriptLine) (number cause : ℕ) → IsScript text lines → NoScript text number cause → ⊥

-- a text is a script of no other lines
abbrev pub OneScript : Type 0
OneScript = (text : List ℕ) (lines others : List ScriptLine) → IsScript text lines → IsScript text others → lines ≡ others

-- a text that is none is refused at no other line, and for no other cause
abbrev pub OneRefusal : Type 0
OneRefusal = (text : List ℕ) (number cause other_number other_cause : ℕ) → NoScript text number cause → NoScript text other_number other_cause → (number ≡ other_number) × (cause ≡ other_cause)

-- the lines of a script open no connection twice
abbrev pub ScriptsOpenOnce : Type 0
ScriptsOpenOnce = (text : List ℕ) (lines : List ScriptLine) → IsScript text lines → lines_open_once lines ≡ true
