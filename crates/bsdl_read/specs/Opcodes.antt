-- The content of INSTRUCTION_OPCODE: entries joined by `,`; an entry is a name, `(`, patterns joined by `,`, and `)`.
use Rattle.std.specs.Prelude.{◌≡◌, ℕ, Bool, true, false, ◌==◌, List, [], ◌∷◌, ◌++◌, map, reverse, if◌then◌else◌, Result, Ok, Err}
use Rattle.bsdl_lex.specs.declared.Token.{Token}
use Rattle.bsdl_lex.specs.Tokens.{is_letter, in_word}
use Rattle.part_model.specs.declared.Digit.{Digit}
use Rattle.part_model.specs.declared.plan.Opcode.{Opcode}
use Rattle.bsdl_read.specs.Words.{capital}
use Rattle.bsdl_read.specs.Contents.{and_then, is_space, is_pattern_digit, digit_of, through_all}
use Rattle.bsdl_read.specs.ContentGrammar.{are_spaces, is_name, is_pattern}
use Rattle.bsdl_read.specs.declared.opcodes.OpcodeStage.{OpcodeStage}
use Rattle.bsdl_read.specs.declared.opcodes.OpcodeStage.TheVariants as stage
use Rattle.bsdl_read.specs.declared.opcodes.OpcodeReading.{OpcodeReading}

-- what was read: whole entries, and the parts of the one that is open
pub record Entries : Type 0 where
  pub stage : OpcodeStage
  pub done : List Opcode
  pub name : List ℕ
  pub patterns : List (List Digit)
  pub digits : List Digit

abbrev pub at_stage : Entries → OpcodeStage → Entries
at_stage e next = record e { stage = next }

abbrev pub with_letter : Entries → ℕ → Entries
with_letter e byte = record e { stage = stage.Name; name = e.name ++ capital byte ∷ [] }

abbrev pub with_digit : Entries → ℕ → Entries
with_digit e byte = record e { stage = stage.Digits; digits = e.digits ++ digit_of byte ∷ [] }

-- a pattern ends, and another is due: the rightmost digit is the lowest
abbrev pub with_pattern : Entries → Entries
with_pattern e = record e { stage = stage.Pattern; patterns = e.patterns ++ reverse e.digits ∷ []; digits = [] }

-- an entry ends with its last pattern
abbrev pub with_entry : Entries → Entries
with_entry e = record { stage = stage.Closed; done = e.done ++ record { name = e.name; patterns = e.patterns ++ reverse e.digits ∷ [] } ∷ []; name = []; patterns = []; digits = [] }

-- behind a pattern
abbrev pub behind_pattern : Entries → ℕ → Result Entries ℕ
behind_pattern e byte = if is_space byte then Ok (at_stage e stage.Joined) else (if byte == 44 then Ok (with_pattern e) else (if byte == 41 then Ok (with_entry e) else Err 8))

-- behind a name
abbrev pub behind_name : Entries → ℕ → Result Entries ℕ
behind_name e byte = if is_space byte then Ok (at_stage e stage.Named) else (if byte == 40 then Ok (at_stage e stage.Pattern) else Err 8)

-- what one more byte leads to; `Err 8` where it departs from the form
abbrev pub byte_at : OpcodeStage → Entries → ℕ → Result Entries ℕ
byte_at stage.Entry e byte = if is_space byte then Ok e else (if is_letter byte then Ok (with_letter e byte) else Err 8)
byte_at stage.Name e byte = if in_word byte then Ok (with_letter e byte) else behind_name e byte
byte_at stage.Named e byte = behind_name e byte
byte_at stage.Pattern e byte = if is_space byte then Ok e else (if is_pattern_digit byte then Ok (with_digit e byte) else Err 8)
byte_at stage.Digits e byte = if is_pattern_digit byte then Ok (with_digit e byte) else behind_pattern e byte
byte_at stage.Joined e byte = behind_pattern e byte
byte_at stage.Closed e byte = if is_space byte then Ok e else (if byte == 44 then Ok (at_stage e stage.Entry) else Err 8)

abbrev pub next_byte : Entries → ℕ → Result Entries ℕ
next_byte e byte = byte_at e.stage e byte

abbrev pub is_closed : OpcodeStage → Bool
is_closed stage.Closed = true
is_closed _ = false

abbrev pub closed : Entries → Result (List Opcode) ℕ
closed e = if is_closed e.stage then Ok e.done else Err 8

-- whole entries, and nothing of the next
abbrev pub with_entries : List Opcode → Entries
with_entries done = record { stage = stage.Entry; done = done; name = []; patterns = []; digits = [] }

abbrev pub no_entries : Entries
no_entries = with_entries []

-- the entries of the tokens of a VALUE, or cause 8
abbrev pub opcodes : List ℕ → List Token → Result (List Opcode) ℕ
opcodes text tokens = and_then (through_all next_byte text no_entries tokens) closed

-- ---- what the code reads at once

-- the bytes begin with a whole entry: a name, blanks, `(`, the digits of one pattern, and `)`
pub record BeginsWith (bytes name digits behind : List ℕ) : Type 0 where
  pub blanks : List ℕ
  pub are : bytes ≡ name ++ (blanks ++ 40 ∷ (digits ++ 41 ∷ behind))
  pub has_name : is_name name ≡ true
  pub are_blank : are_spaces blanks ≡ true
  pub has_digits : is_pattern digits ≡ true

-- a whole entry of one pattern was read
abbrev pub with_whole : Entries → List ℕ → List ℕ → Entries
with_whole e name digits = record e { stage = stage.Closed; done = e.done ++ record { name = map capital name; patterns = reverse (map digit_of digits) ∷ [] } ∷ [] }

-- what the code keeps
abbrev pub view : OpcodeReading → Entries
view r = record { stage = r.stage; done = r.done.items; name = r.name; patterns = r.patterns.items; digits = r.digits.items }
