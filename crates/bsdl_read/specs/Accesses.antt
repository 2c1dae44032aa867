-- The content of REGISTER_ACCESS: entries joined by `,`; an entry is a register, `(`, names joined by `,`, and `)`; a register is a name
-- or `name [ number ]`. Left out of the subset, with a cause of their own: the word CAPTURES behind a name, and the instruction RUNBIST.
use Rattle.std.specs.Prelude.{◌≡◌, ℕ, ◌==◌, Bool, true, false, List, [], ◌∷◌, ◌++◌, map, codes, if◌then◌else◌, Result, Ok, Err}
use Rattle.std.specs.declared.option.Option.{Option}
use Rattle.std.specs.declared.option.Option.TheVariants.{None, Some}
use Rattle.bsdl_lex.specs.declared.Token.{Token}
use Rattle.bsdl_lex.specs.Tokens.{is_letter, is_digit, in_word}
use Rattle.part_model.specs.declared.plan.Access.{Access}
use Rattle.bsdl_read.specs.Words.{capital, same_word}
use Rattle.bsdl_read.specs.Contents.{and_then, is_space, through_all, whole_number}
use Rattle.bsdl_read.specs.ContentGrammar.{Padded, written_padded, IsPadded, is_name, LengthText, written_length, MayHaveLength, length_of, is_instruction}
use Rattle.bsdl_read.specs.declared.accesses.AccessStage.{AccessStage}
use Rattle.bsdl_read.specs.declared.accesses.AccessStage.TheVariants as stage
use Rattle.bsdl_read.specs.declared.accesses.AccessReading.{AccessReading}

-- what was read: whole entries, and the parts of the one that is open
pub record Entries : Type 0 where
  pub stage : AccessStage
  pub done : List Access
  pub register : List ℕ
  pub length : Option ℕ
  pub number : List ℕ
  pub name : List ℕ
  pub instructions : List (List ℕ)

abbrev pub at_stage : Entries → AccessStage → Entries
at_stage e next = record e { stage = next }

-- a letter of the register's name
abbrev pub with_register : Entries → ℕ → Entries
with_register e byte = record e { stage = stage.Register; register = e.register ++ capital byte ∷ [] }

-- a letter of a name
abbrev pub with_letter : Entries → AccessStage → ℕ → Entries
with_letter e next byte = record e { stage = next; name = e.name ++ capital byte ∷ [] }

-- the first letter of a word that stands behind a name
abbrev pub with_word : Entries → ℕ → Entries
with_word e byte = record e { stage = stage.Word; name = capital byte ∷ [] }

abbrev pub with_digit : Entries → ℕ → Entries
with_digit e byte = record e { stage = stage.Number; number = e.number ++ byte ∷ [] }

-- the number ends
abbrev pub with_number : Entries → AccessStage → Result Entries ℕ
with_number e next = and_then (whole_number e.number) (λ value. Ok (record e { stage = next; length = Some value; number = [] }))

-- a name ends, and another is due
abbrev pub with_name : Entries → Entries
with_name e = record e { stage = stage.Instruction; instructions = e.instructions ++ e.name ∷ []; name = [] }

-- an entry ends with its last name
abbrev pub with_entry : Entries → Entries
with_entry e = record {
  stage = stage.Closed;
  done = e.done ++ record { register = e.register; length = e.length; instructions = e.instructions ++ e.name ∷ [] } ∷ [];
  register = [];
  length = None;
  number = e.number;
  name = [];
  instructions = [];
}

-- the cause of a word behind a name
abbrev pub word_cause : List ℕ → ℕ
word_cause word = if same_word word (codes "CAPTURES") then 9 else 8

abbrev pub behind_register : Entries → ℕ → Result Entries ℕ
behind_register e byte =
    if is_space byte then Ok (at_stage e stage.Registered) else
    (if byte == 91 then Ok (at_stage e stage.Open) else
    (if byte == 40 then Ok (at_stage e stage.Instruction) else
    (if is_letter byte then Ok (with_word e byte) else Err 8)))

abbrev pub behind_number : Entries → ℕ → Result Entries ℕ
behind_number e byte = if is_space byte then with_number e stage.Numbered else (if byte == 93 then with_number e stage.Bracketed else Err 8)

abbrev pub behind_name : Entries → ℕ → Result Entries ℕ
behind_name e byte =
    if is_space byte then Ok (at_stage e stage.Named) else
    (if byte == 44 then Ok (with_name e) else
    (if byte == 41 then Ok (with_entry e) else
    (if is_letter byte then Ok (with_word e byte) else Err 8)))

-- a name is whole
abbrev pub whole_name : Entries → ℕ → Result Entries ℕ
whole_name e byte = if same_word e.name (codes "RUNBIST") then Err 9 else behind_name e byte

-- what one more byte leads to, or its cause
abbrev pub byte_at : AccessStage → Entries → ℕ → Result Entries ℕ
byte_at stage.Entry e byte = if is_space byte then Ok e else (if is_letter byte then Ok (with_register e byte) else Err 8)
byte_at stage.Register e byte = if in_word byte then Ok (with_register e byte) else behind_register e byte
byte_at stage.Registered e byte = behind_register e byte
byte_at stage.Open e byte = if is_space byte then Ok e else (if is_digit byte then Ok (with_digit e byte) else Err 8)
byte_at stage.Number e byte = if is_digit byte then Ok (with_digit e byte) else behind_number e byte
byte_at stage.Numbered e byte = if is_space byte then Ok e else (if byte == 93 then Ok (at_stage e stage.Bracketed) else Err 8)
byte_at stage.Bracketed e byte = if is_space byte then Ok e else (if byte == 40 then Ok (at_stage e stage.Instruction) else Err 8)
byte_at stage.Instruction e byte = if is_space byte then Ok e else (if is_letter byte then Ok (with_letter e stage.Name byte) else Err 8)
byte_at stage.Name e byte = if in_word byte then Ok (with_letter e stage.Name byte) else whole_name e byte
byte_at stage.Named e byte = behind_name e byte
byte_at stage.Word e byte = if in_word byte then Ok (with_letter e stage.Word byte) else Err (word_cause e.name)
byte_at stage.Closed e byte = if is_space byte then Ok e else (if byte == 44 then Ok (at_stage e stage.Entry) else Err 8)

abbrev pub next_byte : Entries → ℕ → Result Entries ℕ
next_byte e byte = byte_at e.stage e byte

-- the cause of a content that ends in a name
abbrev pub name_cause : List ℕ → ℕ
name_cause name = if same_word name (codes "RUNBIST") then 9 else 8

-- the stages outside a register
abbrev pub is_listed : AccessStage → Type 0
is_listed stage.Register = ⊥
is_listed stage.Registered = ⊥
is_listed stage.Open = ⊥
is_listed stage.Number = ⊥
is_listed stage.Numbered = ⊥
is_listed stage.Bracketed = ⊥
is_listed _ = Unit {0}

-- the content ends
abbrev pub closed_at : AccessStage → Entries → Result (List Access) ℕ
closed_at stage.Closed e = Ok e.done
closed_at stage.Name e = Err (name_cause e.name)
closed_at stage.Word e = Err (word_cause e.name)
closed_at _ e = Err 8

abbrev pub closed : Entries → Result (List Access) ℕ
closed e = closed_at e.stage e

-- whole entries, and nothing of the next
abbrev pub with_entries : List Access → Entries
with_entries done = record { stage = stage.Entry; done = done; register = []; length = None; number = []; name = []; instructions = [] }

abbrev pub no_entries : Entries
no_entries = with_entries []

-- the entries of the tokens of a VALUE, or cause 8 or 9
abbrev pub accesses : List ℕ → List Token → Result (List Access) ℕ
accesses text tokens = and_then (through_all next_byte text no_entries tokens) closed

-- ---- what the code reads at once

-- all letters of a register
abbrev pub with_register_word : Entries → List ℕ → Entries
with_register_word e word = record e { stage = stage.Register; register = map capital word }

-- all letters of a name
abbrev pub with_name_word : Entries → List ℕ → Entries
with_name_word e word = record e { stage = stage.Name; name = map capital word }

-- an instruction is due, and nothing of its name was read
abbrev pub at_name : Entries → Entries
at_name e = record e { stage = stage.Instruction; number = []; name = [] }

-- a register with or without its length, and the `(` of its names
abbrev pub with_opened : Entries → List ℕ → Option ℕ → Entries
with_opened e word length = record e { stage = stage.Instruction; register = map capital word; length = length }

-- a whole name, which may be the last of its entry
abbrev pub with_named : Entries → List ℕ → Bool → Entries
with_named e word true = with_entry (record e { name = map capital word })
with_named e word false = with_name (record e { name = map capital word })

-- the bytes begin with a length in brackets, or with none
pub record HasLength (bytes : List ℕ) (length : Option ℕ) (behind : List ℕ) : Type 0 where
  pub text : Option LengthText
  pub are : bytes ≡ written_length text behind
  pub says : length_of text ≡ length
  pub has_length : MayHaveLength text

-- the bytes begin with a register, with or without its length, and the `(` of its names
pub record OpensWith (bytes word : List ℕ) (length : Option ℕ) (behind : List ℕ) : Type 0 where
  pub register : Padded
  pub text : Option LengthText
  pub are : bytes ≡ written_padded register (written_length text (40 ∷ behind))
  pub is_word : register.inside ≡ word
  pub says : length_of text ≡ length
  pub has_register : IsPadded is_name register
  pub has_length : MayHaveLength text

-- behind the last name of an entry stands `)`, behind each other `,`
abbrev pub sign_behind : Bool → ℕ
sign_behind is_last = if is_last then 41 else 44

-- the bytes begin with an instruction, and the sign behind it
pub record NamesOne (bytes word : List ℕ) (is_last : Bool) (behind : List ℕ) : Type 0 where
  pub name : Padded
  pub are : bytes ≡ written_padded name (sign_behind is_last ∷ behind)
  pub is_word : name.inside ≡ word
  pub has_name : IsPadded is_instruction name

-- what the code keeps
abbrev pub view : AccessReading → Entries
view r = record { stage = r.stage; done = r.done.items; register = r.register; length = r.length; number = r.number.items; name = r.name; instructions = r.instructions }
