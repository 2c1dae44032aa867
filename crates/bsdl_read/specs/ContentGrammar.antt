-- Contents by their parts, apart from the stages of their reading: names, patterns and numbers between blanks, joined by `,`.
use Rattle.std.specs.Prelude.{◌≡◌, ℕ, Bool, true, false, not, ◌&&◌, ◌||◌, List, [], ◌∷◌, ◌++◌, map, reverse, if◌then◌else◌, codes}
use Rattle.std.specs.List.{list_all, list_any}
use Rattle.std.specs.declared.option.Option.{Option}
use Rattle.std.specs.declared.option.Option.TheVariants.{Some, None}
use Rattle.bsdl_lex.specs.declared.Token.{Token}
use Rattle.bsdl_lex.specs.Tokens.{is_letter, in_word}
use Rattle.part_model.specs.declared.Digit.{Digit}
use Rattle.part_model.specs.declared.plan.Opcode.{Opcode}
use Rattle.part_model.specs.declared.plan.Access.{Access}
use Rattle.bsdl_read.specs.Words.{capital, same_word}
use Rattle.bsdl_read.specs.Contents.{inside, is_space, is_pattern_digit, digit_of, is_short, number_from}

-- what stands between the quotes of the texts of a VALUE, put together
abbrev pub content : List ℕ → List Token → List ℕ
content text [] = []
content text (token ∷ tokens) = inside text token ++ content text tokens

-- all of these are such
abbrev pub Every : {T : Type 0} → (T → Type 0) → List T → Type 0
Every is [] = Unit {0}
Every is (x ∷ xs) = is x × Every is xs

-- ---- between blanks

abbrev pub are_spaces : List ℕ → Bool
are_spaces bytes = list_all is_space bytes

-- something between blanks
pub record Padded : Type 0 where
  pub before : List ℕ
  pub inside : List ℕ
  pub behind : List ℕ

abbrev pub written_padded : Padded → List ℕ → List ℕ
written_padded p rest = p.before ++ (p.inside ++ (p.behind ++ rest))

pub record IsPadded (is : List ℕ → Bool) (p : Padded) : Type 0 where
  pub blank_before : are_spaces p.before ≡ true
  pub is_inside : is p.inside ≡ true
  pub blank_behind : are_spaces p.behind ≡ true

-- a letter, then letters, digits and `_`
abbrev pub is_name : List ℕ → Bool
is_name [] = false
is_name (byte ∷ bytes) = is_letter byte && list_all in_word bytes

-- one or more of `0`, `1`, `X` and `x`
abbrev pub is_pattern : List ℕ → Bool
is_pattern [] = false
is_pattern (byte ∷ bytes) = list_all is_pattern_digit (byte ∷ bytes)

-- the name in capitals
abbrev pub name_of : Padded → List ℕ
name_of p = map capital p.inside

-- the digits from the right, where the lowest stands
abbrev pub pattern_of : Padded → List Digit
pattern_of p = reverse (map digit_of p.inside)

-- ---- joined by `,`

-- one or more things: each but the last has a `,` behind it
pub record Joined (T : Type 0) : Type 0 where
  pub firsts : List T
  pub last : T

-- each with a `,` behind it
abbrev pub followed : {T : Type 0} → (T → List ℕ → List ℕ) → List T → List ℕ → List ℕ
followed write [] rest = rest
followed write (x ∷ xs) rest = write x (44 ∷ followed write xs rest)

abbrev pub written_joined : {T : Type 0} → (T → List ℕ → List ℕ) → Joined T → List ℕ → List ℕ
written_joined write joined rest = followed write joined.firsts (write joined.last rest)

abbrev pub all_joined : {T U : Type 0} → (T → U) → Joined T → List U
all_joined f joined = map f joined.firsts ++ f joined.last ∷ []

pub record EachJoined {T : Type 0} (is : T → Type 0) (joined : Joined T) : Type 0 where
  pub each_first : Every is joined.firsts
  pub is_last : is joined.last

-- ---- INSTRUCTION_OPCODE

-- a name, `(`, patterns joined by `,`, and `)`
pub record OpcodeText : Type 0 where
  pub name : Padded
  pub patterns : Joined Padded
  pub behind : List ℕ

abbrev pub written_opcode : OpcodeText → List ℕ → List ℕ
written_opcode o rest = written_padded o.name (40 ∷ written_joined written_padded o.patterns (41 ∷ o.behind ++ rest))

pub record IsOpcodeText (o : OpcodeText) : Type 0 where
  pub has_name : IsPadded is_name o.name
  pub has_patterns : EachJoined (IsPadded is_pattern) o.patterns
  pub blank_behind : are_spaces o.behind ≡ true

abbrev pub opcode_of : OpcodeText → Opcode
opcode_of o = record { name = name_of o.name; patterns = all_joined pattern_of o.patterns }

-- the content is entries joined by `,`, which say these opcodes
pub record SaysOpcodes (bytes : List ℕ) (found : List Opcode) : Type 0 where
  pub entries : Joined OpcodeText
  pub are : bytes ≡ written_joined written_opcode entries []
  pub forms : EachJoined IsOpcodeText entries
  pub says : found ≡ all_joined opcode_of entries

-- ---- INSTRUCTION_CAPTURE, IDCODE_REGISTER and USERCODE_REGISTER

-- digits with blanks among them, at least one digit
abbrev pub is_spaced : ℕ → Bool
is_spaced byte = is_space byte || is_pattern_digit byte

abbrev pub is_spaced_pattern : List ℕ → Bool
is_spaced_pattern bytes = list_all is_spaced bytes && list_any is_pattern_digit bytes

abbrev pub digits_in : List ℕ → List Digit
digits_in [] = []
digits_in (byte ∷ bytes) = if is_space byte then digits_in bytes else digit_of byte ∷ digits_in bytes

abbrev pub written_bytes : List ℕ → List ℕ → List ℕ
written_bytes bytes rest = bytes ++ rest

abbrev pub first_of : List (List ℕ) → List ℕ → List ℕ
first_of [] last = last
first_of (first ∷ firsts) last = first

-- the content is one pattern, or, where several may stand, patterns joined by `,`: the first of them says these digits
pub record SaysPattern (many : Bool) (bytes : List ℕ) (found : List Digit) : Type 0 where
  pub patterns : Joined (List ℕ)
  pub are : bytes ≡ written_joined written_bytes patterns []
  pub each_first : list_all is_spaced_pattern patterns.firsts ≡ true
  pub is_last : is_spaced_pattern patterns.last ≡ true
  pub one : many ≡ false → patterns.firsts ≡ []
  pub says : found ≡ reverse (digits_in (first_of patterns.firsts patterns.last))

-- ---- REGISTER_ACCESS

-- `[ number ]`
pub record LengthText : Type 0 where
  pub number : Padded
  pub behind : List ℕ

abbrev pub written_length : Option LengthText → List ℕ → List ℕ
written_length None rest = rest
written_length (Some l) rest = 91 ∷ written_padded l.number (93 ∷ l.behind ++ rest)

pub record IsLengthText (l : LengthText) : Type 0 where
  pub has_number : IsPadded is_short l.number
  pub blank_behind : are_spaces l.behind ≡ true

abbrev pub MayHaveLength : Option LengthText → Type 0
MayHaveLength None = Unit {0}
MayHaveLength (Some l) = IsLengthText l

abbrev pub length_of : Option LengthText → Option ℕ
length_of None = None
length_of (Some l) = Some (number_from 0 l.number.inside)

-- a register with or without its length, `(`, instructions joined by `,`, and `)`
pub record AccessText : Type 0 where
  pub register : Padded
  pub length : Option LengthText
  pub instructions : Joined Padded
  pub behind : List ℕ

abbrev pub written_access : AccessText → List ℕ → List ℕ
written_access a rest = written_padded a.register (written_length a.length (40 ∷ written_joined written_padded a.instructions (41 ∷ a.behind ++ rest)))

-- an instruction other than RUNBIST
abbrev pub is_instruction : List ℕ → Bool
is_instruction name = is_name name && not (same_word (map capital name) (codes "RUNBIST"))

pub record IsAccessText (a : AccessText) : Type 0 where
  pub has_register : IsPadded is_name a.register
  pub has_length : MayHaveLength a.length
  pub has_instructions : EachJoined (IsPadded is_instruction) a.instructions
  pub blank_behind : are_spaces a.behind ≡ true

abbrev pub access_of : AccessText → Access
access_of a = record { register = name_of a.register; length = length_of a.length; instructions = all_joined name_of a.instructions }

-- the content is entries joined by `,`, which say these accesses
pub record SaysAccesses (bytes : List ℕ) (found : List Access) : Type 0 where
  pub entries : Joined AccessText
  pub are : bytes ≡ written_joined written_access entries []
  pub forms : EachJoined IsAccessText entries
  pub says : found ≡ all_joined access_of entries

-- what is left out of the subset: the word CAPTURES behind a register or behind an instruction, and the instruction RUNBIST
pub data LeftOut : Type 0 where
  BehindRegister : (register : Padded) (word : List ℕ) → LeftOut
  BehindInstruction : (register : Padded) (length : Option LengthText) (names : List Padded) (last : Padded) (word : List ℕ) → LeftOut
  Instruction : (register : Padded) (length : Option LengthText) (names : List Padded) (before name : List ℕ) → LeftOut

abbrev pub written_left_out : LeftOut → List ℕ → List ℕ
written_left_out (LeftOut.BehindRegister register word) rest = written_padded register (word ++ rest)
written_left_out (LeftOut.BehindInstruction register length names last word) rest = written_padded register (written_length length (40 ∷ followed written_padded names (written_padded last (word ++ rest))))
written_left_out (LeftOut.Instruction register length names before name) rest = written_padded register (written_length length (40 ∷ followed written_padded names (before ++ (name ++ rest))))

abbrev pub IsLeftOut : LeftOut → Type 0
IsLeftOut (LeftOut.BehindRegister register word) = same_word (map capital word) (codes "CAPTURES") ≡ true
IsLeftOut (LeftOut.BehindInstruction register length names last word) = same_word (map capital word) (codes "CAPTURES") ≡ true
IsLeftOut (LeftOut.Instruction register length names before name) = same_word (map capital name) (codes "RUNBIST") ≡ true

-- behind entries, each with a `,` behind it, the content has such a word
pub record NamesLeftOut (bytes : List ℕ) : Type 0 where
  pub entries : List AccessText
  pub part : LeftOut
  pub rest : List ℕ
  pub are : bytes ≡ followed written_access entries (written_left_out part rest)
  pub each : Every IsAccessText entries
  pub is_left_out : IsLeftOut part
