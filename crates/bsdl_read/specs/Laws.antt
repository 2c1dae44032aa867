-- What is read is what the parts of a file say, and each text has one answer.
use Rattle.std.specs.Prelude.{◌≡◌, ◌↔◌, ◌⊎◌, ℕ, ◌+◌, ◌-◌, ◌*◌, Bool, List, [], ◌∷◌, ◌++◌, Ok, Err}
use Rattle.bsdl_lex.specs.declared.Token.{Token}
use Rattle.part_model.specs.declared.Digit.{Digit}
use Rattle.part_model.specs.declared.plan.Opcode.{Opcode}
use Rattle.part_model.specs.declared.plan.Access.{Access}
use Rattle.part_model.specs.Parts.{DeviceType}
use Rattle.bsdl_read.specs.declared.structure.Seen.{Seen}
use Rattle.bsdl_read.specs.Structure.{structure}
use Rattle.bsdl_read.specs.Grammar.{IsFile}
use Rattle.bsdl_read.specs.Fronts.{Front, IsFront, written_front}
use Rattle.bsdl_read.specs.Refusals.{StopsAt, EndsEarly, LacksOne}
use Rattle.bsdl_read.specs.Contents.{number_from}
use Rattle.bsdl_read.specs.Opcodes.{opcodes}
use Rattle.bsdl_read.specs.Patterns.{pattern}
use Rattle.bsdl_read.specs.Accesses.{accesses}
use Rattle.bsdl_read.specs.ContentGrammar.{content, SaysOpcodes, SaysPattern, SaysAccesses, NamesLeftOut}
use Rattle.bsdl_read.specs.Reading.{IsEntity, NoEntity}

-- tokens have a structure exactly where they are a file by its parts, with the same name, VALUEs and `end`
abbrev pub FilesHaveParts : Type 0
FilesHaveParts = (text : List ℕ) (tokens : List Token) (seen : Seen) → (structure text tokens ≡ Ok seen) ↔ IsFile text tokens seen

-- a refusal of the structure is exactly at the first token with which the tokens are no front of a file, or at the text's end where they end
-- early, or at `end` where a required attribute is missing; each by its cause
abbrev pub StructureIsRefused : Type 0
StructureIsRefused = (text : List ℕ) (tokens : List Token) (at cause : ℕ) → (structure text tokens ≡ Err (record { at = at; cause = cause }))
    ↔ (StopsAt text tokens at cause ⊎ (EndsEarly text tokens at cause ⊎ LacksOne text tokens at cause))

-- these tokens are a front of a file
pub record AreFront (text : List ℕ) (tokens : List Token) : Type 0 where
  pub front : Front
  pub is_front : IsFront text front
  pub are : tokens ≡ written_front front

-- what a file begins with is a front, and so is what a front begins with
abbrev pub FilesHaveFronts : Type 0
FilesHaveFronts = (text : List ℕ) (tokens more : List Token) (seen : Seen) → IsFile text (tokens ++ more) seen → AreFront text tokens

abbrev pub FrontsHaveFronts : Type 0
FrontsHaveFronts = (text : List ℕ) (tokens more : List Token) → AreFront text (tokens ++ more) → AreFront text tokens

-- a text says an entity
pub record SaysOne (text : List ℕ) : Type 0 where
  pub name : List ℕ
  pub part : DeviceType
  pub is : IsEntity text name part

-- a text is refused
pub record IsRefused (text : List ℕ) : Type 0 where
  pub at : ℕ
  pub cause : ℕ
  pub is : NoEntity text at cause

abbrev pub OneOfBoth : Type 0
OneOfBoth = (text : List ℕ) → SaysOne text ⊎ IsRefused text

abbrev pub NeverBoth : Type 0
NeverBoth = (text : List ℕ) → SaysOne text → IsRefused text → ⊥

-- ---- contents

-- texts joined by `&` are read as one content: wherever they are cut, they say the same
pub record SaysTheSame (text others : List ℕ) (tokens more : List Token) : Type 0 where
  pub same_opcodes : opcodes text tokens ≡ opcodes others more
  pub same_accesses : accesses text tokens ≡ accesses others more
  pub same_pattern : (many : Bool) → pattern many text tokens ≡ pattern many others more

abbrev pub OneContent : Type 0
OneContent = (text others : List ℕ) (tokens more : List Token) → content text tokens ≡ content others more → SaysTheSame text others tokens more

-- opcodes are read exactly where the content is written as these entries
abbrev pub OpcodesHaveParts : Type 0
OpcodesHaveParts = (text : List ℕ) (tokens : List Token) (found : List Opcode) → (opcodes text tokens ≡ Ok found) ↔ SaysOpcodes (content text tokens) found

-- and are refused, always for cause 8, exactly where it is not written as any entries
abbrev pub OpcodesAreRefused : Type 0
OpcodesAreRefused = (text : List ℕ) (tokens : List Token) (cause : ℕ) → (opcodes text tokens ≡ Err cause) ↔ ((cause ≡ 8) × ((found : List Opcode) → SaysOpcodes (content text tokens) found → ⊥))

-- the pattern of INSTRUCTION_CAPTURE, IDCODE_REGISTER and USERCODE_REGISTER likewise
abbrev pub PatternsHaveParts : Type 0
PatternsHaveParts = (many : Bool) (text : List ℕ) (tokens : List Token) (found : List Digit) → (pattern many text tokens ≡ Ok found) ↔ SaysPattern many (content text tokens) found

abbrev pub PatternsAreRefused : Type 0
PatternsAreRefused = (many : Bool) (text : List ℕ) (tokens : List Token) (cause : ℕ) → (pattern many text tokens ≡ Err cause) ↔ ((cause ≡ 8) × ((found : List Digit) → SaysPattern many (content text tokens) found → ⊥))

-- and the entries of REGISTER_ACCESS
abbrev pub AccessesHaveParts : Type 0
AccessesHaveParts = (text : List ℕ) (tokens : List Token) (found : List Access) → (accesses text tokens ≡ Ok found) ↔ SaysAccesses (content text tokens) found

-- which are refused for cause 8, or for 9 where the content has a word that is left out of the subset
abbrev pub AccessesAreRefused : Type 0
AccessesAreRefused = (text : List ℕ) (tokens : List Token) (cause : ℕ) → accesses text tokens ≡ Err cause → (cause ≡ 8) ⊎ ((cause ≡ 9) × NamesLeftOut (content text tokens))

-- the last digit of a number is the lowest
abbrev pub LastDigitIsLowest : Type 0
LastDigitIsLowest = (digits : List ℕ) (last : ℕ) → number_from 0 (digits ++ last ∷ []) ≡ number_from 0 digits * 10 + (last - 48)
