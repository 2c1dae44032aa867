-- Where and why the structure of a text is refused, apart from the stages of its reading.
use Rattle.std.specs.Prelude.{◌≡◌, ℕ, Bool, false, List, [], ◌∷◌, ◌++◌, length, if◌then◌else◌}
use Rattle.std.specs.declared.option.Option.{Option}
use Rattle.std.specs.declared.option.Option.TheVariants.{Some, None}
use Rattle.std.specs.Option.{is_some}
use Rattle.bsdl_lex.specs.declared.Token.{Token}
use Rattle.part_model.specs.declared.Field.{Field}
use Rattle.bsdl_read.specs.declared.structure.Values.{Values}
use Rattle.bsdl_read.specs.Words.{field_of}
use Rattle.bsdl_read.specs.Structure.{value_of, is_whole, nothing}
use Rattle.bsdl_read.specs.Grammar.{Item, values_after}
use Rattle.bsdl_read.specs.Fronts.{Part, Front, IsFront, written_front, is_finished}

-- one of the seven names that was met before
abbrev pub is_met : Values → Option Field → Bool
is_met values None = false
is_met values (Some field) = is_some (value_of values field)

-- the cause of a token that may not stand behind a front: 7 behind `attribute` a name that was met before, 8 in an item that is read, and
-- 5 elsewhere
abbrev pub part_cause : List ℕ → Values → Part → Token → ℕ
part_cause text values (Part.Attribute word) token = if is_met values (field_of text token) then 7 else 5
part_cause text values (Part.Reading field word label rest) token = 8
part_cause text values _ token = 5

-- in `entity NAME is` always 5
abbrev pub cause_behind : List ℕ → Front → Token → ℕ
cause_behind text (Front.Start tokens) token = 5
cause_behind text (Front.Body entity name verb items part) token = part_cause text (values_after 3 nothing.values items) part token

-- a token at this place is refused: what stands before it is a front of a file, and with it there is none
pub record StopsAt (text : List ℕ) (tokens : List Token) (at cause : ℕ) : Type 0 where
  pub front : Front
  pub token : Token
  pub rest : List Token
  pub are : tokens ≡ written_front front ++ token ∷ rest
  pub is_front : IsFront text front
  pub is_last : (longer : Front) → IsFront text longer → written_front longer ≡ written_front front ++ token ∷ [] → ⊥
  pub place : at ≡ token.start
  pub is_cause : cause ≡ cause_behind text front token

-- the tokens are a front of a file, but end before its end
pub record EndsEarly (text : List ℕ) (tokens : List Token) (at cause : ℕ) : Type 0 where
  pub front : Front
  pub are : tokens ≡ written_front front
  pub is_front : IsFront text front
  pub unfinished : is_finished front ≡ false
  pub place : at ≡ length text
  pub is_five : cause ≡ 5

-- the tokens end in `end NAME ;`, but a required attribute is missing
pub record LacksOne (text : List ℕ) (tokens : List Token) (at cause : ℕ) : Type 0 where
  pub entity : Token
  pub name : Token
  pub verb : Token
  pub items : List Item
  pub close : Token
  pub behind : List Token
  pub are : tokens ≡ written_front (Front.Body entity name verb items (Part.End close behind))
  pub is_front : IsFront text (Front.Body entity name verb items (Part.End close behind))
  pub two : length behind ≡ 2
  pub lacks : is_whole (values_after 3 nothing.values items) ≡ false
  pub place : at ≡ close.start
  pub is_six : cause ≡ 6
