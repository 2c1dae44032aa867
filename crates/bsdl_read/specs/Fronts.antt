-- Fronts of BSDL files, apart from the stages of the reading: `entity NAME is`, whole items, and a part of one more or of `end NAME ;`.
use Rattle.std.specs.Prelude.{◌≡◌, ℕ, ◌+◌, ◌-◌, ◌<◌, Bool, true, false, not, ◌&&◌, ◌==◌, List, [], ◌∷◌, length, if◌then◌else◌, codes}
use Rattle.std.specs.declared.option.Option.TheVariants.{Some}
use Rattle.std.specs.Option.{is_none, is_some}
use Rattle.bsdl_lex.specs.declared.Token.{Token}
use Rattle.bsdl_lex.specs.declared.TokenKind.TheVariants.{Word, Text}
use Rattle.part_model.specs.declared.Field.{Field}
use Rattle.bsdl_read.specs.declared.structure.Values.{Values}
use Rattle.bsdl_read.specs.Words.{spelled, is_kind, is_word, is_sign, field_of, value_kind}
use Rattle.bsdl_read.specs.Structure.{value_of, nothing}
use Rattle.bsdl_read.specs.Grammar.{ends, Item, AreItems, values_after, written}

-- the tokens pass these tests one after the other, as far as they go, and what stands behind all tests passes the last
abbrev pub fits : List (Token → Bool) → (List Token → Bool) → List Token → Bool
fits [] behind tokens = behind tokens
fits (test ∷ tests) behind [] = true
fits (test ∷ tests) behind (token ∷ tokens) = test token && fits tests behind tokens

-- `entity NAME is`
abbrev pub first_words : List ℕ → List (Token → Bool)
first_words text = (λ token. is_word text token (codes "ENTITY")) ∷ (λ token. is_kind token.kind Word) ∷ (λ token. is_word text token (codes "IS")) ∷ []

-- `of NAME : entity is`
abbrev pub head_words : List ℕ → Token → List (Token → Bool)
head_words text name =
    (λ token. is_word text token (codes "OF")) ∷ (λ token. is_word text token (spelled text name)) ∷ (λ token. is_sign text token 58) ∷ (λ token. is_word text token (codes "ENTITY")) ∷ (λ token. is_word text token (codes "IS")) ∷ []

-- `NAME ;` behind `end`
abbrev pub last_words : List ℕ → Token → List (Token → Bool)
last_words text name = (λ token. is_word text token (spelled text name)) ∷ (λ token. is_sign text token 59) ∷ []

-- `(` and `)` in pairs as far as they go, and no `;` outside parentheses
abbrev pub unclosed : List ℕ → ℕ → List Token → Bool
unclosed text depth [] = true
unclosed text depth (token ∷ tokens) =
    if is_sign text token 40 then unclosed text (depth + 1) tokens else
    (if is_sign text token 41 then not (depth == 0) && unclosed text (depth - 1) tokens else
    (if is_sign text token 59 && (depth == 0) then false else unclosed text depth tokens))

-- a VALUE as far as it goes, without its `;`: a Number, or texts joined by `&`; `due` says that one is due
abbrev pub is_value_front : List ℕ → Field → Bool → List Token → Bool
is_value_front text field due [] = true
is_value_front text field true (token ∷ tokens) = is_kind token.kind (value_kind field) && is_value_front text field false tokens
is_value_front text field false (token ∷ tokens) = (is_sign text token 38 && is_kind (value_kind field) Text) && is_value_front text field true tokens

-- what stands behind the last whole item: nothing, a part of an item that is passed over, `attribute` alone, a part of an item that is
-- read, or `end` and a part of what follows it
pub data Part : Type 0 where
  Between : Part
  Other : (word : Token) (rest : List Token) → Part
  Attribute : (word : Token) → Part
  Reading : (field : Field) (word label : Token) (rest : List Token) → Part
  End : (word : Token) (rest : List Token) → Part

-- its tokens
abbrev pub written_part : Part → List Token
written_part Part.Between = []
written_part (Part.Other word rest) = word ∷ rest
written_part (Part.Attribute word) = word ∷ []
written_part (Part.Reading field word label rest) = word ∷ label ∷ rest
written_part (Part.End word rest) = word ∷ rest

-- one of the seven names may stand first, as far as it is known
abbrev pub may_start_field : List ℕ → List Token → Bool
may_start_field text [] = true
may_start_field text (token ∷ tokens) = is_some (field_of text token)

-- it begins with a word other than `end`, and not with `attribute` alone or with one of the seven names
pub record IsOtherFront (text : List ℕ) (word : Token) (rest : List Token) : Type 0 where
  pub begins : is_kind word.kind Word ≡ true
  pub no_end : is_word text word (codes "END") ≡ false
  pub no_field : (is_word text word (codes "ATTRIBUTE") && may_start_field text rest) ≡ false
  pub is_unclosed : unclosed text 0 rest ≡ true

-- the word `attribute`
pub record IsAttributeWord (text : List ℕ) (word : Token) : Type 0 where
  pub is_attribute : is_word text word (codes "ATTRIBUTE") ≡ true
  pub no_end : is_word text word (codes "END") ≡ false

-- `attribute` and one of the seven names that was not met before, and then `of NAME : entity is VALUE` as far as it goes
pub record IsReadingFront (text : List ℕ) (name : Token) (values : Values) (field : Field) (word label : Token) (rest : List Token) : Type 0 where
  pub begins : IsAttributeWord text word
  pub is_field : field_of text label ≡ Some field
  pub is_new : is_none (value_of values field) ≡ true
  pub is_rest : fits (head_words text name) (is_value_front text field true) rest ≡ true

-- `end`, and then `NAME ;` as far as it goes
pub record IsEndFront (text : List ℕ) (name word : Token) (rest : List Token) : Type 0 where
  pub is_end : is_word text word (codes "END") ≡ true
  pub is_rest : fits (last_words text name) ends rest ≡ true

-- a part behind items with these VALUEs, in a file of this name
abbrev pub IsPart : List ℕ → Token → Values → Part → Type 0
IsPart text name values Part.Between = Unit {0}
IsPart text name values (Part.Other word rest) = IsOtherFront text word rest
IsPart text name values (Part.Attribute word) = IsAttributeWord text word
IsPart text name values (Part.Reading field word label rest) = IsReadingFront text name values field word label rest
IsPart text name values (Part.End word rest) = IsEndFront text name word rest

-- a part of `entity NAME is`, or the whole of it, whole items and a part behind them
pub data Front : Type 0 where
  Start : (tokens : List Token) → Front
  Body : (entity name verb : Token) (items : List Item) (part : Part) → Front

-- its tokens
abbrev pub written_front : Front → List Token
written_front (Front.Start tokens) = tokens
written_front (Front.Body entity name verb items part) = entity ∷ name ∷ verb ∷ written items (written_part part)

-- a part of `entity NAME is`
pub record IsStart (text : List ℕ) (tokens : List Token) : Type 0 where
  pub short : length tokens < 3
  pub fit : fits (first_words text) ends tokens ≡ true

-- `entity NAME is` and whole items
pub record IsBody (text : List ℕ) (entity name verb : Token) (items : List Item) : Type 0 where
  pub is_entity : is_word text entity (codes "ENTITY") ≡ true
  pub is_name : is_kind name.kind Word ≡ true
  pub is_is : is_word text verb (codes "IS") ≡ true
  pub are_items : AreItems text name 3 nothing.values items

-- the tokens are a front of a file of this form
abbrev pub IsFront : List ℕ → Front → Type 0
IsFront text (Front.Start tokens) = IsStart text tokens
IsFront text (Front.Body entity name verb items part) = IsBody text entity name verb items × IsPart text name (values_after 3 nothing.values items) part

-- the front goes up to the `;` of `end NAME ;`
abbrev pub is_finished_part : Part → Bool
is_finished_part (Part.End word rest) = length rest == 2
is_finished_part _ = false

abbrev pub is_finished : Front → Bool
is_finished (Front.Start tokens) = false
is_finished (Front.Body entity name verb items part) = is_finished_part part
