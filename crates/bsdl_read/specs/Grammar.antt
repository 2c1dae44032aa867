-- A BSDL file by its parts, apart from the stages of its reading: `entity NAME is`, items, and `end NAME ;`.
use Rattle.std.specs.Prelude.{◌≡◌, ℕ, ◌+◌, ◌-◌, Bool, true, false, not, ◌&&◌, ◌==◌, List, [], ◌∷◌, ◌++◌, length, if◌then◌else◌, codes}
use Rattle.std.specs.Option.{is_none, is_some}
use Rattle.std.specs.declared.option.Option.TheVariants.{Some}
use Rattle.bsdl_lex.specs.declared.Token.{Token}
use Rattle.bsdl_lex.specs.declared.TokenKind.TheVariants.{Word, Text}
use Rattle.part_model.specs.declared.Field.{Field}
use Rattle.bsdl_read.specs.declared.structure.Stage.TheVariants as stage
use Rattle.bsdl_read.specs.declared.structure.Value.{Value}
use Rattle.bsdl_read.specs.declared.structure.Values.{Values}
use Rattle.bsdl_read.specs.declared.structure.Seen.{Seen}
use Rattle.bsdl_read.specs.Words.{spelled, is_kind, is_word, is_sign, field_of, value_kind}
use Rattle.bsdl_read.specs.Structure.{value_of, with_value, is_whole, nothing}

-- nothing more
abbrev pub ends : List Token → Bool
ends [] = true
ends (token ∷ tokens) = false

-- the tokens up to the first `;` outside parentheses, `(` and `)` in pairs
abbrev pub balanced : List ℕ → ℕ → List Token → Bool
balanced text depth [] = false
balanced text depth (token ∷ tokens) =
    if is_sign text token 40 then balanced text (depth + 1) tokens else
    (if is_sign text token 41 then not (depth == 0) && balanced text (depth - 1) tokens else
    (if is_sign text token 59 && (depth == 0) then ends tokens else balanced text depth tokens))

-- the tokens of a VALUE and its `;`: a Number, or texts joined by `&`; `due` says that one is due
abbrev pub is_value : List ℕ → Field → Bool → List Token → Bool
is_value text field due [] = false
is_value text field true (token ∷ tokens) = is_kind token.kind (value_kind field) && is_value text field false tokens
is_value text field false (token ∷ tokens) =
    if is_sign text token 38 && is_kind (value_kind field) Text then is_value text field true tokens else is_sign text token 59 && ends tokens

-- `attribute X of NAME : entity is`
pub record Head : Type 0 where
  pub attribute : Token
  pub name : Token
  pub preposition : Token
  pub owner : Token
  pub colon : Token
  pub kind : Token
  pub verb : Token

-- an item that is passed over, or one that is read
pub data Item : Type 0 where
  Other : (word : Token) (rest : List Token) → Item
  Reading : (field : Field) (head : Head) (value : List Token) → Item

abbrev pub written_item : Item → List Token
written_item (Item.Other word rest) = word ∷ rest
written_item (Item.Reading field head value) = head.attribute ∷ head.name ∷ head.preposition ∷ head.owner ∷ head.colon ∷ head.kind ∷ head.verb ∷ value

abbrev pub starts_field : List ℕ → List Token → Bool
starts_field text [] = false
starts_field text (token ∷ tokens) = is_some (field_of text token)

-- it begins with a word other than `end`, and not with `attribute` and one of the seven names
pub record IsOther (text : List ℕ) (word : Token) (rest : List Token) : Type 0 where
  pub begins : is_kind word.kind Word ≡ true
  pub no_end : is_word text word (codes "END") ≡ false
  pub no_field : (is_word text word (codes "ATTRIBUTE") && starts_field text rest) ≡ false
  pub is_balanced : balanced text 0 rest ≡ true

pub record IsHead (text : List ℕ) (name : Token) (field : Field) (head : Head) : Type 0 where
  pub is_attribute : is_word text head.attribute (codes "ATTRIBUTE") ≡ true
  pub no_end : is_word text head.attribute (codes "END") ≡ false
  pub is_field : field_of text head.name ≡ Some field
  pub is_of : is_word text head.preposition (codes "OF") ≡ true
  pub is_owner : is_word text head.owner (spelled text name) ≡ true
  pub is_colon : is_sign text head.colon 58 ≡ true
  pub is_entity : is_word text head.kind (codes "ENTITY") ≡ true
  pub is_is : is_word text head.verb (codes "IS") ≡ true

abbrev pub IsItem : List ℕ → Token → Item → Type 0
IsItem text name (Item.Other word rest) = IsOther text word rest
IsItem text name (Item.Reading field head value) = IsHead text name field head × (is_value text field true value ≡ true)

-- where a VALUE stands that begins with the token of this number
abbrev pub first_place : List Token → ℕ
first_place [] = 0
first_place (token ∷ tokens) = token.start

abbrev pub value_at : ℕ → List Token → Value
value_at index tokens = record { at = first_place tokens; first = index; behind = index + (length tokens - 1) }

-- each of the seven is met once
abbrev pub IsNew : Values → Item → Type 0
IsNew values (Item.Other word rest) = Unit {0}
IsNew values (Item.Reading field head value) = is_none (value_of values field) ≡ true

-- the VALUEs after an item that begins with the token of this number
abbrev pub values_with : ℕ → Values → Item → Values
values_with index values (Item.Other word rest) = values
values_with index values (Item.Reading field head value) = with_value values field (value_at (index + 7) value)

abbrev pub AreItems : List ℕ → Token → ℕ → Values → List Item → Type 0
AreItems text name index values [] = Unit {0}
AreItems text name index values (item ∷ items) = IsItem text name item × IsNew values item × AreItems text name (index + length (written_item item)) (values_with index values item) items

abbrev pub values_after : ℕ → Values → List Item → Values
values_after index values [] = values
values_after index values (item ∷ items) = values_after (index + length (written_item item)) (values_with index values item) items

abbrev pub written : List Item → List Token → List Token
written [] behind = behind
written (item ∷ items) behind = written_item item ++ written items behind

-- the tokens are a file, whose name, VALUEs and `end` are these
pub record IsFile (text : List ℕ) (tokens : List Token) (seen : Seen) : Type 0 where
  pub entity : Token
  pub name : Token
  pub verb : Token
  pub items : List Item
  pub close : Token
  pub owner : Token
  pub last : Token
  pub are : tokens ≡ entity ∷ name ∷ verb ∷ written items (close ∷ owner ∷ last ∷ [])
  pub is_entity : is_word text entity (codes "ENTITY") ≡ true
  pub is_name : is_kind name.kind Word ≡ true
  pub is_is : is_word text verb (codes "IS") ≡ true
  pub are_items : AreItems text name 3 nothing.values items
  pub is_end : is_word text close (codes "END") ≡ true
  pub is_owner : is_word text owner (spelled text name) ≡ true
  pub is_last : is_sign text last 59 ≡ true
  pub is_whole : is_whole seen.values ≡ true
  pub found : seen ≡ record { stage = stage.Done; name = name; end = close.start; values = values_after 3 nothing.values items }
