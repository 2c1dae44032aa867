-- A file by its parts is read through the stages.
use Rattle.std.proofs.Common.{◌≡◌, ◌<◌, ℕ, suc, ◌+◌, ◌-◌, Bool, true, false, List, [], ◌∷◌, ◌++◌, inl, inr, ◌==◌, ◌&&◌, not, length, Result, Ok, Err, refl, sym, ap, ◌∙◌, arith, codes}
use Rattle.std.specs.Option.{is_none, is_some}
use Rattle.std.specs.declared.option.Option.{Option}
use Rattle.std.specs.declared.option.Option.TheVariants.{Some, None}
use Rattle.std.proofs.lemmas.Bool.{and_parts, cases_Bool}
use Rattle.bsdl_lex.specs.declared.Token.{Token}
use Rattle.bsdl_lex.specs.declared.TokenKind.TheVariants.{Word, Text}
use Rattle.part_model.specs.declared.Field.{Field}
use Rattle.part_model.specs.declared.Field.TheVariants.{InstructionLength, InstructionOpcode, InstructionCapture, IdcodeRegister, UsercodeRegister, RegisterAccess, BoundaryLength}
use Rattle.bsdl_read.specs.declared.structure.Seen.{Seen}
use Rattle.bsdl_read.specs.declared.structure.Stage.{Stage}
use Rattle.bsdl_read.specs.declared.structure.Stage.TheVariants as stage
use Rattle.bsdl_read.specs.declared.structure.Value.{Value}
use Rattle.bsdl_read.specs.declared.structure.Values.{Values}
use Rattle.bsdl_read.specs.declared.structure.Fault.{Fault}
use Rattle.bsdl_read.specs.Words.{is_word, is_sign, is_kind, value_kind, spelled, field_of}
use Rattle.bsdl_read.specs.Structure.{gone, next, to, and_then, value_of, with_value, extended, structure, finished, nothing, is_whole}
use Rattle.bsdl_read.specs.Grammar.{ends, balanced, is_value, Head, Item, written_item, starts_field, IsOther, IsHead, IsItem, value_at, IsNew, values_with, AreItems, values_after, written, IsFile}
use Rattle.bsdl_read.proofs.Forms.{chosen}

-- ---- lists

joined : (text : List ℕ) (i : ℕ) (xs ys : List Token) (first : Result Seen Fault) → ((after : Seen) → gone text (suc i) after (xs ++ ys) ≡ and_then (gone text (suc i) after xs) (λ s. gone text (suc i + length xs) s ys))
    → and_then first (λ after. gone text (suc i) after (xs ++ ys)) ≡ and_then (and_then first (λ after. gone text (suc i) after xs)) (λ s. gone text (suc i + length xs) s ys)
joined text i xs ys (Ok after) more = more after
joined text i xs ys (Err fault) more = refl

gone_append : (text : List ℕ) (i : ℕ) (s : Seen) (xs ys : List Token) → gone text i s (xs ++ ys) ≡ and_then (gone text i s xs) (λ after. gone text (i + length xs) after ys)
gone_append text i s [] ys = let n : i ≡ i + 0 = omega arith in ap (λ k. gone text k s ys) n
gone_append text i s (x ∷ xs) ys =
    let n : suc i + length xs ≡ i + length (x ∷ xs) = omega arith in
    joined text i xs ys (next text s x i) (λ after. gone_append text (suc i) after xs ys) ∙ ap (λ k. and_then (gone text i s (x ∷ xs)) (λ after. gone text k after ys)) n

pub gone_to : (text : List ℕ) (i : ℕ) (s after : Seen) (xs ys : List Token) → gone text i s xs ≡ Ok after → gone text i s (xs ++ ys) ≡ gone text (i + length xs) after ys
gone_to text i s after xs ys is = gone_append text i s xs ys ∙ ap (λ r. and_then r (λ a. gone text (i + length xs) a ys)) is

at_end : (text : List ℕ) (i : ℕ) (s : Seen) (tokens : List Token) → ends tokens ≡ true → gone text i s tokens ≡ Ok s
at_end text i s [] is = refl
at_end text i s (token ∷ tokens) is = absurd (cc is)

-- ---- an item that is passed over

pub balanced_goes : (text : List ℕ) (i : ℕ) (s : Seen) (depth : ℕ) (tokens : List Token) → balanced text depth tokens ≡ true → gone text i (to s (stage.Passed depth)) tokens ≡ Ok (to s stage.Item)
balanced_goes text i s depth [] is = absurd (cc is)
balanced_goes text i s depth (token ∷ tokens) is = elim (chosen (is_sign text token 40) _ _ _ is) [
  | inl a ↦ rw a.0 (balanced_goes text (suc i) s (depth + 1) tokens a.1)
  | inr b ↦ elim (chosen (is_sign text token 41) _ _ _ b.1) [
    | inl c ↦
        let both = and_parts (not (depth == 0)) (balanced text (depth - 1) tokens) c.1 in
        rw (b.0, c.0, both.0) (balanced_goes text (suc i) s (depth - 1) tokens both.1)
    | inr d ↦ elim (chosen (is_sign text token 59 && (depth == 0)) _ _ _ d.1) [
      | inl e ↦ rw (b.0, d.0, e.0) (at_end text (suc i) (to s stage.Item) tokens e.1)
      | inr f ↦ rw (b.0, d.0, f.0) (balanced_goes text (suc i) s depth tokens f.1)
    ]
  ]
]

pub none_of : (o : Option Field) → is_some o ≡ false → o ≡ None
none_of None is = refl
none_of (Some field) is = absurd (cc is)

attribute_goes : (text : List ℕ) (i : ℕ) (s : Seen) (tokens : List Token) → starts_field text tokens ≡ false → balanced text 0 tokens ≡ true → gone text i (to s stage.Attribute) tokens ≡ Ok (to s stage.Item)
attribute_goes text i s [] no_field is = absurd (cc is)
attribute_goes text i s (token ∷ tokens) no_field is =
    let nothing_read = none_of (field_of text token) no_field in
    rw nothing_read (balanced_goes text i s 0 (token ∷ tokens) is)

other_field : (first second : Bool) → first ≡ true → (first && second) ≡ false → second ≡ false
other_field true second is both = both
other_field false second is both = absurd (cc is)

other_goes : (text : List ℕ) (i : ℕ) (s : Seen) (word : Token) (rest : List Token) → IsOther text word rest → gone text i (to s stage.Item) (word ∷ rest) ≡ Ok (to s stage.Item)
other_goes text i s word rest is = elim (cases_Bool (is_word text word (codes "ATTRIBUTE"))) [
  | inl yes_attribute ↦ rw (is.no_end, yes_attribute) (attribute_goes text (suc i) s rest (other_field (is_word text word (codes "ATTRIBUTE")) (starts_field text rest) yes_attribute is.no_field) is.is_balanced)
  | inr other ↦ rw (is.no_end, other, is.begins) (balanced_goes text (suc i) s 0 rest is.is_balanced)
]

-- ---- an item that is read

value_there : (values : Values) (field : Field) (value : Value) → value_of (with_value values field value) field ≡ Some value
value_there values InstructionLength value = refl
value_there values InstructionOpcode value = refl
value_there values InstructionCapture value = refl
value_there values IdcodeRegister value = refl
value_there values UsercodeRegister value = refl
value_there values RegisterAccess value = refl
value_there values BoundaryLength value = refl

value_again : (values : Values) (field : Field) (old new : Value) → with_value (with_value values field old) field new ≡ with_value values field new
value_again values InstructionLength old new = refl
value_again values InstructionOpcode old new = refl
value_again values InstructionCapture old new = refl
value_again values IdcodeRegister old new = refl
value_again values UsercodeRegister old new = refl
value_again values RegisterAccess old new = refl
value_again values BoundaryLength old new = refl

-- at so many tokens of a VALUE
abbrev reading : Seen → Stage → Values → Field → ℕ → ℕ → ℕ → Seen
reading s next values field at first behind = record s { stage = next; values = with_value values field (record { at = at; first = first; behind = behind }) }

longer : (s : Seen) (values : Values) (field : Field) (at first behind more : ℕ) → record s { stage = stage.Joined field; values = with_value (with_value values field (record { at = at; first = first; behind = behind })) field (extended (value_of (with_value values field (record { at = at; first = first; behind = behind })) field) more) } ≡ reading s (stage.Joined field) values field at first more
longer s values field at first behind more = rw (value_there values field (record { at = at; first = first; behind = behind })) (ap (λ (v : Values). record s { stage = stage.Joined field; values = v }) (value_again values field (record { at = at; first = first; behind = behind }) (record { at = at; first = first; behind = more })))

last_goes : (text : List ℕ) (i : ℕ) (s : Seen) (values : Values) (field : Field) (at first : ℕ) (token : Token) (tokens : List Token) → ends tokens ≡ true
    → gone text (suc i) (reading s stage.Item values field at first i) tokens ≡ Ok (reading s stage.Item values field at first (i + (length (token ∷ tokens) - 1)))
last_goes text i s values field at first token [] is = let n : i ≡ i + (length (token ∷ []) - 1) = omega arith in ap (λ k. Ok (reading s stage.Item values field at first k)) n
last_goes text i s values field at first token (next ∷ tokens) is = absurd (cc is)

some_value : (text : List ℕ) (field : Field) (tokens : List Token) → is_value text field false tokens ≡ true → 0 < length tokens
some_value text field [] is = absurd (cc is)
some_value text field (token ∷ tokens) is = omega arith

due_goes : (text : List ℕ) (i : ℕ) (s : Seen) (values : Values) (field : Field) (at first behind : ℕ) (token : Token) (tokens : List Token) (out : Result Seen Fault) → is_kind token.kind (value_kind field) ≡ true
    → gone text (suc i) (reading s (stage.Joined field) values field at first (i + 1)) tokens ≡ out → gone text i (reading s (stage.Part field) values field at first behind) (token ∷ tokens) ≡ out
due_goes text i s values field at first behind token tokens out kind is =
    let l = longer s values field at first behind (i + 1) in
    rw kind (ap (λ (x : Seen). gone text (suc i) x tokens) l ∙ is)

pub joined_goes : (text : List ℕ) (i : ℕ) (s : Seen) (values : Values) (field : Field) (at first : ℕ) (tokens : List Token) → is_value text field false tokens ≡ true
    → gone text i (reading s (stage.Joined field) values field at first i) tokens ≡ Ok (reading s stage.Item values field at first (i + (length tokens - 1)))
joined_goes text i s values field at first [] is = absurd (cc is)
joined_goes text i s values field at first (token ∷ []) is = elim (chosen (is_sign text token 38 && is_kind (value_kind field) Text) _ _ _ is) [
  | inl more ↦ absurd (cc more.1)
  | inr last ↦
      let both = and_parts (is_sign text token 59) true last.1 in
      rw (last.0, both.0) (last_goes text i s values field at first token [] refl)
]
joined_goes text i s values field at first (token ∷ next ∷ tokens) is = elim (chosen (is_sign text token 38 && is_kind (value_kind field) Text) _ _ _ is) [
  | inl more ↦
      let both = and_parts (is_kind next.kind (value_kind field)) (is_value text field false tokens) more.1 in
      let n : suc i + 1 ≡ suc (suc i) = omega arith in
      let m : suc (suc i) + (length tokens - 1) ≡ i + (length (token ∷ next ∷ tokens) - 1) = omega (arith, some_value text field tokens both.1) in
      let far = joined_goes text (suc (suc i)) s values field at first tokens both.1 in
      let here : gone text (suc (suc i)) (reading s (stage.Joined field) values field at first (suc i + 1)) tokens ≡ Ok (reading s stage.Item values field at first (i + (length (token ∷ next ∷ tokens) - 1)))
      = ap (λ k. gone text (suc (suc i)) (reading s (stage.Joined field) values field at first k) tokens) n ∙ far ∙ ap (λ k. Ok (reading s stage.Item values field at first k)) m in
      rw more.0 (due_goes text (suc i) s values field at first i next tokens _ both.0 here)
  | inr last ↦
      let both = and_parts (is_sign text token 59) false last.1 in
      absurd (cc both.1)
]

pub first_goes : (text : List ℕ) (i : ℕ) (s : Seen) (field : Field) (tokens : List Token) → is_value text field true tokens ≡ true → gone text i (to s (stage.First field)) tokens ≡ Ok (record s { stage = stage.Item; values = with_value s.values field (value_at i tokens) })
first_goes text i s field [] is = absurd (cc is)
first_goes text i s field (token ∷ tokens) is =
    let both = and_parts (is_kind token.kind (value_kind field)) (is_value text field false tokens) is in
    let n : i + 1 ≡ suc i = omega arith in
    let m : suc i + (length tokens - 1) ≡ i + (length (token ∷ tokens) - 1) = omega (arith, some_value text field tokens both.1) in
    let far = joined_goes text (suc i) s s.values field token.start i tokens both.1 in
    rw both.0 (ap (λ k. gone text (suc i) (reading s (stage.Joined field) s.values field token.start i k) tokens) n ∙ far ∙ ap (λ k. Ok (reading s stage.Item s.values field token.start i k)) m)

reading_goes : (text : List ℕ) (i : ℕ) (s : Seen) (field : Field) (head : Head) (value : List Token) → IsHead text s.name field head → is_none (value_of s.values field) ≡ true → is_value text field true value ≡ true
    → gone text i (to s stage.Item) (written_item (Item.Reading field head value)) ≡ Ok (record s { stage = stage.Item; values = with_value s.values field (value_at (i + 7) value) })
reading_goes text i s field head value is new well =
    let n : suc (suc (suc (suc (suc (suc (suc i)))))) ≡ i + 7 = omega arith in
    let f = first_goes text (suc (suc (suc (suc (suc (suc (suc i))))))) s field value well in
    rw (is.no_end, is.is_attribute, is.is_field, new, is.is_of, is.is_owner, is.is_colon, is.is_entity, is.is_is) (f ∙ ap (λ k. Ok (record s { stage = stage.Item; values = with_value s.values field (value_at k value) })) n)

pub item_goes : (text : List ℕ) (i : ℕ) (s : Seen) (item : Item) → IsItem text s.name item → IsNew s.values item → gone text i (to s stage.Item) (written_item item) ≡ Ok (record s { stage = stage.Item; values = values_with i s.values item })
item_goes text i s (Item.Other word rest) is new = other_goes text i s word rest is
item_goes text i s (Item.Reading field head value) is new = reading_goes text i s field head value is.0 new is.1

-- `end NAME ;`
pub record IsClose (text : List ℕ) (name close owner last : Token) : Type 0 where
  pub is_end : is_word text close (codes "END") ≡ true
  pub is_owner : is_word text owner (spelled text name) ≡ true
  pub is_last : is_sign text last 59 ≡ true

items_go : (text : List ℕ) (i : ℕ) (s : Seen) (items : List Item) (close owner last : Token) → AreItems text s.name i s.values items → IsClose text s.name close owner last
    → gone text i (to s stage.Item) (written items (close ∷ owner ∷ last ∷ [])) ≡ Ok (record s { stage = stage.Done; end = close.start; values = values_after i s.values items })
items_go text i s [] close owner last are closing = rw (closing.is_end, closing.is_owner, closing.is_last) refl
items_go text i s (item ∷ items) close owner last are closing =
    let one = item_goes text i s item are.0 are.1 in
    let after : Seen = record s { stage = stage.Item; values = values_with i s.values item } in
    gone_to text i (to s stage.Item) after (written_item item) (written items (close ∷ owner ∷ last ∷ [])) one ∙ items_go text (i + length (written_item item)) after items close owner last are.2 closing

pub whole_file : (text : List ℕ) (entity name verb : Token) (items : List Item) (close owner last : Token) → is_word text entity (codes "ENTITY") ≡ true → is_kind name.kind Word ≡ true → is_word text verb (codes "IS") ≡ true
    → AreItems text name 3 nothing.values items → IsClose text name close owner last
    → gone text 0 nothing (entity ∷ name ∷ verb ∷ written items (close ∷ owner ∷ last ∷ [])) ≡ Ok (record { stage = stage.Done; name = name; end = close.start; values = values_after 3 nothing.values items })
whole_file text entity name verb items close owner last is_entity is_name is_is are closing =
    let s : Seen = record nothing { stage = stage.Item; name = name } in
    rw (is_entity, is_name, is_is) (items_go text 3 s items close owner last are closing)

ended_well : (text : List ℕ) (seen : Seen) (name : Token) (end : ℕ) (values : Values) → seen ≡ record { stage = stage.Done; name = name; end = end; values = values } → is_whole seen.values ≡ true
    → finished text (record { stage = stage.Done; name = name; end = end; values = values }) ≡ Ok seen
ended_well text seen name end values found whole =
    let w : is_whole values ≡ true = ap (λ (x : Seen). is_whole x.values) (sym found) ∙ whole in
    rw w (ap (λ (x : Seen). Ok x) (sym found))

-- a file is read
pub file_goes : (text : List ℕ) (tokens : List Token) (seen : Seen) → IsFile text tokens seen → structure text tokens ≡ Ok seen
file_goes text tokens seen f =
    let g = whole_file text f.entity f.name f.verb f.items f.close f.owner f.last f.is_entity f.is_name f.is_is f.are_items (record { is_end = f.is_end; is_owner = f.is_owner; is_last = f.is_last }) in
    ap (structure text) f.are ∙ ap (λ r. and_then r (finished text)) g ∙ ended_well text seen f.name f.close.start (values_after 3 nothing.values f.items) f.found f.is_whole
