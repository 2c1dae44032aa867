-- A front of a file is read through the stages, and each further token either makes a longer front or is refused.
use Rattle.std.proofs.Common.{◌≡◌, ℕ, suc, ◌+◌, ◌-◌, ◌==◌, ◌&&◌, not, Bool, true, false, inl, inr, length, List, [], ◌∷◌, ◌++◌, Result, Ok, Err, refl, sym, ap, ◌∙◌, arith, codes, append_assoc}
use Rattle.std.specs.Option.{is_none, is_some}
use Rattle.std.specs.declared.option.Option.{Option}
use Rattle.std.specs.declared.option.Option.TheVariants.{Some, None}
use Rattle.std.proofs.lemmas.List.{append-nil}
use Rattle.std.proofs.lemmas.Bool.{and_parts, cases_Bool}
use Rattle.bsdl_lex.specs.declared.Token.{Token}
use Rattle.bsdl_lex.specs.declared.TokenKind.TheVariants.{Word, Text}
use Rattle.part_model.specs.declared.Field.{Field}
use Rattle.bsdl_read.specs.declared.structure.Seen.{Seen}
use Rattle.bsdl_read.specs.declared.structure.Stage.{Stage}
use Rattle.bsdl_read.specs.declared.structure.Stage.TheVariants as stage
use Rattle.bsdl_read.specs.declared.structure.Value.{Value}
use Rattle.bsdl_read.specs.declared.structure.Values.{Values}
use Rattle.bsdl_read.specs.declared.structure.Fault.{Fault}
use Rattle.bsdl_read.specs.Words.{is_word, is_sign, is_kind, value_kind, spelled, field_of}
use Rattle.bsdl_read.specs.Structure.{gone, next, next_from, go, to, item, attribute, passed, part, value_of, with_value, extended, nothing, is_done}
use Rattle.bsdl_read.specs.Grammar.{balanced, is_value, Item, written_item, starts_field, IsItem, IsNew, values_with, AreItems, values_after, written}
use Rattle.bsdl_read.specs.Fronts.{fits, head_words, unclosed, is_value_front, Part, written_part, may_start_field, IsOtherFront, IsAttributeWord, IsReadingFront, IsEndFront, IsPart, Front, written_front, IsBody, IsFront, is_finished_part, is_finished}
use Rattle.bsdl_read.specs.Refusals.{part_cause, cause_behind}
use Rattle.bsdl_read.proofs.Forms.{chosen}
use Rattle.bsdl_read.proofs.Filing.{gone_to, item_goes, none_of}
use Rattle.bsdl_read.proofs.Parting.{word_kind}

-- ---- parts that go on

record OnUnclosed (text : List ℕ) (depth : ℕ) (tokens : List Token) : Type 0 where
  now : ℕ
  more : (rest : List Token) → unclosed text depth (tokens ++ rest) ≡ unclosed text now rest
  whole : (rest : List Token) → balanced text depth (tokens ++ rest) ≡ balanced text now rest
  goes : (i : ℕ) (s : Seen) → gone text i (to s (stage.Passed depth)) tokens ≡ Ok (to s (stage.Passed now))

on_closing : (text : List ℕ) (depth : ℕ) (token : Token) (tokens : List Token) → is_sign text token 40 ≡ false → is_sign text token 41 ≡ true → not (depth == 0) ≡ true → OnUnclosed text (depth - 1) tokens → OnUnclosed text depth (token ∷ tokens)
on_closing text depth token tokens b c d on = record { now = on.now; more = λ rest. rw (b, c, d) (on.more rest); whole = λ rest. rw (b, c, d) (on.whole rest); goes = λ i s. rw (b, c, d) (on.goes (suc i) s) }

on_unclosed : (text : List ℕ) (depth : ℕ) (tokens : List Token) → unclosed text depth tokens ≡ true → OnUnclosed text depth tokens
on_unclosed text depth [] is = record { now = depth; more = λ rest. refl; whole = λ rest. refl; goes = λ i s. refl }
on_unclosed text depth (token ∷ tokens) is = elim (chosen (is_sign text token 40) _ _ _ is) [
  | inl a ↦
      let on = on_unclosed text (depth + 1) tokens a.1 in
      record { now = on.now; more = λ rest. rw a.0 (on.more rest); whole = λ rest. rw a.0 (on.whole rest); goes = λ i s. rw a.0 (on.goes (suc i) s) }
  | inr b ↦ elim (chosen (is_sign text token 41) _ _ _ b.1) [
    | inl c ↦
        let both = and_parts (not (depth == 0)) (unclosed text (depth - 1) tokens) c.1 in
        on_closing text depth token tokens b.0 c.0 both.0 (on_unclosed text (depth - 1) tokens both.1)
    | inr d ↦ elim (chosen (is_sign text token 59 && (depth == 0)) _ _ _ d.1) [
      | inl e ↦ absurd (cc e.1)
      | inr f ↦
          let on = on_unclosed text depth tokens f.1 in
          record { now = on.now; more = λ rest. rw (b.0, d.0, f.0) (on.more rest); whole = λ rest. rw (b.0, d.0, f.0) (on.whole rest); goes = λ i s. rw (b.0, d.0, f.0) (on.goes (suc i) s) }
    ]
  ]
]

-- behind a part of a VALUE, or behind the sign that joins the next
abbrev waiting : Field → Bool → Stage
waiting field true = stage.Part field
waiting field false = stage.Joined field

record OnValue (text : List ℕ) (field : Field) (due : Bool) (tokens : List Token) : Type 0 where
  now : Bool
  more : (rest : List Token) → is_value_front text field due (tokens ++ rest) ≡ is_value_front text field now rest
  whole : (rest : List Token) → is_value text field due (tokens ++ rest) ≡ is_value text field now rest
  goes : (i : ℕ) (s : Seen) → (out : Seen) × (gone text i (to s (waiting field due)) tokens ≡ Ok (to out (waiting field now)))

on_due : (text : List ℕ) (field : Field) (token : Token) (tokens : List Token) → is_kind token.kind (value_kind field) ≡ true → OnValue text field false tokens → OnValue text field true (token ∷ tokens)
on_due text field token tokens kind on = record {
  now = on.now;
  more = λ rest. rw kind (on.more rest);
  whole = λ rest. rw kind (on.whole rest);
  goes = λ i s. (let r = on.goes (suc i) (record s { values = with_value s.values field (extended (value_of s.values field) (i + 1)) }) in (r.0, rw kind r.1));
}

on_joining : (text : List ℕ) (field : Field) (token : Token) (tokens : List Token) → (is_sign text token 38 && is_kind (value_kind field) Text) ≡ true → OnValue text field true tokens → OnValue text field false (token ∷ tokens)
on_joining text field token tokens joins on = record {
  now = on.now;
  more = λ rest. rw joins (on.more rest);
  whole = λ rest. rw joins (on.whole rest);
  goes = λ i s. (let r = on.goes (suc i) s in (r.0, rw joins r.1));
}

on_value : (text : List ℕ) (field : Field) (due : Bool) (tokens : List Token) → is_value_front text field due tokens ≡ true → OnValue text field due tokens
on_value text field due [] is = record { now = due; more = λ rest. refl; whole = λ rest. refl; goes = λ i s. (s, refl) }
on_value text field true (token ∷ tokens) is =
    let both = and_parts (is_kind token.kind (value_kind field)) (is_value_front text field false tokens) is in
    on_due text field token tokens both.0 (on_value text field false tokens both.1)
on_value text field false (token ∷ tokens) is =
    let both = and_parts (is_sign text token 38 && is_kind (value_kind field) Text) (is_value_front text field true tokens) is in
    on_joining text field token tokens both.0 (on_value text field true tokens both.1)

-- ---- one token more

pub record Grown (text : List ℕ) (front : Front) (token : Token) : Type 0 where
  pub longer : Front
  pub is_longer : IsFront text longer
  pub are : written_front longer ≡ written_front front ++ token ∷ []

-- what the next row answers: the front grows by the token, or the token is refused for its cause
abbrev pub Turn : List ℕ → Front → Token → Result Seen Fault → Type 0
Turn text front token (Ok after) = Grown text front token
Turn text front token (Err fault) = fault ≡ record { at = token.start; cause = cause_behind text front token }

decide : (text : List ℕ) (front : Front) (token : Token) (test : Bool) (cause : ℕ) (x : Seen) → (test ≡ false → cause ≡ cause_behind text front token) → (test ≡ true → Grown text front token) → Turn text front token (go test cause token x)
decide text front token true cause x why grown = grown refl
decide text front token false cause x why grown = ap (λ (c : ℕ). record { at = token.start; cause = c }) (why refl)

written_on : (items : List Item) (part more : List Token) → written items (part ++ more) ≡ written items part ++ more
written_on [] part more = refl
written_on (item ∷ items) part more = ap (λ (ts : List Token). written_item item ++ ts) (written_on items part more) ∙ sym (append_assoc (written_item item) (written items part) more)

written_snoc : (items : List Item) (item : Item) → written (items ++ item ∷ []) [] ≡ written items (written_item item)
written_snoc [] item = append-nil (written_item item)
written_snoc (first ∷ items) item = ap (λ (ts : List Token). written_item first ++ ts) (written_snoc items item)

items_snoc : (text : List ℕ) (name : Token) (index : ℕ) (values : Values) (items : List Item) (item : Item) → AreItems text name index values items → IsItem text name item → IsNew (values_after index values items) item → AreItems text name index values (items ++ item ∷ [])
items_snoc text name index values [] item are is new = (is, new, tt)
items_snoc text name index values (first ∷ items) item are is new = (are.0, are.1, items_snoc text name (index + length (written_item first)) (values_with index values first) items item are.2 is new)

abbrev found : List Item → Values
found items = values_after 3 nothing.values items

grown_part : (text : List ℕ) (entity name verb : Token) (items : List Item) (part longer : Part) (token : Token) → IsBody text entity name verb items → IsPart text name (found items) longer → written_part longer ≡ written_part part ++ token ∷ [] → Grown text (Front.Body entity name verb items part) token
grown_part text entity name verb items part longer token body is are = record {
  longer = Front.Body entity name verb items longer;
  is_longer = (body, is);
  are = ap (λ (ts : List Token). entity ∷ name ∷ verb ∷ ts) (ap (λ (ts : List Token). written items ts) are ∙ written_on items (written_part part) (token ∷ []));
}

grown_item : (text : List ℕ) (entity name verb : Token) (items : List Item) (part : Part) (item : Item) (token : Token) → IsBody text entity name verb items → IsItem text name item → IsNew (found items) item → written_item item ≡ written_part part ++ token ∷ [] → Grown text (Front.Body entity name verb items part) token
grown_item text entity name verb items part item token body is new are = record {
  longer = Front.Body entity name verb (items ++ item ∷ []) Part.Between;
  is_longer = (record { is_entity = body.is_entity; is_name = body.is_name; is_is = body.is_is; are_items = items_snoc text name 3 nothing.values items item body.are_items is new }, tt);
  are = ap (λ (ts : List Token). entity ∷ name ∷ verb ∷ ts) (written_snoc items item ∙ ap (λ (ts : List Token). written items ts) are ∙ written_on items (written_part part) (token ∷ []));
}

-- ---- behind whole items

-- the end and the VALUEs of a finished front
abbrev pub ClosedPart : List Item → Part → Seen → Type 0
ClosedPart items (Part.End word rest) out = (out.end ≡ word.start) × (out.values ≡ found items)
ClosedPart items _ out = Unit {0}

abbrev pub Closed : Front → Seen → Type 0
Closed (Front.Start tokens) out = Unit {0}
Closed (Front.Body entity name verb items part) out = ClosedPart items part out

-- where whole items lead
abbrev base : Token → List Item → Seen
base name items = record nothing { stage = stage.Item; name = name; values = found items }

record PartLead (text : List ℕ) (entity name verb : Token) (items : List Item) (part : Part) (j : ℕ) : Type 0 where
  out : Seen
  goes : gone text j (base name items) (written_part part) ≡ Ok out
  turns : (token : Token) (i : ℕ) → Turn text (Front.Body entity name verb items part) token (next text out token i)
  done : is_done out.stage ≡ is_finished_part part
  closed : ClosedPart items part out

item_turn : (text : List ℕ) (entity name verb : Token) (items : List Item) (token : Token) → IsBody text entity name verb items → Turn text (Front.Body entity name verb items Part.Between) token (item text token (base name items))
item_turn text entity name verb items token body = elim (cases_Bool (is_word text token (codes "END"))) [
  | inl a ↦ rw a (grown_part text entity name verb items Part.Between (Part.End token []) token body (record { is_end = a; is_rest = refl }) refl)
  | inr b ↦ elim (cases_Bool (is_word text token (codes "ATTRIBUTE"))) [
    | inl c ↦ rw (b, c) (grown_part text entity name verb items Part.Between (Part.Attribute token) token body (record { is_attribute = c; no_end = b }) refl)
    | inr d ↦ rw (b, d) (decide text (Front.Body entity name verb items Part.Between) token (is_kind token.kind Word) 5 (to (base name items) (stage.Passed 0)) (λ f. refl)
        (λ t. grown_part text entity name verb items Part.Between (Part.Other token []) token body (record { begins = t; no_end = b; no_field = rw d refl; is_unclosed = refl }) refl))
  ]
]

-- `end NAME ;`
end_lead : (text : List ℕ) (entity name verb : Token) (items : List Item) (word : Token) (rest : List Token) (j : ℕ) → IsBody text entity name verb items → IsEndFront text name word rest → PartLead text entity name verb items (Part.End word rest) j
end_lead text entity name verb items word [] j body is = record {
  out = record (base name items) { stage = stage.EndName; end = word.start };
  goes = rw is.is_end refl;
  turns = λ token i. decide text (Front.Body entity name verb items (Part.End word [])) token (is_word text token (spelled text name)) 5 (record (base name items) { stage = stage.EndSign; end = word.start }) (λ f. refl)
      (λ t. grown_part text entity name verb items (Part.End word []) (Part.End word (token ∷ [])) token body (record { is_end = is.is_end; is_rest = rw t refl }) refl);
  done = refl;
  closed = (refl, refl);
}
end_lead text entity name verb items word (a ∷ []) j body is =
    let both = and_parts (is_word text a (spelled text name)) true is.is_rest in
    record {
      out = record (base name items) { stage = stage.EndSign; end = word.start };
      goes = rw (is.is_end, both.0) refl;
      turns = λ token i. decide text (Front.Body entity name verb items (Part.End word (a ∷ []))) token (is_sign text token 59) 5 (record (base name items) { stage = stage.Done; end = word.start }) (λ f. refl)
          (λ t. grown_part text entity name verb items (Part.End word (a ∷ [])) (Part.End word (a ∷ token ∷ [])) token body (record { is_end = is.is_end; is_rest = rw (both.0, t) refl }) refl);
      done = refl;
      closed = (refl, refl);
    }
end_lead text entity name verb items word (a ∷ b ∷ []) j body is =
    let first = and_parts (is_word text a (spelled text name)) (is_sign text b 59 && true) is.is_rest in
    let second = and_parts (is_sign text b 59) true first.1 in
    record {
      out = record (base name items) { stage = stage.Done; end = word.start };
      goes = rw (is.is_end, first.0, second.0) refl;
      turns = λ token i. refl;
      done = refl;
      closed = (refl, refl);
    }
end_lead text entity name verb items word (a ∷ b ∷ c ∷ rest) j body is =
    let first = and_parts (is_word text a (spelled text name)) (is_sign text b 59 && false) is.is_rest in
    let second = and_parts (is_sign text b 59) false first.1 in
    absurd (cc second.1)

-- ---- an item that is passed over

same_start : (text : List ℕ) (rest : List Token) (token : Token) → starts_field text (rest ++ token ∷ []) ≡ may_start_field text (rest ++ token ∷ [])
same_start text [] token = refl
same_start text (first ∷ rest) token = refl

still_other : (text : List ℕ) (yes : Bool) (rest : List Token) (token : Token) → (yes && may_start_field text rest) ≡ false → (yes && starts_field text (rest ++ token ∷ [])) ≡ false
still_other text false rest token is = refl
still_other text true [] token is = absurd (cc is)
still_other text true (first ∷ rest) token is = is

passed_turn : (text : List ℕ) (entity name verb : Token) (items : List Item) (before : Part) (word : Token) (rest : List Token) (token : Token) (depth : ℕ) (s : Seen) → IsBody text entity name verb items
    → 5 ≡ part_cause text (found items) before token → written_part before ≡ word ∷ rest → is_kind word.kind Word ≡ true → is_word text word (codes "END") ≡ false
    → (is_word text word (codes "ATTRIBUTE") && starts_field text (rest ++ token ∷ [])) ≡ false
    → unclosed text 0 (rest ++ token ∷ []) ≡ unclosed text depth (token ∷ []) → balanced text 0 (rest ++ token ∷ []) ≡ balanced text depth (token ∷ [])
    → Turn text (Front.Body entity name verb items before) token (passed text token s depth)
passed_turn text entity name verb items before word rest token depth s body five are begins no_end no_field more whole = elim (cases_Bool (is_sign text token 40)) [
  | inl a ↦ rw a (on (rw a refl))
  | inr b ↦ elim (cases_Bool (is_sign text token 41)) [
    | inl c ↦ rw (b, c) (decide text (Front.Body entity name verb items before) token (not (depth == 0)) 5 (to s (stage.Passed (depth - 1))) (λ f. five) (λ t. on (rw (b, c, t) refl)))
    | inr d ↦ elim (cases_Bool (is_sign text token 59 && (depth == 0))) [
      | inl e ↦ rw (b, d, e) (grown_item text entity name verb items before (Item.Other word (rest ++ token ∷ [])) token body
          (record { begins = begins; no_end = no_end; no_field = no_field; is_balanced = whole ∙ closes b d e }) tt (ap (λ (ts : List Token). ts ++ token ∷ []) (sym are)))
      | inr f ↦ rw (b, d, f) (on (rw (b, d, f) refl))
    ]
  ]
]
  where
    closes : is_sign text token 40 ≡ false → is_sign text token 41 ≡ false → (is_sign text token 59 && (depth == 0)) ≡ true → balanced text depth (token ∷ []) ≡ true
    closes b d e = rw (b, d, e) refl

    on : unclosed text depth (token ∷ []) ≡ true → Grown text (Front.Body entity name verb items before) token
    on t = grown_part text entity name verb items before (Part.Other word (rest ++ token ∷ [])) token body
        (record { begins = begins; no_end = no_end; no_field = ap (λ (b : Bool). is_word text word (codes "ATTRIBUTE") && b) (sym (same_start text rest token)) ∙ no_field; is_unclosed = more ∙ t }) (ap (λ (ts : List Token). ts ++ token ∷ []) (sym are))

other_goes : (text : List ℕ) (s : Seen) (word : Token) (rest : List Token) (j : ℕ) (yes : Bool) → is_word text word (codes "ATTRIBUTE") ≡ yes → is_kind word.kind Word ≡ true → is_word text word (codes "END") ≡ false → (yes && may_start_field text rest) ≡ false
    → gone text j (to s stage.Item) (word ∷ rest) ≡ gone text (suc j) (to s (stage.Passed 0)) rest
other_goes text s word rest j false other begins no_end no_field = rw (no_end, other, begins) refl
other_goes text s word [] j true is begins no_end no_field = absurd (cc no_field)
other_goes text s word (token ∷ rest) j true is begins no_end no_field = let no_name = none_of (field_of text token) no_field in rw (no_end, is, no_name) refl

other_lead : (text : List ℕ) (entity name verb : Token) (items : List Item) (word : Token) (rest : List Token) (j : ℕ) → IsBody text entity name verb items → IsOtherFront text word rest → PartLead text entity name verb items (Part.Other word rest) j
other_lead text entity name verb items word rest j body is =
    let on = on_unclosed text 0 rest is.is_unclosed in
    record {
      out = to (base name items) (stage.Passed on.now);
      goes = other_goes text (base name items) word rest j (is_word text word (codes "ATTRIBUTE")) refl is.begins is.no_end is.no_field ∙ on.goes (suc j) (base name items);
      turns = λ token i. passed_turn text entity name verb items (Part.Other word rest) word rest token on.now (to (base name items) (stage.Passed on.now)) body refl refl is.begins is.no_end
          (still_other text (is_word text word (codes "ATTRIBUTE")) rest token is.no_field) (on.more (token ∷ [])) (on.whole (token ∷ []));
      done = refl;
      closed = tt;
    }

-- ---- behind `attribute`

some_value : (o : Option Value) → is_none o ≡ false → is_some o ≡ true
some_value None is = absurd (cc is)
some_value (Some value) is = refl

attribute_turn : (text : List ℕ) (entity name verb : Token) (items : List Item) (word token : Token) (o : Option Field) → IsBody text entity name verb items → IsAttributeWord text word → field_of text token ≡ o
    → Turn text (Front.Body entity name verb items (Part.Attribute word)) token (attribute text token (to (base name items) stage.Attribute) o)
attribute_turn text entity name verb items word token None body is field =
    passed_turn text entity name verb items (Part.Attribute word) word [] token 0 (to (base name items) stage.Attribute) body (rw field refl) refl (word_kind text word (codes "ATTRIBUTE") is.is_attribute) is.no_end (rw (is.is_attribute, field) refl) refl refl
attribute_turn text entity name verb items word token (Some met) body is field =
    decide text (Front.Body entity name verb items (Part.Attribute word)) token (is_none (value_of (found items) met)) 7 (to (base name items) (stage.Of met)) (λ f. (let s = some_value (value_of (found items) met) f in rw (field, s) refl))
    (λ t. grown_part text entity name verb items (Part.Attribute word) (Part.Reading met word token []) token body (record { begins = is; is_field = field; is_new = t; is_rest = refl }) refl)

-- ---- an item that is read

record ReadLead (text : List ℕ) (entity name verb : Token) (items : List Item) (field : Field) (word label : Token) (rest : List Token) (j : ℕ) : Type 0 where
  out : Seen
  goes : gone text j (to (base name items) (stage.Of field)) rest ≡ Ok out
  turns : (token : Token) (i : ℕ) → Turn text (Front.Body entity name verb items (Part.Reading field word label rest)) token (next text out token i)
  done : is_done out.stage ≡ false

read_on : (text : List ℕ) (entity name verb : Token) (items : List Item) (field : Field) (word label token : Token) (rest : List Token) → IsBody text entity name verb items → IsReadingFront text name (found items) field word label rest
    → fits (head_words text name) (is_value_front text field true) (rest ++ token ∷ []) ≡ true → Grown text (Front.Body entity name verb items (Part.Reading field word label rest)) token
read_on text entity name verb items field word label token rest body is fit =
    grown_part text entity name verb items (Part.Reading field word label rest) (Part.Reading field word label (rest ++ token ∷ [])) token body (record { begins = is.begins; is_field = is.is_field; is_new = is.is_new; is_rest = fit }) refl

-- the head is whole
record HeadParts (text : List ℕ) (name : Token) (field : Field) (p o c k v : Token) (value : List Token) : Type 0 where
  is_of : is_word text p (codes "OF") ≡ true
  is_owner : is_word text o (spelled text name) ≡ true
  is_colon : is_sign text c 58 ≡ true
  is_entity : is_word text k (codes "ENTITY") ≡ true
  is_is : is_word text v (codes "IS") ≡ true
  is_front : is_value_front text field true value ≡ true

head_parts : (text : List ℕ) (name : Token) (field : Field) (p o c k v : Token) (value : List Token) → fits (head_words text name) (is_value_front text field true) (p ∷ o ∷ c ∷ k ∷ v ∷ value) ≡ true → HeadParts text name field p o c k v value
head_parts text name field p o c k v value is =
    let e1 = and_parts (is_word text p (codes "OF")) _ is in
    let e2 = and_parts (is_word text o (spelled text name)) _ e1.1 in
    let e3 = and_parts (is_sign text c 58) _ e2.1 in
    let e4 = and_parts (is_word text k (codes "ENTITY")) _ e3.1 in
    let e5 = and_parts (is_word text v (codes "IS")) _ e4.1 in
    record { is_of = e1.0; is_owner = e2.0; is_colon = e3.0; is_entity = e4.0; is_is = e5.0; is_front = e5.1 }

head_fits : (text : List ℕ) (name : Token) (field : Field) (p o c k v : Token) (value more : List Token) → HeadParts text name field p o c k v value → is_value_front text field true more ≡ true → fits (head_words text name) (is_value_front text field true) (p ∷ o ∷ c ∷ k ∷ v ∷ more) ≡ true
head_fits text name field p o c k v value more h is = rw (h.is_of, h.is_owner, h.is_colon, h.is_entity, h.is_is) is

value_turn : (text : List ℕ) (entity name verb : Token) (items : List Item) (field : Field) (word label p o c k v token first : Token) (value : List Token) (s : Seen) (i : ℕ) (now : Bool) → IsBody text entity name verb items
    → IsReadingFront text name (found items) field word label (p ∷ o ∷ c ∷ k ∷ v ∷ first ∷ value) → HeadParts text name field p o c k v (first ∷ value) → is_kind first.kind (value_kind field) ≡ true
    → is_value_front text field false (value ++ token ∷ []) ≡ is_value_front text field now (token ∷ []) → is_value text field false (value ++ token ∷ []) ≡ is_value text field now (token ∷ [])
    → Turn text (Front.Body entity name verb items (Part.Reading field word label (p ∷ o ∷ c ∷ k ∷ v ∷ first ∷ value))) token (next_from (waiting field now) text token i s)
value_turn text entity name verb items field word label p o c k v token first value s i true body is h kind more whole =
    decide text (Front.Body entity name verb items (Part.Reading field word label (p ∷ o ∷ c ∷ k ∷ v ∷ first ∷ value))) token (is_kind token.kind (value_kind field)) 8 (record s { stage = stage.Joined field; values = with_value s.values field (extended (value_of s.values field) (i + 1)) }) (λ f. refl)
    (λ t. read_on text entity name verb items field word label token (p ∷ o ∷ c ∷ k ∷ v ∷ first ∷ value) body is (head_fits text name field p o c k v (first ∷ value) (first ∷ value ++ token ∷ []) h (rw kind (more ∙ rw t refl))))
value_turn text entity name verb items field word label p o c k v token first value s i false body is h kind more whole = elim (cases_Bool (is_sign text token 38 && is_kind (value_kind field) Text)) [
  | inl a ↦ rw a (read_on text entity name verb items field word label token (p ∷ o ∷ c ∷ k ∷ v ∷ first ∷ value) body is (head_fits text name field p o c k v (first ∷ value) (first ∷ value ++ token ∷ []) h (rw kind (more ∙ joins a))))
  | inr b ↦ rw b (decide text (Front.Body entity name verb items (Part.Reading field word label (p ∷ o ∷ c ∷ k ∷ v ∷ first ∷ value))) token (is_sign text token 59) 8 (to s stage.Item) (λ f. refl)
      (λ t. grown_item text entity name verb items (Part.Reading field word label (p ∷ o ∷ c ∷ k ∷ v ∷ first ∷ value))
      (Item.Reading field (record { attribute = word; name = label; preposition = p; owner = o; colon = c; kind = k; verb = v }) (first ∷ value ++ token ∷ [])) token body
      (record { is_attribute = is.begins.is_attribute; no_end = is.begins.no_end; is_field = is.is_field; is_of = h.is_of; is_owner = h.is_owner; is_colon = h.is_colon; is_entity = h.is_entity; is_is = h.is_is }, rw kind (whole ∙ closes b t)) is.is_new refl))
]
  where
    joins : (is_sign text token 38 && is_kind (value_kind field) Text) ≡ true → is_value_front text field false (token ∷ []) ≡ true
    joins a = rw a refl

    closes : (is_sign text token 38 && is_kind (value_kind field) Text) ≡ false → is_sign text token 59 ≡ true → is_value text field false (token ∷ []) ≡ true
    closes b t = rw (b, t) refl

undone : (field : Field) (now : Bool) → is_done (waiting field now) ≡ false
undone field true = refl
undone field false = refl

value_lead : (text : List ℕ) (entity name verb : Token) (items : List Item) (field : Field) (word label p o c k v first : Token) (value : List Token) (j : ℕ) → IsBody text entity name verb items
    → IsReadingFront text name (found items) field word label (p ∷ o ∷ c ∷ k ∷ v ∷ first ∷ value) → HeadParts text name field p o c k v (first ∷ value) → is_kind first.kind (value_kind field) ≡ true → OnValue text field false value
    → ReadLead text entity name verb items field word label (p ∷ o ∷ c ∷ k ∷ v ∷ first ∷ value) j
value_lead text entity name verb items field word label p o c k v first value j body is h kind on =
    let i : ℕ = suc (suc (suc (suc (suc j)))) in
    let r = on.goes (suc i) (record (base name items) { values = with_value (found items) field (record { at = first.start; first = i; behind = i + 1 }) }) in
    record {
      out = to r.0 (waiting field on.now);
      goes = rw (h.is_of, h.is_owner, h.is_colon, h.is_entity, h.is_is, kind) r.1;
      turns = λ token i. value_turn text entity name verb items field word label p o c k v token first value (to r.0 (waiting field on.now)) i on.now body is h kind (on.more (token ∷ [])) (on.whole (token ∷ []));
      done = undone field on.now;
    }

read_lead : (text : List ℕ) (entity name verb : Token) (items : List Item) (field : Field) (word label : Token) (rest : List Token) (j : ℕ) → IsBody text entity name verb items → IsReadingFront text name (found items) field word label rest → ReadLead text entity name verb items field word label rest j
read_lead text entity name verb items field word label [] j body is = record {
  out = to (base name items) (stage.Of field);
  goes = refl;
  turns = λ token i. decide text (Front.Body entity name verb items (Part.Reading field word label [])) token (is_word text token (codes "OF")) 8 (to (base name items) (stage.Owner field)) (λ f. refl) (λ t. read_on text entity name verb items field word label token [] body is (rw t refl));
  done = refl;
}
read_lead text entity name verb items field word label (p ∷ []) j body is =
    let e1 = and_parts (is_word text p (codes "OF")) true is.is_rest in
    record {
      out = to (base name items) (stage.Owner field);
      goes = rw e1.0 refl;
      turns = λ token i. decide text (Front.Body entity name verb items (Part.Reading field word label (p ∷ []))) token (is_word text token (spelled text name)) 8 (to (base name items) (stage.Colon field)) (λ f. refl) (λ t. read_on text entity name verb items field word label token (p ∷ []) body is (rw (e1.0, t) refl));
      done = refl;
    }
read_lead text entity name verb items field word label (p ∷ o ∷ []) j body is =
    let e1 = and_parts (is_word text p (codes "OF")) _ is.is_rest in
    let e2 = and_parts (is_word text o (spelled text name)) true e1.1 in
    record {
      out = to (base name items) (stage.Colon field);
      goes = rw (e1.0, e2.0) refl;
      turns = λ token i. decide text (Front.Body entity name verb items (Part.Reading field word label (p ∷ o ∷ []))) token (is_sign text token 58) 8 (to (base name items) (stage.Kind field)) (λ f. refl) (λ t. read_on text entity name verb items field word label token (p ∷ o ∷ []) body is (rw (e1.0, e2.0, t) refl));
      done = refl;
    }
read_lead text entity name verb items field word label (p ∷ o ∷ c ∷ []) j body is =
    let e1 = and_parts (is_word text p (codes "OF")) _ is.is_rest in
    let e2 = and_parts (is_word text o (spelled text name)) _ e1.1 in
    let e3 = and_parts (is_sign text c 58) true e2.1 in
    record {
      out = to (base name items) (stage.Kind field);
      goes = rw (e1.0, e2.0, e3.0) refl;
      turns = λ token i. decide text (Front.Body entity name verb items (Part.Reading field word label (p ∷ o ∷ c ∷ []))) token (is_word text token (codes "ENTITY")) 8 (to (base name items) (stage.Has field)) (λ f. refl) (λ t. read_on text entity name verb items field word label token (p ∷ o ∷ c ∷ []) body is (rw (e1.0, e2.0, e3.0, t) refl));
      done = refl;
    }
read_lead text entity name verb items field word label (p ∷ o ∷ c ∷ k ∷ []) j body is =
    let e1 = and_parts (is_word text p (codes "OF")) _ is.is_rest in
    let e2 = and_parts (is_word text o (spelled text name)) _ e1.1 in
    let e3 = and_parts (is_sign text c 58) _ e2.1 in
    let e4 = and_parts (is_word text k (codes "ENTITY")) true e3.1 in
    record {
      out = to (base name items) (stage.Has field);
      goes = rw (e1.0, e2.0, e3.0, e4.0) refl;
      turns = λ token i. decide text (Front.Body entity name verb items (Part.Reading field word label (p ∷ o ∷ c ∷ k ∷ []))) token (is_word text token (codes "IS")) 8 (to (base name items) (stage.First field)) (λ f. refl) (λ t. read_on text entity name verb items field word label token (p ∷ o ∷ c ∷ k ∷ []) body is (rw (e1.0, e2.0, e3.0, e4.0, t) refl));
      done = refl;
    }
read_lead text entity name verb items field word label (p ∷ o ∷ c ∷ k ∷ v ∷ []) j body is =
    let h = head_parts text name field p o c k v [] is.is_rest in
    record {
      out = to (base name items) (stage.First field);
      goes = rw (h.is_of, h.is_owner, h.is_colon, h.is_entity, h.is_is) refl;
      turns = λ token i. decide text (Front.Body entity name verb items (Part.Reading field word label (p ∷ o ∷ c ∷ k ∷ v ∷ []))) token (is_kind token.kind (value_kind field)) 8
          (record (base name items) { stage = stage.Joined field; values = with_value (found items) field (record { at = token.start; first = i; behind = i + 1 }) }) (λ f. refl)
          (λ t. read_on text entity name verb items field word label token (p ∷ o ∷ c ∷ k ∷ v ∷ []) body is (head_fits text name field p o c k v [] (token ∷ []) h (rw t refl)));
      done = refl;
    }
read_lead text entity name verb items field word label (p ∷ o ∷ c ∷ k ∷ v ∷ first ∷ value) j body is =
    let h = head_parts text name field p o c k v (first ∷ value) is.is_rest in
    let both = and_parts (is_kind first.kind (value_kind field)) (is_value_front text field false value) h.is_front in
    value_lead text entity name verb items field word label p o c k v first value j body is h both.0 (on_value text field false value both.1)

part_lead : (text : List ℕ) (entity name verb : Token) (items : List Item) (part : Part) (j : ℕ) → IsBody text entity name verb items → IsPart text name (found items) part → PartLead text entity name verb items part j
part_lead text entity name verb items Part.Between j body is = record { out = base name items; goes = refl; turns = λ token i. item_turn text entity name verb items token body; done = refl; closed = tt }
part_lead text entity name verb items (Part.Other word rest) j body is = other_lead text entity name verb items word rest j body is
part_lead text entity name verb items (Part.Attribute word) j body is = record {
  out = to (base name items) stage.Attribute;
  goes = rw (is.no_end, is.is_attribute) refl;
  turns = λ token i. attribute_turn text entity name verb items word token (field_of text token) body is refl;
  done = refl;
  closed = tt;
}
part_lead text entity name verb items (Part.Reading field word label rest) j body is =
    let l = read_lead text entity name verb items field word label rest (suc (suc j)) body is in
    record { out = l.out; goes = rw (is.begins.no_end, is.begins.is_attribute, is.is_field, is.is_new) l.goes; turns = l.turns; done = l.done; closed = tt }
part_lead text entity name verb items (Part.End word rest) j body is = end_lead text entity name verb items word rest j body is

-- ---- the whole front

pub record Lead (text : List ℕ) (front : Front) : Type 0 where
  pub out : Seen
  pub goes : gone text 0 nothing (written_front front) ≡ Ok out
  pub turns : (token : Token) (i : ℕ) → Turn text front token (next text out token i)
  pub done : is_done out.stage ≡ is_finished front
  pub closed : Closed front out

items_lead : (text : List ℕ) (i : ℕ) (s : Seen) (items : List Item) (behind : List Token) → AreItems text s.name i s.values items → (j : ℕ) × (gone text i (to s stage.Item) (written items behind) ≡ gone text j (record s { stage = stage.Item; values = values_after i s.values items }) behind)
items_lead text i s [] behind are = (i, refl)
items_lead text i s (item ∷ items) behind are =
    let after : Seen = record s { stage = stage.Item; values = values_with i s.values item } in
    let r = items_lead text (i + length (written_item item)) after items behind are.2 in
    (r.0, gone_to text i (to s stage.Item) after (written_item item) (written items behind) (item_goes text i s item are.0 are.1) ∙ r.1)

pub lead : (text : List ℕ) (front : Front) → IsFront text front → Lead text front
lead text (Front.Start []) is = record {
  out = nothing;
  goes = refl;
  turns = λ token i. decide text (Front.Start []) token (is_word text token (codes "ENTITY")) 5 (to nothing stage.Name) (λ f. refl) (λ t. record { longer = Front.Start (token ∷ []); is_longer = record { short = omega arith; fit = rw t refl }; are = refl });
  done = refl;
  closed = tt;
}
lead text (Front.Start (a ∷ [])) is =
    let e1 = and_parts (is_word text a (codes "ENTITY")) true is.fit in
    record {
      out = to nothing stage.Name;
      goes = rw e1.0 refl;
      turns = λ token i. decide text (Front.Start (a ∷ [])) token (is_kind token.kind Word) 5 (record nothing { stage = stage.Is; name = token }) (λ f. refl) (λ t. record { longer = Front.Start (a ∷ token ∷ []); is_longer = record { short = omega arith; fit = rw (e1.0, t) refl }; are = refl });
      done = refl;
      closed = tt;
    }
lead text (Front.Start (a ∷ b ∷ [])) is =
    let e1 = and_parts (is_word text a (codes "ENTITY")) _ is.fit in
    let e2 = and_parts (is_kind b.kind Word) true e1.1 in
    record {
      out = record nothing { stage = stage.Is; name = b };
      goes = rw (e1.0, e2.0) refl;
      turns = λ token i. decide text (Front.Start (a ∷ b ∷ [])) token (is_word text token (codes "IS")) 5 (record nothing { stage = stage.Item; name = b }) (λ f. refl)
          (λ t. record { longer = Front.Body a b token [] Part.Between; is_longer = (record { is_entity = e1.0; is_name = e2.0; is_is = t; are_items = tt }, tt); are = refl });
      done = refl;
      closed = tt;
    }
lead text (Front.Start (a ∷ b ∷ c ∷ tokens)) is = absurd (omega (arith, is.short))
lead text (Front.Body entity name verb items part) is =
    let r = items_lead text 3 (record nothing { stage = stage.Item; name = name }) items (written_part part) is.0.are_items in
    let p = part_lead text entity name verb items part r.0 is.0 is.1 in
    record { out = p.out; goes = rw (is.0.is_entity, is.0.is_name, is.0.is_is) (r.1 ∙ p.goes); turns = p.turns; done = p.done; closed = p.closed }
