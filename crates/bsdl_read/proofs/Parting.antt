-- A file that is read through the stages has its parts.
use Rattle.std.proofs.Common.{◌≡◌, ℕ, zero, suc, ◌+◌, ◌<◌, ◌≤◌, true, false, List, [], ◌∷◌, ◌++◌, ◌⊎◌, inl, inr, not, length, Result, Ok, Err, refl, sym, ap, subst, ◌∙◌, arith, codes, length-append}
use Rattle.std.specs.Option.{is_none, is_some}
use Rattle.std.specs.declared.option.Option.{Option}
use Rattle.std.specs.declared.option.Option.TheVariants.{Some, None}
use Rattle.std.proofs.lemmas.Bool.{not-false, and_parts}
use Rattle.bsdl_lex.specs.declared.Token.{Token}
use Rattle.bsdl_lex.specs.declared.TokenKind.TheVariants.{Word}
use Rattle.part_model.specs.declared.Field.{Field}
use Rattle.bsdl_read.specs.declared.structure.Seen.{Seen}
use Rattle.bsdl_read.specs.declared.structure.Stage.TheVariants as stage
use Rattle.bsdl_read.specs.declared.structure.Fault.{Fault}
use Rattle.bsdl_read.specs.Words.{is_word, is_kind, value_kind, field_of}
use Rattle.bsdl_read.specs.Structure.{gone, to, and_then, attribute, value_of, with_value, structure, finished, nothing, is_done, is_whole}
use Rattle.bsdl_read.specs.Grammar.{balanced, is_value, Item, written_item, starts_field, IsItem, IsNew, values_with, AreItems, values_after, written, IsFile}
use Rattle.bsdl_read.proofs.Forms.{chosen, went, bound, one_step, row, head, closes, passed_over, valued}
use Rattle.bsdl_read.proofs.Filing.{item_goes, gone_to, IsClose, whole_file}

-- an item at the front, and what is behind it
record OneItem (text : List ℕ) (s : Seen) (tokens : List Token) : Type 0 where
  one : Item
  behind : List Token
  are : tokens ≡ written_item one ++ behind
  is : IsItem text s.name one
  new : IsNew s.values one

-- the end at the front
record Closing (text : List ℕ) (s : Seen) (tokens : List Token) : Type 0 where
  close : Token
  owner : Token
  last : Token
  are : tokens ≡ close ∷ owner ∷ last ∷ []
  is : IsClose text s.name close owner last

-- a VALUE at the front
record OneValue (text : List ℕ) (field : Field) (tokens : List Token) : Type 0 where
  value : List Token
  behind : List Token
  are : tokens ≡ value ++ behind
  well : is_value text field true value ≡ true

one_more : (text : List ℕ) (field : Field) (token : Token) (value : List Token) → is_kind token.kind (value_kind field) ≡ true → is_value text field false value ≡ true → is_value text field true (token ∷ value) ≡ true
one_more text field token value kind well = rw (kind, well) refl

value_front : (text : List ℕ) (i : ℕ) (s : Seen) (field : Field) (tokens : List Token) (out : Seen) → gone text i (to s (stage.First field)) tokens ≡ Ok out → is_done out.stage ≡ true → OneValue text field tokens
value_front text i s field tokens out is done =
    let a = one_step text i (to s (stage.First field)) tokens out refl is done in
    let values = with_value s.values field (record { at = a.token.start; first = i; behind = i + 1 }) in
    let w = went (is_kind a.token.kind (value_kind field)) 8 a.token (record s { stage = stage.Joined field; values = values }) a.after a.passes in
    let v = valued text (suc i) (record s { values = values }) field false a.rest out (ap (λ (x : Seen). gone text (suc i) x a.rest) w.1 ∙ a.leads) done in
    record { value = a.token ∷ v.value; behind = v.behind; are = a.are ∙ ap (λ (ts : List Token). a.token ∷ ts) v.are; well = one_more text field a.token v.value w.0 v.is_well }

other_start : (text : List ℕ) (token : Token) (rest one behind : List Token) → token ∷ rest ≡ one ++ behind → balanced text 0 one ≡ true → field_of text token ≡ None → starts_field text one ≡ false
other_start text token rest [] behind are well is = absurd (cc well)
other_start text token rest (first ∷ one) behind are well is =
    let same : token ≡ first = cc are in
    subst (λ (t : Token). is_some (field_of text t) ≡ false) same (rw is refl)

-- behind `attribute`
attribute_front : (text : List ℕ) (i : ℕ) (s : Seen) (word name : Token) (rest tokens : List Token) (after out : Seen) (o : Option Field) → field_of text name ≡ o → is_word text word (codes "ATTRIBUTE") ≡ true → is_word text word (codes "END") ≡ false → is_kind word.kind Word ≡ true
    → tokens ≡ word ∷ name ∷ rest → attribute text name (to s stage.Attribute) o ≡ Ok after → gone text (suc i) after rest ≡ Ok out → is_done out.stage ≡ true → OneItem text s tokens
attribute_front text i s word name rest tokens after out None field yes_attribute no_end kind are passes leads done =
    let all : gone text i (to s (stage.Passed 0)) (name ∷ rest) ≡ Ok out = ap (λ (x : Result Seen Fault). and_then x (λ a. gone text (suc i) a rest)) passes ∙ leads in
    let r = passed_over text i s 0 (name ∷ rest) out all done in
    let no_field = other_start text name rest r.item r.behind r.are r.is_balanced field in
    record { one = Item.Other word r.item; behind = r.behind; are = are ∙ ap (λ (ts : List Token). word ∷ ts) r.are; is = record { begins = kind; no_end = no_end; no_field = rw (yes_attribute, no_field) refl; is_balanced = r.is_balanced }; new = tt }
attribute_front text i s word name rest tokens after out (Some field) is_field yes_attribute no_end kind are passes leads done =
    let w = went (is_none (value_of s.values field)) 7 name (to s (stage.Of field)) after passes in
    let h = head text (suc i) s field rest out (ap (λ (x : Seen). gone text (suc i) x rest) w.1 ∙ leads) done in
    let v = value_front text (suc (suc (suc (suc (suc (suc i)))))) s field h.rest out h.leads done in
    record {
      one = Item.Reading field (record { attribute = word; name = name; preposition = h.preposition; owner = h.owner; colon = h.colon; kind = h.kind; verb = h.verb }) v.value;
      behind = v.behind;
      are = are ∙ ap (λ (ts : List Token). word ∷ name ∷ ts) (h.are ∙ ap (λ (ts : List Token). h.preposition ∷ h.owner ∷ h.colon ∷ h.kind ∷ h.verb ∷ ts) v.are);
      is = (record { is_attribute = yes_attribute; no_end = no_end; is_field = is_field; is_of = h.is_of; is_owner = h.is_owner; is_colon = h.is_colon; is_entity = h.is_entity; is_is = h.is_is }, v.well);
      new = w.0;
    }

pub word_kind : (text : List ℕ) (token : Token) (word : List ℕ) → is_word text token word ≡ true → is_kind token.kind Word ≡ true
word_kind text token word is = (and_parts (is_kind token.kind Word) _ is).0

-- an item, or the end
front : (text : List ℕ) (i : ℕ) (s : Seen) (tokens : List Token) (out : Seen) → gone text i (to s stage.Item) tokens ≡ Ok out → is_done out.stage ≡ true → Closing text s tokens ⊎ OneItem text s tokens
front text i s tokens out is done =
    let a = one_step text i (to s stage.Item) tokens out refl is done in
    elim (chosen (is_word text a.token (codes "END")) _ _ _ a.passes) [
      | inl e ↦
          let same : record s { stage = stage.EndName; end = a.token.start } ≡ a.after = cc e.1 in
          let c = closes text (suc i) (record s { stage = stage.EndName; end = a.token.start }) a.rest out (ap (λ (x : Seen). gone text (suc i) x a.rest) same ∙ a.leads) done in
          inl (record { close = a.token; owner = c.name; last = c.close; are = a.are ∙ ap (λ (ts : List Token). a.token ∷ ts) c.are; is = record { is_end = e.0; is_owner = c.is_name; is_last = c.is_close } })
      | inr b ↦ elim (chosen (is_word text a.token (codes "ATTRIBUTE")) _ _ _ b.1) [
        | inl c ↦
            let same : to s stage.Attribute ≡ a.after = cc c.1 in
            let n = one_step text (suc i) (to s stage.Attribute) a.rest out refl (ap (λ (x : Seen). gone text (suc i) x a.rest) same ∙ a.leads) done in
            inr (attribute_front text (suc i) s a.token n.token n.rest tokens n.after out (field_of text n.token) refl c.0 b.0 (word_kind text a.token (codes "ATTRIBUTE") c.0) (a.are ∙ ap (λ (ts : List Token). a.token ∷ ts) n.are) n.passes n.leads done)
        | inr d ↦
            let w = went (is_kind a.token.kind Word) 5 a.token (to s (stage.Passed 0)) a.after d.1 in
            let r = passed_over text (suc i) s 0 a.rest out (ap (λ (x : Seen). gone text (suc i) x a.rest) w.1 ∙ a.leads) done in
            inr (record { one = Item.Other a.token r.item; behind = r.behind; are = a.are ∙ ap (λ (ts : List Token). a.token ∷ ts) r.are; is = record { begins = w.0; no_end = b.0; no_field = rw d.0 refl; is_balanced = r.is_balanced }; new = tt })
      ]
    ]

-- items, and the end
record Parts (text : List ℕ) (i : ℕ) (s : Seen) (tokens : List Token) : Type 0 where
  items : List Item
  close : Token
  owner : Token
  last : Token
  are : tokens ≡ written items (close ∷ owner ∷ last ∷ [])
  are_items : AreItems text s.name i s.values items
  is : IsClose text s.name close owner last

some_item : (one : Item) → 0 < length (written_item one)
some_item (Item.Other word rest) = omega arith
some_item (Item.Reading field head value) = omega arith

one_part : (text : List ℕ) (i : ℕ) (s : Seen) (tokens : List Token) (o : OneItem text s tokens) → Parts text (i + length (written_item o.one)) (record s { values = values_with i s.values o.one }) o.behind → Parts text i s tokens
one_part text i s tokens o p = record {
  items = o.one ∷ p.items;
  close = p.close;
  owner = p.owner;
  last = p.last;
  are = o.are ∙ ap (λ (ts : List Token). written_item o.one ++ ts) p.are;
  are_items = (o.is, o.new, p.are_items);
  is = p.is;
}

fewer : (fuel : ℕ) (text : List ℕ) (s : Seen) (tokens : List Token) (o : OneItem text s tokens) → length tokens ≤ suc fuel → length o.behind ≤ fuel
fewer fuel text s tokens o le =
    let l : length tokens ≡ length (written_item o.one) + length o.behind = ap (λ (ts : List Token). length ts) o.are ∙ length-append (written_item o.one) o.behind in
    omega (arith, l, le, some_item o.one)

abbrev Found : ℕ → Type 0
Found fuel = (text : List ℕ) (i : ℕ) (s : Seen) (tokens : List Token) (out : Seen) → length tokens ≤ fuel → gone text i (to s stage.Item) tokens ≡ Ok out → is_done out.stage ≡ true → Parts text i s tokens

more_parts : (fuel : ℕ) → Found fuel → (text : List ℕ) (i : ℕ) (s : Seen) (tokens : List Token) (out : Seen) → length tokens ≤ suc fuel → gone text i (to s stage.Item) tokens ≡ Ok out → is_done out.stage ≡ true → Closing text s tokens ⊎ OneItem text s tokens → Parts text i s tokens
more_parts fuel more text i s tokens out le is done (inl c) = record { items = []; close = c.close; owner = c.owner; last = c.last; are = c.are; are_items = tt; is = c.is }
more_parts fuel more text i s tokens out le is done (inr o) =
    let after : Seen = record s { stage = stage.Item; values = values_with i s.values o.one } in
    let goes = gone_to text i (to s stage.Item) after (written_item o.one) o.behind (item_goes text i s o.one o.is o.new) in
    let rest : gone text (i + length (written_item o.one)) after o.behind ≡ Ok out = sym goes ∙ ap (λ (ts : List Token). gone text i (to s stage.Item) ts) (sym o.are) ∙ is in
    one_part text i s tokens o (more text (i + length (written_item o.one)) (record s { values = values_with i s.values o.one }) o.behind out (fewer fuel text s tokens o le) rest done)

parts_within : (fuel : ℕ) → Found fuel
parts_within zero text i s [] out le is done =
    let same : to s stage.Item ≡ out = cc is in
    absurd (cc (ap (λ (x : Seen). is_done x.stage) same ∙ done))
parts_within zero text i s (token ∷ tokens) out le is done = absurd (omega (arith, le))
parts_within (suc fuel) text i s tokens out le is done = more_parts fuel (parts_within fuel) text i s tokens out le is done (front text i s tokens out is done)

-- ---- the whole file

record Ended (out seen : Seen) : Type 0 where
  done : is_done out.stage ≡ true
  whole : is_whole out.values ≡ true
  same : out ≡ seen

ended : (text : List ℕ) (out seen : Seen) → finished text out ≡ Ok seen → Ended out seen
ended text out seen is = elim (chosen (not (is_done out.stage)) _ _ _ is) [
  | inl a ↦ absurd (cc a.1)
  | inr b ↦ elim (chosen (not (is_whole out.values)) _ _ _ b.1) [
    | inl c ↦ absurd (cc c.1)
    | inr d ↦ record { done = not-false (is_done out.stage) b.0; whole = not-false (is_whole out.values) d.0; same = cc d.1 }
  ]
]

abbrev seen_of : Result Seen Fault → Seen
seen_of (Ok seen) = seen
seen_of (Err fault) = nothing

abbrev went_well : Seen → Result Seen Fault
went_well seen = Ok seen

same_seen : (x y : Seen) → went_well x ≡ went_well y → x ≡ y
same_seen x y is = ap seen_of is

pub file_parts : (text : List ℕ) (tokens : List Token) (seen : Seen) → structure text tokens ≡ Ok seen → IsFile text tokens seen
file_parts text tokens seen is =
    let b = bound (gone text 0 nothing tokens) (finished text) seen is in
    let e = ended text b.0 seen b.2 in
    let first = row text 0 nothing (to nothing stage.Name) (λ t. is_word text t (codes "ENTITY")) 5 tokens b.0 refl (λ t. refl) b.1 e.done in
    let second = one_step text 1 (to nothing stage.Name) first.rest b.0 refl first.leads e.done in
    let named : Seen = record nothing { stage = stage.Is; name = second.token } in
    let w = went (is_kind second.token.kind Word) 5 second.token named second.after second.passes in
    let third = row text 2 named (to named stage.Item) (λ t. is_word text t (codes "IS")) 5 second.rest b.0 refl (λ t. refl) (ap (λ (x : Seen). gone text 2 x second.rest) w.1 ∙ second.leads) e.done in
    let p = parts_within (length third.rest) text 3 named third.rest b.0 (omega arith) third.leads e.done in
    let all : tokens ≡ first.token ∷ second.token ∷ third.token ∷ written p.items (p.close ∷ p.owner ∷ p.last ∷ [])
    = first.are ∙ ap (λ (ts : List Token). first.token ∷ ts) (second.are ∙ ap (λ (ts : List Token). second.token ∷ ts) (third.are ∙ ap (λ (ts : List Token). third.token ∷ ts) p.are)) in
    let goes = whole_file text first.token second.token third.token p.items p.close p.owner p.last first.passes w.0 third.passes p.are_items p.is in
    let out_is : b.0 ≡ record { stage = stage.Done; name = second.token; end = p.close.start; values = values_after 3 nothing.values p.items } = same_seen b.0 _ (sym b.1 ∙ ap (λ (ts : List Token). gone text 0 nothing ts) all ∙ goes) in
    record {
      entity = first.token;
      name = second.token;
      verb = third.token;
      items = p.items;
      close = p.close;
      owner = p.owner;
      last = p.last;
      are = all;
      is_entity = first.passes;
      is_name = w.0;
      is_is = third.passes;
      are_items = p.are_items;
      is_end = p.is.is_end;
      is_owner = p.is.is_owner;
      is_last = p.is.is_last;
      is_whole = subst (λ (x : Seen). is_whole x.values ≡ true) e.same e.whole;
      found = sym e.same ∙ out_is;
    }
