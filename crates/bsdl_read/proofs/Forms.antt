-- What the tokens of a whole file look like, from the stages that they lead through.
use Rattle.std.proofs.Common.{◌≡◌, ℕ, suc, ◌+◌, Bool, true, false, List, [], ◌∷◌, ◌++◌, ◌⊎◌, inl, inr, ◌-◌, ◌==◌, ◌&&◌, not, if◌then◌else◌, Result, Ok, Err, refl, sym, ap, ◌∙◌, codes}
use Rattle.bsdl_lex.specs.declared.Token.{Token}
use Rattle.bsdl_lex.specs.declared.TokenKind.TheVariants.{Text}
use Rattle.bsdl_read.specs.declared.structure.Seen.{Seen}
use Rattle.bsdl_read.specs.declared.structure.Stage.{Stage}
use Rattle.bsdl_read.specs.declared.structure.Stage.TheVariants as stage
use Rattle.part_model.specs.declared.Field.{Field}
use Rattle.bsdl_read.specs.declared.structure.Fault.{Fault}
use Rattle.bsdl_read.specs.Words.{is_word, is_sign, is_kind, value_kind, spelled}
use Rattle.bsdl_read.specs.Grammar.{balanced, is_value}
use Rattle.bsdl_read.specs.Structure.{gone, next, go, to, and_then, is_done, value_of, with_value, extended}

-- a row that lets its token pass
pub went : (allowed : Bool) (cause : ℕ) (token : Token) (seen after : Seen) → go allowed cause token seen ≡ Ok after → (allowed ≡ true) × (seen ≡ after)
went true cause token seen after is = (refl, cc is)
went false cause token seen after is = absurd (cc is)

pub bound : {A B : Type 0} (first : Result A Fault) (more : A → Result B Fault) (out : B) → and_then first more ≡ Ok out → (x : A) × (first ≡ Ok x) × (more x ≡ Ok out)
bound (Ok x) more out is = (x, refl, is)
bound (Err fault) more out is = absurd (cc is)

-- one token: it is there, it passes its row, and the rest leads on
pub record Step (text : List ℕ) (i : ℕ) (seen : Seen) (tokens : List Token) (out : Seen) : Type 0 where
  pub token : Token
  pub rest : List Token
  pub after : Seen
  pub are : tokens ≡ token ∷ rest
  pub passes : next text seen token i ≡ Ok after
  pub leads : gone text (suc i) after rest ≡ Ok out

pub one_step : (text : List ℕ) (i : ℕ) (seen : Seen) (tokens : List Token) (out : Seen) → is_done seen.stage ≡ false → gone text i seen tokens ≡ Ok out → is_done out.stage ≡ true → Step text i seen tokens out
one_step text i seen [] out undone is done =
    let same : seen ≡ out = cc is in
    absurd (cc (sym undone ∙ ap (λ (s : Seen). is_done s.stage) same ∙ done))
one_step text i seen (token ∷ rest) out undone is done =
    let b = bound (next text seen token i) (λ after. gone text (suc i) after rest) out is in
    record { token = token; rest = rest; after = b.0; are = refl; passes = b.1; leads = b.2 }

-- a row of one line
pub record Row (text : List ℕ) (i : ℕ) (after : Seen) (test : Token → Bool) (tokens : List Token) (out : Seen) : Type 0 where
  pub token : Token
  pub rest : List Token
  pub are : tokens ≡ token ∷ rest
  pub passes : test token ≡ true
  pub leads : gone text (suc i) after rest ≡ Ok out

pub row : (text : List ℕ) (i : ℕ) (seen after : Seen) (test : Token → Bool) (cause : ℕ) (tokens : List Token) (out : Seen) → is_done seen.stage ≡ false
    → ((token : Token) → next text seen token i ≡ go (test token) cause token after) → gone text i seen tokens ≡ Ok out → is_done out.stage ≡ true → Row text i after test tokens out
row text i seen after test cause tokens out undone is_row is done =
    let s = one_step text i seen tokens out undone is done in
    let w = went (test s.token) cause s.token after s.after (sym (is_row s.token) ∙ s.passes) in
    record { token = s.token; rest = s.rest; are = s.are; passes = w.0; leads = ap (λ (x : Seen). gone text (suc i) x s.rest) w.1 ∙ s.leads }

-- `of NAME : entity is`, and what follows leads on from the VALUE
pub record Head (text : List ℕ) (i : ℕ) (seen : Seen) (field : Field) (tokens : List Token) (out : Seen) : Type 0 where
  pub preposition : Token
  pub owner : Token
  pub colon : Token
  pub kind : Token
  pub verb : Token
  pub rest : List Token
  pub are : tokens ≡ preposition ∷ owner ∷ colon ∷ kind ∷ verb ∷ rest
  pub is_of : is_word text preposition (codes "OF") ≡ true
  pub is_owner : is_word text owner (spelled text seen.name) ≡ true
  pub is_colon : is_sign text colon 58 ≡ true
  pub is_entity : is_word text kind (codes "ENTITY") ≡ true
  pub is_is : is_word text verb (codes "IS") ≡ true
  pub leads : gone text (suc (suc (suc (suc (suc i))))) (to seen (stage.First field)) rest ≡ Ok out

pub head : (text : List ℕ) (i : ℕ) (seen : Seen) (field : Field) (tokens : List Token) (out : Seen) → gone text i (to seen (stage.Of field)) tokens ≡ Ok out → is_done out.stage ≡ true → Head text i seen field tokens out
head text i seen field tokens out is done =
    let a = row text i (to seen (stage.Of field)) (to seen (stage.Owner field)) (λ t. is_word text t (codes "OF")) 8 tokens out refl (λ t. refl) is done in
    let b = row text (suc i) (to seen (stage.Owner field)) (to seen (stage.Colon field)) (λ t. is_word text t (spelled text seen.name)) 8 a.rest out refl (λ t. refl) a.leads done in
    let c = row text (suc (suc i)) (to seen (stage.Colon field)) (to seen (stage.Kind field)) (λ t. is_sign text t 58) 8 b.rest out refl (λ t. refl) b.leads done in
    let d = row text (suc (suc (suc i))) (to seen (stage.Kind field)) (to seen (stage.Has field)) (λ t. is_word text t (codes "ENTITY")) 8 c.rest out refl (λ t. refl) c.leads done in
    let e = row text (suc (suc (suc (suc i)))) (to seen (stage.Has field)) (to seen (stage.First field)) (λ t. is_word text t (codes "IS")) 8 d.rest out refl (λ t. refl) d.leads done in
    record {
      preposition = a.token;
      owner = b.token;
      colon = c.token;
      kind = d.token;
      verb = e.token;
      rest = e.rest;
      are = a.are ∙ ap (λ (r : List Token). a.token ∷ r) (b.are ∙ ap (λ (r : List Token). b.token ∷ r) (c.are ∙ ap (λ (r : List Token). c.token ∷ r) (d.are ∙ ap (λ (r : List Token). d.token ∷ r) e.are)));
      is_of = a.passes;
      is_owner = b.passes;
      is_colon = c.passes;
      is_entity = d.passes;
      is_is = e.passes;
      leads = e.leads;
    }

-- nothing stands behind the last `;`
pub nothing_behind : (text : List ℕ) (i : ℕ) (seen : Seen) (tokens : List Token) (out : Seen) → gone text i (to seen stage.Done) tokens ≡ Ok out → tokens ≡ []
nothing_behind text i seen [] out is = refl
nothing_behind text i seen (token ∷ rest) out is = absurd (cc is)

-- `NAME ;` and no token behind
pub record Close (text : List ℕ) (seen : Seen) (tokens : List Token) : Type 0 where
  pub name : Token
  pub close : Token
  pub are : tokens ≡ name ∷ close ∷ []
  pub is_name : is_word text name (spelled text seen.name) ≡ true
  pub is_close : is_sign text close 59 ≡ true

pub closes : (text : List ℕ) (i : ℕ) (seen : Seen) (tokens : List Token) (out : Seen) → gone text i (to seen stage.EndName) tokens ≡ Ok out → is_done out.stage ≡ true → Close text seen tokens
closes text i seen tokens out is done =
    let a = row text i (to seen stage.EndName) (to seen stage.EndSign) (λ t. is_word text t (spelled text seen.name)) 5 tokens out refl (λ t. refl) is done in
    let b = row text (suc i) (to seen stage.EndSign) (to seen stage.Done) (λ t. is_sign text t 59) 5 a.rest out refl (λ t. refl) a.leads done in
    let n = nothing_behind text (suc (suc i)) seen b.rest out b.leads in
    record { name = a.token; close = b.token; are = a.are ∙ ap (λ (r : List Token). a.token ∷ r) (b.are ∙ ap (λ (r : List Token). b.token ∷ r) n); is_name = a.passes; is_close = b.passes }

-- a test passed, or it did not
pub chosen : {A : Type 0} (test : Bool) (x y z : A) → (if test then x else y) ≡ z → ((test ≡ true) × (x ≡ z)) ⊎ ((test ≡ false) × (y ≡ z))
chosen true x y z is = inl (refl, is)
chosen false x y z is = inr (refl, is)

-- the rest of an item, and what follows it
pub record Rest (text : List ℕ) (seen : Seen) (depth : ℕ) (tokens : List Token) (out : Seen) : Type 0 where
  pub item : List Token
  pub behind : List Token
  pub at : ℕ
  pub are : tokens ≡ item ++ behind
  pub is_balanced : balanced text depth item ≡ true
  pub leads : gone text at (to seen stage.Item) behind ≡ Ok out

longer : (text : List ℕ) (seen : Seen) (depth inner : ℕ) (token : Token) (tokens : List Token) (out : Seen) → ((item : List Token) → balanced text inner item ≡ true → balanced text depth (token ∷ item) ≡ true) → Rest text seen inner tokens out → Rest text seen depth (token ∷ tokens) out
longer text seen depth inner token tokens out more r = record { item = token ∷ r.item; behind = r.behind; at = r.at; are = ap (λ (ts : List Token). token ∷ ts) r.are; is_balanced = more r.item r.is_balanced; leads = r.leads }

pub passed_over : (text : List ℕ) (i : ℕ) (seen : Seen) (depth : ℕ) (tokens : List Token) (out : Seen) → gone text i (to seen (stage.Passed depth)) tokens ≡ Ok out → is_done out.stage ≡ true → Rest text seen depth tokens out
passed_over text i seen depth [] out is done =
    let same : to seen (stage.Passed depth) ≡ out = cc is in
    absurd (cc (ap (λ (s : Seen). is_done s.stage) same ∙ done))
passed_over text i seen depth (token ∷ tokens) out is done =
    let b = bound (next text (to seen (stage.Passed depth)) token i) (λ after. gone text (suc i) after tokens) out is in
    elim (chosen (is_sign text token 40) _ _ _ b.1) [
      | inl opens ↦ longer text seen depth (depth + 1) token tokens out (λ item well. rw opens.0 well) (passed_over text (suc i) seen (depth + 1) tokens out (ap (λ (x : Seen). gone text (suc i) x tokens) (cc opens.1) ∙ b.2) done)
      | inr other ↦ elim (chosen (is_sign text token 41) _ _ _ other.1) [
        | inl closing ↦
            let w = went (not (depth == 0)) 5 token (to seen (stage.Passed (depth - 1))) b.0 closing.1 in
            longer text seen depth (depth - 1) token tokens out (λ item well. rw (other.0, closing.0, w.0) well) (passed_over text (suc i) seen (depth - 1) tokens out (ap (λ (x : Seen). gone text (suc i) x tokens) w.1 ∙ b.2) done)
        | inr more ↦ elim (chosen (is_sign text token 59 && (depth == 0)) _ _ _ more.1) [
          | inl last ↦ record { item = token ∷ []; behind = tokens; at = suc i; are = refl; is_balanced = rw (other.0, more.0, last.0) refl; leads = ap (λ (x : Seen). gone text (suc i) x tokens) (cc last.1) ∙ b.2 }
          | inr on ↦ longer text seen depth depth token tokens out (λ item well. rw (other.0, more.0, on.0) well) (passed_over text (suc i) seen depth tokens out (ap (λ (x : Seen). gone text (suc i) x tokens) (cc on.1) ∙ b.2) done)
        ]
      ]
    ]

abbrev pub value_stage : Field → Bool → Stage
value_stage field true = stage.Part field
value_stage field false = stage.Joined field

-- a VALUE, and what follows the item
pub record Valued (text : List ℕ) (name : Token) (field : Field) (due : Bool) (tokens : List Token) (out : Seen) : Type 0 where
  pub value : List Token
  pub behind : List Token
  pub at : ℕ
  pub after : Seen
  pub are : tokens ≡ value ++ behind
  pub is_well : is_value text field due value ≡ true
  pub same_name : after.name ≡ name
  pub leads : gone text at (to after stage.Item) behind ≡ Ok out

one_more : (text : List ℕ) (field : Field) (token : Token) (value : List Token) → is_kind token.kind (value_kind field) ≡ true → is_value text field false value ≡ true → is_value text field true (token ∷ value) ≡ true
one_more text field token value kind well = rw (kind, well) refl

one_joins : (text : List ℕ) (field : Field) (token : Token) (value : List Token) → (is_sign text token 38 && is_kind (value_kind field) Text) ≡ true → is_value text field true value ≡ true → is_value text field false (token ∷ value) ≡ true
one_joins text field token value joins well = rw joins well

one_ends : (text : List ℕ) (field : Field) (token : Token) → (is_sign text token 38 && is_kind (value_kind field) Text) ≡ false → is_sign text token 59 ≡ true → is_value text field false (token ∷ []) ≡ true
one_ends text field token other last = rw (other, last) refl

pub valued : (text : List ℕ) (i : ℕ) (seen : Seen) (field : Field) (due : Bool) (tokens : List Token) (out : Seen) → gone text i (to seen (value_stage field due)) tokens ≡ Ok out → is_done out.stage ≡ true → Valued text seen.name field due tokens out
valued text i seen field true [] out is done =
    let same : to seen (stage.Part field) ≡ out = cc is in
    absurd (cc (ap (λ (s : Seen). is_done s.stage) same ∙ done))
valued text i seen field false [] out is done =
    let same : to seen (stage.Joined field) ≡ out = cc is in
    absurd (cc (ap (λ (s : Seen). is_done s.stage) same ∙ done))
valued text i seen field true (token ∷ tokens) out is done =
    let b = bound (next text (to seen (stage.Part field)) token i) (λ after. gone text (suc i) after tokens) out is in
    let values = with_value seen.values field (extended (value_of seen.values field) (i + 1)) in
    let w = went (is_kind token.kind (value_kind field)) 8 token (record seen { stage = stage.Joined field; values = values }) b.0 b.1 in
    let v = valued text (suc i) (record seen { values = values }) field false tokens out (ap (λ (x : Seen). gone text (suc i) x tokens) w.1 ∙ b.2) done in
    record { value = token ∷ v.value; behind = v.behind; at = v.at; after = v.after; are = ap (λ (ts : List Token). token ∷ ts) v.are; is_well = one_more text field token v.value w.0 v.is_well; same_name = v.same_name; leads = v.leads }
valued text i seen field false (token ∷ tokens) out is done =
    let b = bound (next text (to seen (stage.Joined field)) token i) (λ after. gone text (suc i) after tokens) out is in
    elim (chosen (is_sign text token 38 && is_kind (value_kind field) Text) _ _ _ b.1) [
      | inl joins ↦
          let v = valued text (suc i) seen field true tokens out (ap (λ (x : Seen). gone text (suc i) x tokens) (cc joins.1) ∙ b.2) done in
          record { value = token ∷ v.value; behind = v.behind; at = v.at; after = v.after; are = ap (λ (ts : List Token). token ∷ ts) v.are; is_well = one_joins text field token v.value joins.0 v.is_well; same_name = v.same_name; leads = v.leads }
      | inr last ↦
          let w = went (is_sign text token 59) 8 token (to seen stage.Item) b.0 last.1 in
          record { value = token ∷ []; behind = tokens; at = suc i; after = seen; are = refl; is_well = one_ends text field token last.0 w.0; same_name = refl; leads = ap (λ (x : Seen). gone text (suc i) x tokens) w.1 ∙ b.2 }
    ]
