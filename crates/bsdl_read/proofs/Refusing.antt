-- Where and why the structure of a text is refused.
use Rattle.std.proofs.Common.{◌≡◌, ℕ, suc, ◌+◌, not, Bool, true, false, ◌⊎◌, inl, inr, length, List, [], ◌∷◌, ◌++◌, Result, Ok, Err, refl, sym, ap, subst, ◌∙◌, arith, append_assoc}
use Rattle.std.proofs.lemmas.List.{append-nil}
use Rattle.std.proofs.lemmas.Bool.{eqb-true, not-false}
use Rattle.bsdl_lex.specs.declared.Token.{Token}
use Rattle.bsdl_read.specs.declared.structure.Seen.{Seen}
use Rattle.bsdl_read.specs.declared.structure.Fault.{Fault}
use Rattle.bsdl_read.specs.Structure.{gone, next, and_then, structure, finished, nothing, is_whole, is_done}
use Rattle.bsdl_read.specs.Fronts.{Part, Front, IsFront, written_front, is_finished}
use Rattle.bsdl_read.specs.Refusals.{StopsAt, EndsEarly, LacksOne}
use Rattle.bsdl_read.specs.Laws.{StructureIsRefused, AreFront, FilesHaveFronts, FrontsHaveFronts}
use Rattle.bsdl_read.proofs.Forms.{chosen}
use Rattle.bsdl_read.proofs.Filing.{gone_to, file_goes}
use Rattle.bsdl_read.proofs.Fronting.{Grown, Turn, Lead, lead}

abbrev failed : Fault → Result Seen Fault
failed f = Err f

same_fault : (x y : Fault) → failed x ≡ failed y → x ≡ y
same_fault x y is = cc is

-- ---- the whole run

abbrev place : Front → ℕ
place front = 0 + length (written_front front)

-- a token that the row behind a front refuses
stopped : (text : List ℕ) (front : Front) (token : Token) (fault : Fault) (l : Lead text front) → next text l.out token (place front) ≡ Err fault → (rest : List Token) → gone text 0 nothing (written_front front ++ token ∷ rest) ≡ Err fault
stopped text front token fault l is rest = gone_to text 0 nothing l.out (written_front front) (token ∷ rest) l.goes ∙ ap (λ (g : Result Seen Fault). and_then g (λ after. gone text (suc (place front)) after rest)) is

no_longer : (text : List ℕ) (front : Front) (token : Token) (fault : Fault) → gone text 0 nothing (written_front front ++ token ∷ []) ≡ Err fault → (longer : Front) → IsFront text longer → written_front longer ≡ written_front front ++ token ∷ [] → ⊥
no_longer text front token fault is longer is_longer are =
    let m = lead text longer is_longer in
    absurd (cc (sym m.goes ∙ ap (λ (ts : List Token). gone text 0 nothing ts) are ∙ is))

-- all tokens are a front, or one of them is refused
abbrev Outcome : List ℕ → List Token → Type 0
Outcome text tokens = ((fault : Fault) × (((more : List Token) → gone text 0 nothing (tokens ++ more) ≡ Err fault) × StopsAt text tokens fault.at fault.cause)) ⊎ AreFront text tokens

run : (text : List ℕ) (front : Front) → IsFront text front → (tokens : List Token) → Outcome text (written_front front ++ tokens)
run text front is [] = inr (record { front = front; is_front = is; are = append-nil (written_front front) })
run text front is (token ∷ tokens) =
    let l = lead text front is in
    by l (next text l.out token (place front)) refl (l.turns token (place front)) (λ g. run text g.longer g.is_longer tokens)
  where
    by : (l : Lead text front) (r : Result Seen Fault) → next text l.out token (place front) ≡ r → Turn text front token r → ((g : Grown text front token) → Outcome text (written_front g.longer ++ tokens)) → Outcome text (written_front front ++ token ∷ tokens)
    by l (Ok after) h grown more = subst (Outcome text) (ap (λ (ts : List Token). ts ++ tokens) grown.are ∙ append_assoc (written_front front) (token ∷ []) tokens) (more grown)
    by l (Err fault) h same more = inl (
      fault,
      (
        (λ rest. ap (λ (ts : List Token). gone text 0 nothing ts) (append_assoc (written_front front) (token ∷ tokens) rest) ∙ stopped text front token fault l h (tokens ++ rest)),
        record {
          front = front;
          token = token;
          rest = tokens;
          are = refl;
          is_front = is;
          is_last = no_longer text front token fault (stopped text front token fault l h []);
          place = ap (λ (f : Fault). f.at) same;
          is_cause = ap (λ (f : Fault). f.cause) same;
        },
      ),
    )

run_all : (text : List ℕ) (tokens : List Token) → Outcome text tokens
run_all text tokens = run text (Front.Start []) (record { short = omega arith; fit = refl }) tokens

-- ---- what a file or a front begins with

front_of : (text : List ℕ) (tokens more : List Token) (out : Seen) → gone text 0 nothing (tokens ++ more) ≡ Ok out → Outcome text tokens → AreFront text tokens
front_of text tokens more out goes (inl stop) = absurd (cc (sym goes ∙ stop.1.0 more))
front_of text tokens more out goes (inr whole) = whole

pub fronts_have_fronts : FrontsHaveFronts
fronts_have_fronts text tokens more are =
    let l = lead text are.front are.is_front in
    front_of text tokens more l.out (ap (λ (ts : List Token). gone text 0 nothing ts) are.are ∙ l.goes) (run_all text tokens)

went_well : (text : List ℕ) (tokens : List Token) (r : Result Seen Fault) (seen : Seen) → gone text 0 nothing tokens ≡ r → and_then r (finished text) ≡ Ok seen → (out : Seen) × (gone text 0 nothing tokens ≡ Ok out)
went_well text tokens (Ok out) seen runs is = (out, runs)
went_well text tokens (Err fault) seen runs is = absurd (cc is)

pub files_have_fronts : FilesHaveFronts
files_have_fronts text tokens more seen file =
    let w = went_well text (tokens ++ more) (gone text 0 nothing (tokens ++ more)) seen refl (file_goes text (tokens ++ more) seen file) in
    front_of text tokens more w.0 w.1 (run_all text tokens)

-- ---- a refusal

abbrev Why : List ℕ → List Token → Fault → Type 0
Why text tokens fault = StopsAt text tokens fault.at fault.cause ⊎ (EndsEarly text tokens fault.at fault.cause ⊎ LacksOne text tokens fault.at fault.cause)

lacks : (text : List ℕ) (tokens : List Token) (front : Front) (l : Lead text front) (fault : Fault) → IsFront text front → tokens ≡ written_front front → is_finished front ≡ true → is_whole l.out.values ≡ false → fault ≡ record { at = l.out.end; cause = 6 } → LacksOne text tokens fault.at fault.cause
lacks text tokens (Front.Start start) l fault is are full missing same = absurd (cc full)
lacks text tokens (Front.Body entity name verb items Part.Between) l fault is are full missing same = absurd (cc full)
lacks text tokens (Front.Body entity name verb items (Part.Other word rest)) l fault is are full missing same = absurd (cc full)
lacks text tokens (Front.Body entity name verb items (Part.Attribute word)) l fault is are full missing same = absurd (cc full)
lacks text tokens (Front.Body entity name verb items (Part.Reading field word label rest)) l fault is are full missing same = absurd (cc full)
lacks text tokens (Front.Body entity name verb items (Part.End word rest)) l fault is are full missing same = record {
  entity = entity;
  name = name;
  verb = verb;
  items = items;
  close = word;
  behind = rest;
  are = are;
  is_front = is;
  two = eqb-true (length rest) 2 full;
  lacks = ap (λ values. is_whole values) (sym l.closed.1) ∙ missing;
  place = ap (λ (f : Fault). f.at) same ∙ l.closed.0;
  is_six = ap (λ (f : Fault). f.cause) same;
}

unfinished : (text : List ℕ) (tokens : List Token) (fault : Fault) (a : AreFront text tokens) (l : Lead text a.front) → finished text l.out ≡ Err fault → EndsEarly text tokens fault.at fault.cause ⊎ LacksOne text tokens fault.at fault.cause
unfinished text tokens fault a l is = elim (chosen (not (is_done l.out.stage)) _ _ _ is) [
  | inl b ↦
      let same = same_fault (record { at = length text; cause = 5 }) fault b.1 in
      inl (record { front = a.front; are = a.are; is_front = a.is_front; unfinished = sym l.done ∙ undone (is_done l.out.stage) b.0; place = ap (λ (f : Fault). f.at) (sym same); is_five = ap (λ (f : Fault). f.cause) (sym same) })
  | inr c ↦ elim (chosen (not (is_whole l.out.values)) _ _ _ c.1) [
    | inl d ↦ inr (lacks text tokens a.front l fault a.is_front a.are (sym l.done ∙ not-false (is_done l.out.stage) c.0) (undone (is_whole l.out.values) d.0) (sym (same_fault (record { at = l.out.end; cause = 6 }) fault d.1)))
    | inr e ↦ absurd (cc e.1)
  ]
]
  where
    undone : (b : Bool) → not b ≡ true → b ≡ false
    undone false is = refl
    undone true is = absurd (cc is)

ran : (text : List ℕ) (tokens : List Token) (r : Result Seen Fault) → gone text 0 nothing tokens ≡ r → structure text tokens ≡ and_then r (finished text)
ran text tokens r is = ap (λ (g : Result Seen Fault). and_then g (finished text)) is

refused : (text : List ℕ) (tokens : List Token) (fault : Fault) → structure text tokens ≡ Err fault → Outcome text tokens → Why text tokens fault
refused text tokens fault is (inl stop) =
    let runs = ap (λ (ts : List Token). gone text 0 nothing ts) (sym (append-nil tokens)) ∙ stop.1.0 [] in
    let same : stop.0 ≡ fault = same_fault stop.0 fault (sym (ran text tokens (Err stop.0) runs) ∙ is) in
    inl (subst (λ (f : Fault). StopsAt text tokens f.at f.cause) same stop.1.1)
refused text tokens fault is (inr a) =
    let l = lead text a.front a.is_front in
    inr (unfinished text tokens fault a l (sym (ran text tokens (Ok l.out) (ap (λ (ts : List Token). gone text 0 nothing ts) a.are ∙ l.goes)) ∙ is))

-- ---- and back

stop_refused : (text : List ℕ) (tokens : List Token) (at cause : ℕ) → StopsAt text tokens at cause → structure text tokens ≡ Err (record { at = at; cause = cause })
stop_refused text tokens at cause s = let l = lead text s.front s.is_front in by l (next text l.out s.token (place s.front)) refl (l.turns s.token (place s.front))
  where
    by : (l : Lead text s.front) (r : Result Seen Fault) → next text l.out s.token (place s.front) ≡ r → Turn text s.front s.token r → structure text tokens ≡ Err (record { at = at; cause = cause })
    by l (Ok after) h grown = absurd (s.is_last grown.longer grown.is_longer grown.are)
    by l (Err fault) h same =
        ran text tokens (Err fault) (ap (λ (ts : List Token). gone text 0 nothing ts) s.are ∙ stopped text s.front s.token fault l h s.rest)
        ∙ ap (λ (f : Fault). Err f) same ∙ (λ i. Err (record { at = sym s.place i; cause = sym s.is_cause i }))

early_refused : (text : List ℕ) (tokens : List Token) (at cause : ℕ) → EndsEarly text tokens at cause → structure text tokens ≡ Err (record { at = at; cause = cause })
early_refused text tokens at cause e =
    let l = lead text e.front e.is_front in
    ran text tokens (Ok l.out) (ap (λ (ts : List Token). gone text 0 nothing ts) e.are ∙ l.goes) ∙ ends_early l.out (l.done ∙ e.unfinished) ∙ (λ i. Err (record { at = sym e.place i; cause = sym e.is_five i }))
  where
    ends_early : (out : Seen) → is_done out.stage ≡ false → finished text out ≡ Err (record { at = length text; cause = 5 })
    ends_early out is = rw is refl

one_refused : (text : List ℕ) (tokens : List Token) (at cause : ℕ) → LacksOne text tokens at cause → structure text tokens ≡ Err (record { at = at; cause = cause })
one_refused text tokens at cause o =
    let l = lead text (Front.Body o.entity o.name o.verb o.items (Part.End o.close o.behind)) o.is_front in
    ran text tokens (Ok l.out) (ap (λ (ts : List Token). gone text 0 nothing ts) o.are ∙ l.goes) ∙ misses l.out (l.done ∙ rw o.two refl) (ap (λ values. is_whole values) l.closed.1 ∙ o.lacks)
    ∙ (λ i. Err (record { at = (l.closed.0 ∙ sym o.place) i; cause = sym o.is_six i }))
  where
    misses : (out : Seen) → is_done out.stage ≡ true → is_whole out.values ≡ false → finished text out ≡ Err (record { at = out.end; cause = 6 })
    misses out is missing = rw (is, missing) refl

back : (text : List ℕ) (tokens : List Token) (at cause : ℕ) → StopsAt text tokens at cause ⊎ (EndsEarly text tokens at cause ⊎ LacksOne text tokens at cause) → structure text tokens ≡ Err (record { at = at; cause = cause })
back text tokens at cause (inl s) = stop_refused text tokens at cause s
back text tokens at cause (inr (inl e)) = early_refused text tokens at cause e
back text tokens at cause (inr (inr o)) = one_refused text tokens at cause o

pub structure_refused : StructureIsRefused
structure_refused text tokens at cause = ((λ is. refused text tokens (record { at = at; cause = cause }) is (run_all text tokens)), back text tokens at cause)
