-- What contents of every form share: blanks, lists that grow at their end, and the run over their bytes.
use Rattle.std.proofs.Common.{◌≡◌, ℕ, suc, ◌+◌, ◌==◌, Bool, true, false, ◌⊎◌, inl, inr, List, [], ◌∷◌, ◌++◌, map, take, Result, Ok, Err, refl, sym, ap, ◌∙◌, append_assoc, arith}
use Rattle.std.specs.List.{list_all, prefix_len}
use Rattle.std.proofs.lemmas.Bool.{and_parts, and_from, or_cases, eqb-true, cases_Bool}
use Rattle.bsdl_lex.specs.declared.Token.{Token}
use Rattle.bsdl_lex.specs.Tokens.{is_letter, is_digit, in_word}
use Rattle.bsdl_read.specs.Contents.{and_then, is_space, is_pattern_digit, inside, through, through_all}
use Rattle.bsdl_read.specs.ContentGrammar.{content, Every, followed, are_spaces, Padded, written_padded, IsPadded}
pub use Rattle.bsdl_read.proofs.Forms.{chosen}

pub bound : {A B : Type 0} (first : Result A ℕ) (more : A → Result B ℕ) (out : B) → and_then first more ≡ Ok out → (x : A) × (first ≡ Ok x) × (more x ≡ Ok out)
bound (Ok x) more out is = (x, refl, is)
bound (Err cause) more out is = absurd (cc is)

-- ---- one text after the other is the whole content

-- what holds behind each state, holds behind a result
pub and_then-same : {A B : Type 0} (first : Result A ℕ) (f g : A → Result B ℕ) → ((x : A) → f x ≡ g x) → and_then first f ≡ and_then first g
and_then-same (Ok x) f g each = each x
and_then-same (Err cause) f g each = refl

and_then-assoc : {A B C : Type 0} (first : Result A ℕ) (f : A → Result B ℕ) (g : B → Result C ℕ) → and_then first (λ x. and_then (f x) g) ≡ and_then (and_then first f) g
and_then-assoc (Ok x) f g = refl
and_then-assoc (Err cause) f g = refl

pub through-append : {S : Type 0} (step : S → ℕ → Result S ℕ) (s : S) (xs ys : List ℕ) → through step s (xs ++ ys) ≡ and_then (through step s xs) (λ after. through step after ys)
through-append step s [] ys = refl
through-append {S = S} step s (x ∷ xs) ys =
    and_then-same (step s x) (λ after. through step after (xs ++ ys)) (λ after. and_then (through step after xs) (λ next. through step next ys)) (λ after. through-append step after xs ys)
    ∙ and_then-assoc (step s x) (λ after. through step after xs) (λ next. through step next ys)

pub through-content : {S : Type 0} (step : S → ℕ → Result S ℕ) (text : List ℕ) (s : S) (tokens : List Token) → through_all step text s tokens ≡ through step s (content text tokens)
through-content step text s [] = refl
through-content step text s (token ∷ tokens) =
    and_then-same (through step s (inside text token)) (λ after. through_all step text after tokens) (λ after. through step after (content text tokens)) (λ after. through-content step text after tokens)
    ∙ sym (through-append step s (inside text token) (content text tokens))

-- ---- lists that grow at their end

pub every-snoc : {T : Type 0} (is : T → Type 0) (xs : List T) (x : T) → Every is xs → is x → Every is (xs ++ x ∷ [])
every-snoc is [] x all one = (one, tt)
every-snoc is (y ∷ xs) x all one = (all.0, every-snoc is xs x all.1 one)

-- the bytes at the front that pass a test all pass it
pub passes-front : (p : ℕ → Bool) (xs : List ℕ) → list_all p (take (prefix_len p xs) xs) ≡ true
passes-front p [] = refl
passes-front p (x ∷ xs) = elim (cases_Bool (p x)) [
  | inl first ↦ let more : 1 + prefix_len p xs ≡ suc (prefix_len p xs) = omega arith in rw (first, more) (and_from (p x) (list_all p (take (prefix_len p xs) xs)) first (passes-front p xs))
  | inr first ↦ rw first refl
]

pub passes-snoc : (p : ℕ → Bool) (xs : List ℕ) (x : ℕ) → list_all p xs ≡ true → p x ≡ true → list_all p (xs ++ x ∷ []) ≡ true
passes-snoc p [] x all one = and_from (p x) true one refl
passes-snoc p (y ∷ xs) x all one =
    let both = and_parts (p y) (list_all p xs) all in
    and_from (p y) (list_all p (xs ++ x ∷ [])) both.0 (passes-snoc p xs x both.1 one)

pub map-snoc : {A B : Type 0} (f : A → B) (xs : List A) (x : A) → map f (xs ++ x ∷ []) ≡ map f xs ++ f x ∷ []
map-snoc f [] x = refl
map-snoc f (y ∷ xs) x = ap (λ ys. f y ∷ ys) (map-snoc f xs x)

pub followed-snoc : {T : Type 0} (write : T → List ℕ → List ℕ) (xs : List T) (x : T) (rest : List ℕ) → followed write (xs ++ x ∷ []) rest ≡ followed write xs (write x (44 ∷ rest))
followed-snoc write [] x rest = refl
followed-snoc write (y ∷ xs) x rest = ap (λ behind. write y (44 ∷ behind)) (followed-snoc write xs x rest)

pub snoc-append : (xs : List ℕ) (x : ℕ) (rest : List ℕ) → xs ++ x ∷ rest ≡ (xs ++ x ∷ []) ++ rest
snoc-append xs x rest = sym (append_assoc xs (x ∷ []) rest)

-- ---- blanks

space_is : (byte : ℕ) → is_space byte ≡ true → (byte ≡ 32) ⊎ (byte ≡ 9)
space_is byte is = elim (or_cases (byte == 32) (byte == 9) is) [ inl a ↦ inl (eqb-true byte 32 a) | inr b ↦ inr (eqb-true byte 9 b) ]

-- a test that fails at both fails at every blank
no_space : (test : ℕ → Bool) → test 32 ≡ false → test 9 ≡ false → (byte : ℕ) → is_space byte ≡ true → test byte ≡ false
no_space test space tab byte is = elim (space_is byte is) [ inl a ↦ ap test a ∙ space | inr b ↦ ap test b ∙ tab ]

pub blank_no_word : (byte : ℕ) → is_space byte ≡ true → in_word byte ≡ false
blank_no_word byte is = no_space in_word refl refl byte is

pub blank_no_digit : (byte : ℕ) → is_space byte ≡ true → is_pattern_digit byte ≡ false
blank_no_digit byte is = no_space is_pattern_digit refl refl byte is

pub blank_no_number : (byte : ℕ) → is_space byte ≡ true → is_digit byte ≡ false
blank_no_number byte is = no_space is_digit refl refl byte is

-- a letter is no blank, nor a digit
pub word_no_blank : (byte : ℕ) (test : ℕ → Bool) → ((b : ℕ) → is_space b ≡ true → test b ≡ false) → test byte ≡ true → is_space byte ≡ false
word_no_blank byte test never is = by (is_space byte) refl
  where
    by : (t : Bool) → is_space byte ≡ t → t ≡ false
    by false h = refl
    by true h = absurd (cc (sym is ∙ never byte h))

pub letter_no_blank : (byte : ℕ) → is_letter byte ≡ true → is_space byte ≡ false
letter_no_blank byte is = word_no_blank byte is_letter (no_space is_letter refl refl) is

-- blanks that a stage passes over
pub over_blanks : {S : Type 0} (step : S → ℕ → Result S ℕ) (s : S) → ((byte : ℕ) → is_space byte ≡ true → step s byte ≡ Ok s) → (blanks rest : List ℕ) → are_spaces blanks ≡ true → through step s (blanks ++ rest) ≡ through step s rest
over_blanks step s stays [] rest all = refl
over_blanks {S = S} step s stays (byte ∷ blanks) rest all =
    let both = and_parts (is_space byte) (list_all is_space blanks) all in
    ap (λ (first : Result S ℕ). and_then first (λ after. through step after (blanks ++ rest))) (stays byte both.0) ∙ over_blanks step s stays blanks rest both.1

-- blanks behind a word: the first leads to the stage behind it, which passes over the others
pub behind_blanks : {S : Type 0} (step : S → ℕ → Result S ℕ) (s behind next : S) (byte : ℕ) → ((blank : ℕ) → is_space blank ≡ true → step s blank ≡ Ok behind) → ((blank : ℕ) → is_space blank ≡ true → step behind blank ≡ Ok behind)
    → step s byte ≡ Ok next → step behind byte ≡ Ok next → (blanks rest : List ℕ) → are_spaces blanks ≡ true → through step s (blanks ++ byte ∷ rest) ≡ through step next rest
behind_blanks {S = S} step s behind next byte first stays from_first from_behind [] rest all = ap (λ (one : Result S ℕ). and_then one (λ after. through step after rest)) from_first
behind_blanks {S = S} step s behind next byte first stays from_first from_behind (blank ∷ blanks) rest all =
    let both = and_parts (is_space blank) (list_all is_space blanks) all in
    ap (λ (one : Result S ℕ). and_then one (λ after. through step after (blanks ++ byte ∷ rest))) (first blank both.0)
    ∙ over_blanks step behind stays blanks (byte ∷ rest) both.1
    ∙ ap (λ (one : Result S ℕ). and_then one (λ after. through step after rest)) from_behind

-- ---- something between blanks grows at its end

abbrev pub begun : List ℕ → ℕ → List ℕ → List ℕ → List ℕ
begun before first more rest = before ++ ((first ∷ more) ++ rest)

abbrev pub IsBegun : (ℕ → Bool) → (ℕ → Bool) → List ℕ → ℕ → List ℕ → Type 0
IsBegun is_first in_rest before first more = (are_spaces before ≡ true) × (is_first first ≡ true) × (list_all in_rest more ≡ true)

abbrev pub named : List ℕ → ℕ → List ℕ → Padded
named before first more = record { before = before; inside = first ∷ more; behind = [] }

abbrev pub more_blanks : (p : Padded) (byte : ℕ) → Padded
more_blanks p byte = record { before = p.before; inside = p.inside; behind = p.behind ++ byte ∷ [] }

pub padded_more : (p : Padded) (byte : ℕ) (rest : List ℕ) → written_padded p (byte ∷ rest) ≡ written_padded (more_blanks p byte) rest
padded_more p byte rest = ap (λ (x : List ℕ). p.before ++ (p.inside ++ x)) (snoc-append p.behind byte rest)

pub still_padded : (is : List ℕ → Bool) (p : Padded) (byte : ℕ) → IsPadded is p → is_space byte ≡ true → IsPadded is (more_blanks p byte)
still_padded is p byte padded blank = record { blank_before = padded.blank_before; is_inside = padded.is_inside; blank_behind = passes-snoc is_space p.behind byte padded.blank_behind blank }

-- ---- a run, part by part

-- what stands for each state, kept by each byte, stands for what the whole content leads to
pub run_over : {F S : Type 0} (step : S → ℕ → Result S ℕ) (state : F → S) (written : F → List ℕ → List ℕ) (fine : F → Type 0)
    → ((f : F) (byte : ℕ) (after : S) → fine f → step (state f) byte ≡ Ok after → (now : F) × fine now × (state now ≡ after) × ((rest : List ℕ) → written f (byte ∷ rest) ≡ written now rest))
    → (bytes : List ℕ) (f : F) (out : S) → fine f → through step (state f) bytes ≡ Ok out → (last : F) × fine last × (state last ≡ out) × (written f bytes ≡ written last [])
run_over step state written fine each [] f out is runs = (f, is, cc runs, refl)
run_over {S = S} step state written fine each (byte ∷ bytes) f out is runs =
    let b = bound (step (state f) byte) (λ after. through step after bytes) out runs in
    let n = each f byte b.0 is b.1 in
    let more = run_over step state written fine each bytes n.0 out n.1 (ap (λ (s : S). through step s bytes) n.2 ∙ b.2) in
    (more.0, more.1, more.2, n.3 bytes ∙ more.3)

-- and where the run stops, it stops behind such parts
pub run_stops : {F S : Type 0} (step : S → ℕ → Result S ℕ) (state : F → S) (written : F → List ℕ → List ℕ) (fine : F → Type 0)
    → ((f : F) (byte : ℕ) (after : S) → fine f → step (state f) byte ≡ Ok after → (now : F) × fine now × (state now ≡ after) × ((rest : List ℕ) → written f (byte ∷ rest) ≡ written now rest))
    → (bytes : List ℕ) (f : F) (cause : ℕ) → fine f → through step (state f) bytes ≡ Err cause → (last : F) × (byte : ℕ) × (rest : List ℕ) × fine last × (step (state last) byte ≡ Err cause) × (written f bytes ≡ written last (byte ∷ rest))
run_stops step state written fine each [] f cause is runs = absurd (cc runs)
run_stops {F = F} {S = S} step state written fine each (byte ∷ bytes) f cause is runs = by (step (state f) byte) refl runs (λ g good more. run_stops step state written fine each bytes g cause good more)
  where
    by : (r : Result S ℕ) → step (state f) byte ≡ r → and_then r (λ after. through step after bytes) ≡ Err cause
        → ((g : F) → fine g → through step (state g) bytes ≡ Err cause → (last : F) × (next : ℕ) × (rest : List ℕ) × fine last × (step (state last) next ≡ Err cause) × (written g bytes ≡ written last (next ∷ rest)))
        → (last : F) × (next : ℕ) × (rest : List ℕ) × fine last × (step (state last) next ≡ Err cause) × (written f (byte ∷ bytes) ≡ written last (next ∷ rest))
    by (Ok after) h go_on more =
        let n = each f byte after is h in
        let m = more n.0 n.1 (ap (λ (s : S). through step s bytes) n.2 ∙ go_on) in
        (m.0, m.1, m.2, m.3, m.4, n.3 bytes ∙ m.5)
    by (Err other) h go_on more = (f, byte, bytes, is, h ∙ go_on, refl)
