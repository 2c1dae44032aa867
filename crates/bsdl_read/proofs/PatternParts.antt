-- The content of one pattern, or of several: what the stages read, by its parts, and back.
use Rattle.std.proofs.Common.{◌≡◌, ℕ, suc, arith, ◌==◌, nat_lt, ◌&&◌, ◌||◌, Bool, true, false, inl, inr, length, List, [], ◌∷◌, ◌++◌, reverse, Result, Ok, refl, sym, ap, subst, ◌∙◌, append_assoc}
use Rattle.std.specs.List.{list_all, list_any}
use Rattle.std.proofs.lemmas.Bool.{and_parts, and_from, or_cases, or_left, or_right, eqb-true, cases_Bool, lt-ltb}
use Rattle.std.proofs.lemmas.List.{append-nil}
use Rattle.std.proofs.lemmas.List.Folds.{list_any-append}
use Rattle.bsdl_lex.specs.declared.Token.{Token}
use Rattle.part_model.specs.declared.Digit.{Digit}
use Rattle.bsdl_read.specs.Contents.{and_then, is_space, is_pattern_digit, digit_of, through, through_all}
use Rattle.bsdl_read.specs.Patterns.{Digits, next_byte, may_join, is_closed, closed, no_digits, pattern}
use Rattle.bsdl_read.specs.declared.patterns.PatternStage.TheVariants as stage
use Rattle.bsdl_read.specs.ContentGrammar.{content, followed, is_spaced, is_spaced_pattern, digits_in, written_bytes, first_of, SaysPattern}
use Rattle.bsdl_read.proofs.Spans.{chosen, bound, through-content, passes-snoc, followed-snoc, snoc-append, blank_no_digit, run_over}

-- ---- digits among blanks

digits-blank : (bytes : List ℕ) (byte : ℕ) → is_space byte ≡ true → digits_in (bytes ++ byte ∷ []) ≡ digits_in bytes
digits-blank [] byte blank = rw blank refl
digits-blank (first ∷ bytes) byte blank = elim (cases_Bool (is_space first)) [
  | inl a ↦ rw a (digits-blank bytes byte blank)
  | inr b ↦ rw b (ap (λ (ds : List Digit). digit_of first ∷ ds) (digits-blank bytes byte blank))
]

digits-digit : (bytes : List ℕ) (byte : ℕ) → is_space byte ≡ false → digits_in (bytes ++ byte ∷ []) ≡ digits_in bytes ++ digit_of byte ∷ []
digits-digit [] byte other = rw other refl
digits-digit (first ∷ bytes) byte other = elim (cases_Bool (is_space first)) [
  | inl a ↦ rw a (digits-digit bytes byte other)
  | inr b ↦ rw b (ap (λ (ds : List Digit). digit_of first ∷ ds) (digits-digit bytes byte other))
]

any-snoc : (bytes : List ℕ) (byte : ℕ) (t : Bool) → is_pattern_digit byte ≡ t → list_any is_pattern_digit (bytes ++ byte ∷ []) ≡ (list_any is_pattern_digit bytes || (t || false))
any-snoc bytes byte t is = list_any-append is_pattern_digit bytes (byte ∷ []) ∙ ap (λ (b : Bool). list_any is_pattern_digit bytes || (b || false)) is

or_false : (b : Bool) → (b || false) ≡ b
or_false true = refl
or_false false = refl

or_true : (b : Bool) → (b || true) ≡ true
or_true true = refl
or_true false = refl

-- there is a digit where one is found
some_digit : (bytes : List ℕ) → list_all is_spaced bytes ≡ true → nat_lt 0 (length (digits_in bytes)) ≡ list_any is_pattern_digit bytes
some_digit [] all = refl
some_digit (byte ∷ bytes) all =
    let both = and_parts (is_spaced byte) (list_all is_spaced bytes) all in
    elim (cases_Bool (is_space byte)) [
      | inl a ↦ rw (a, blank_no_digit byte a) (some_digit bytes both.1)
      | inr b ↦ elim (or_cases (is_space byte) (is_pattern_digit byte) both.0) [ inl c ↦ absurd (cc (sym c ∙ b)) | inr d ↦ rw (b, d) (lt-ltb 0 (suc (length (digits_in bytes))) (omega arith)) ]
    ]

-- ---- from the stages to the parts, and back

-- patterns, each with a `,` behind it, and what stands behind the last `,`
record Read : Type 0 where
  firsts : List (List ℕ)
  last : List ℕ

abbrev first_state : Bool → List Digit → Digits
first_state many digits = record { many = many; stage = stage.First; digits = digits }

abbrev later_state : Bool → Bool → List Digit → Digits
later_state many some digits = record { many = many; stage = stage.Later some; digits = digits }

abbrev state_of : Bool → List (List ℕ) → List ℕ → Digits
state_of many [] last = first_state many (digits_in last)
state_of many (first ∷ firsts) last = later_state many (list_any is_pattern_digit last) (digits_in first)

abbrev fine_result : Digits → Result Digits ℕ
fine_result d = Ok d

same_ok : (x y : Digits) → fine_result x ≡ fine_result y → x ≡ y
same_ok x y is = cc is

grows : (many : Bool) (firsts : List (List ℕ)) (last : List ℕ) (byte : ℕ) → is_spaced byte ≡ true → next_byte (state_of many firsts last) byte ≡ fine_result (state_of many firsts (last ++ byte ∷ []))
grows many [] last byte is = elim (cases_Bool (is_space byte)) [
  | inl a ↦ rw a (ap (λ (ds : List Digit). fine_result (first_state many ds)) (sym (digits-blank last byte a)))
  | inr b ↦ elim (or_cases (is_space byte) (is_pattern_digit byte) is) [
    | inl c ↦ absurd (cc (sym c ∙ b))
    | inr d ↦ rw (b, d) (ap (λ (ds : List Digit). fine_result (first_state many ds)) (sym (digits-digit last byte b)))
  ]
]
grows many (first ∷ firsts) last byte is = elim (cases_Bool (is_space byte)) [
  | inl a ↦ rw a (ap (λ (some : Bool). fine_result (later_state many some (digits_in first))) (sym (any-snoc last byte false (blank_no_digit byte a) ∙ or_false (list_any is_pattern_digit last))))
  | inr b ↦ elim (or_cases (is_space byte) (is_pattern_digit byte) is) [
    | inl c ↦ absurd (cc (sym c ∙ b))
    | inr d ↦ rw (b, d) (ap (λ (some : Bool). fine_result (later_state many some (digits_in first))) (sym (any-snoc last byte true d ∙ or_true (list_any is_pattern_digit last))))
  ]
]

-- several patterns only where they may stand
abbrev MayBe : Bool → List (List ℕ) → Type 0
MayBe many firsts = many ≡ false → firsts ≡ []

record IsRead (many : Bool) (r : Read) : Type 0 where
  each_first : list_all is_spaced_pattern r.firsts ≡ true
  spaced : list_all is_spaced r.last ≡ true
  one : MayBe many r.firsts

abbrev written_read : Read → List ℕ → List ℕ
written_read r rest = followed written_bytes r.firsts (r.last ++ rest)

abbrev state : Bool → Read → Digits
state many r = state_of many r.firsts r.last

all-snoc : (xs : List (List ℕ)) (x : List ℕ) → list_all is_spaced_pattern xs ≡ true → is_spaced_pattern x ≡ true → list_all is_spaced_pattern (xs ++ x ∷ []) ≡ true
all-snoc [] x all one = and_from (is_spaced_pattern x) true one refl
all-snoc (y ∷ xs) x all one =
    let both = and_parts (is_spaced_pattern y) (list_all is_spaced_pattern xs) all in
    and_from (is_spaced_pattern y) (list_all is_spaced_pattern (xs ++ x ∷ [])) both.0 (all-snoc xs x both.1 one)

no_false : {A : Type 0} (b : Bool) → b ≡ true → b ≡ false → A
no_false b given other = absurd (cc (sym given ∙ other))

-- what a `,` says of what stands before it
joins : (many : Bool) (firsts : List (List ℕ)) (last : List ℕ) → list_all is_spaced last ≡ true → MayBe many firsts → may_join (state_of many firsts last).stage (state_of many firsts last) ≡ true
    → (many ≡ true) × (list_any is_pattern_digit last ≡ true)
joins many [] last spaced one is = let both = and_parts many (nat_lt 0 (length (digits_in last))) is in (both.0, sym (some_digit last spaced) ∙ both.1)
joins true (first ∷ firsts) last spaced one is = (refl, is)
joins false (first ∷ firsts) last spaced one is = absurd (let q : first ∷ firsts ≡ [] = one refl in cc)

may : (many : Bool) (firsts : List (List ℕ)) (last : List ℕ) → is_spaced_pattern last ≡ true → many ≡ true → may_join (state_of many firsts last).stage (state_of many firsts last) ≡ true
may many [] last is given =
    let both = and_parts (list_all is_spaced last) (list_any is_pattern_digit last) is in
    and_from many (nat_lt 0 (length (digits_in last))) given (some_digit last both.0 ∙ both.1)
may many (first ∷ firsts) last is given = (and_parts (list_all is_spaced last) (list_any is_pattern_digit last) is).1

comma_state : (many : Bool) (firsts : List (List ℕ)) (last : List ℕ) → record (state_of many firsts last) { stage = stage.Later false } ≡ state_of many (firsts ++ last ∷ []) []
comma_state many [] last = refl
comma_state many (first ∷ firsts) last = refl

read_leads : (many : Bool) (r : Read) (byte : ℕ) (after : Digits) → IsRead many r → next_byte (state many r) byte ≡ Ok after → (now : Read) × IsRead many now × (state many now ≡ after) × ((rest : List ℕ) → written_read r (byte ∷ rest) ≡ written_read now rest)
read_leads many r byte after fine is = elim (cases_Bool (is_spaced byte)) [
  | inl a ↦ (
    record { firsts = r.firsts; last = r.last ++ byte ∷ [] },
    record { each_first = fine.each_first; spaced = passes-snoc is_spaced r.last byte fine.spaced a; one = fine.one },
    same_ok _ _ (sym (grows many r.firsts r.last byte a) ∙ is),
    λ rest. ap (followed written_bytes r.firsts) (snoc-append r.last byte rest),
  )
  | inr b ↦ elim (chosen (is_space byte) _ _ _ is) [
    | inl c ↦ no_false (is_spaced byte) (or_left (is_space byte) (is_pattern_digit byte) c.0) b
    | inr d ↦ elim (chosen (is_pattern_digit byte) _ _ _ d.1) [
      | inl e ↦ no_false (is_spaced byte) (or_right (is_space byte) (is_pattern_digit byte) e.0) b
      | inr f ↦ elim (chosen ((byte == 44) && may_join (state many r).stage (state many r)) _ _ _ f.1) [
        | inl g ↦
            let both = and_parts (byte == 44) (may_join (state many r).stage (state many r)) g.0 in
            let joined = joins many r.firsts r.last fine.spaced fine.one both.1 in
            let whole = and_from (list_all is_spaced r.last) (list_any is_pattern_digit r.last) fine.spaced joined.1 in (
              record { firsts = r.firsts ++ r.last ∷ []; last = [] },
              record { each_first = all-snoc r.firsts r.last fine.each_first whole; spaced = refl; one = λ other. no_false many joined.0 other },
              sym (comma_state many r.firsts r.last) ∙ same_ok _ _ g.1,
              λ rest. ap (λ (x : ℕ). followed written_bytes r.firsts (r.last ++ x ∷ rest)) (eqb-true byte 44 both.0) ∙ sym (followed-snoc written_bytes r.firsts r.last rest),
            )
        | inr h ↦ absurd (cc h.1)
      ]
    ]
  ]
]

closes : (many : Bool) (firsts : List (List ℕ)) (last : List ℕ) → list_all is_spaced last ≡ true → is_closed (state_of many firsts last).stage (state_of many firsts last) ≡ list_any is_pattern_digit last
closes many [] last spaced = some_digit last spaced
closes many (first ∷ firsts) last spaced = refl

digits_are : (many : Bool) (firsts : List (List ℕ)) (last : List ℕ) → (state_of many firsts last).digits ≡ digits_in (first_of firsts last)
digits_are many [] last = refl
digits_are many (first ∷ firsts) last = refl

says_parts : (many : Bool) (r : Read) (found : List Digit) → IsRead many r → closed (state many r) ≡ Ok found → SaysPattern many (written_read r []) found
says_parts many r found fine is = elim (chosen (is_closed (state many r).stage (state many r)) _ _ _ is) [
  | inl a ↦ record {
    patterns = record { firsts = r.firsts; last = r.last };
    are = refl;
    each_first = fine.each_first;
    is_last = and_from (list_all is_spaced r.last) (list_any is_pattern_digit r.last) fine.spaced (sym (closes many r.firsts r.last fine.spaced) ∙ a.0);
    one = fine.one;
    says = sym (cc a.1) ∙ ap reverse (digits_are many r.firsts r.last);
  }
  | inr b ↦ absurd (cc b.1)
]

pub pattern_has_parts : (many : Bool) (text : List ℕ) (tokens : List Token) (found : List Digit) → pattern many text tokens ≡ Ok found → SaysPattern many (content text tokens) found
pattern_has_parts many text tokens found is =
    let b = bound (through_all next_byte text (no_digits many) tokens) closed found is in
    let runs = sym (through-content next_byte text (no_digits many) tokens) ∙ b.1 in
    let r = run_over next_byte (state many) written_read (IsRead many) (read_leads many) (content text tokens) (record { firsts = []; last = [] }) b.0 (record { each_first = refl; spaced = refl; one = λ other. refl }) runs in
    subst (λ (bytes : List ℕ). SaysPattern many bytes found) (sym r.3) (says_parts many r.0 found r.1 (ap closed r.2 ∙ b.2))

-- ---- from the parts to the stages

piece_goes : (many : Bool) (firsts : List (List ℕ)) (last piece rest : List ℕ) → list_all is_spaced piece ≡ true
    → through next_byte (state_of many firsts last) (piece ++ rest) ≡ through next_byte (state_of many firsts (last ++ piece)) rest
piece_goes many firsts last [] rest all = ap (λ (x : List ℕ). through next_byte (state_of many firsts x) rest) (sym (append-nil last))
piece_goes many firsts last (byte ∷ piece) rest all =
    let both = and_parts (is_spaced byte) (list_all is_spaced piece) all in
    ap (λ (first : Result Digits ℕ). and_then first (λ after. through next_byte after (piece ++ rest))) (grows many firsts last byte both.0)
    ∙ piece_goes many firsts (last ++ byte ∷ []) piece rest both.1
    ∙ ap (λ (x : List ℕ). through next_byte (state_of many firsts x) rest) (append_assoc last (byte ∷ []) piece)

comma_goes : (many : Bool) (firsts : List (List ℕ)) (last rest : List ℕ) → is_spaced_pattern last ≡ true → many ≡ true → through next_byte (state_of many firsts last) (44 ∷ rest) ≡ through next_byte (state_of many (firsts ++ last ∷ []) []) rest
comma_goes many firsts last rest is given = rw (may many firsts last is given) (ap (λ (d : Digits). through next_byte d rest) (comma_state many firsts last))

firsts_go : (many : Bool) (read firsts : List (List ℕ)) (rest : List ℕ) → list_all is_spaced_pattern firsts ≡ true → many ≡ true
    → through next_byte (state_of many read []) (followed written_bytes firsts rest) ≡ through next_byte (state_of many (read ++ firsts) []) rest
firsts_go many read [] rest all given = ap (λ (x : List (List ℕ)). through next_byte (state_of many x []) rest) (sym (append-nil read))
firsts_go many read (piece ∷ firsts) rest all given =
    let both = and_parts (is_spaced_pattern piece) (list_all is_spaced_pattern firsts) all in
    piece_goes many read [] piece (44 ∷ followed written_bytes firsts rest) (and_parts (list_all is_spaced piece) (list_any is_pattern_digit piece) both.0).0
    ∙ comma_goes many read piece (followed written_bytes firsts rest) both.0 given
    ∙ firsts_go many (read ++ piece ∷ []) firsts rest both.1 given
    ∙ ap (λ (x : List (List ℕ)). through next_byte (state_of many x []) rest) (append_assoc read (piece ∷ []) firsts)

all_go : (many : Bool) (firsts : List (List ℕ)) (rest : List ℕ) → list_all is_spaced_pattern firsts ≡ true → MayBe many firsts
    → through next_byte (state_of many [] []) (followed written_bytes firsts rest) ≡ through next_byte (state_of many firsts []) rest
all_go true firsts rest all one = firsts_go true [] firsts rest all refl
all_go false firsts rest all one = subst (λ (x : List (List ℕ)). through next_byte (state_of false [] []) (followed written_bytes x rest) ≡ through next_byte (state_of false x []) rest) (sym (one refl)) refl

abbrev found_result : List Digit → Result (List Digit) ℕ
found_result digits = Ok digits

closes_so : (many : Bool) (firsts : List (List ℕ)) (last : List ℕ) → is_spaced_pattern last ≡ true → closed (state_of many firsts last) ≡ found_result (reverse (digits_in (first_of firsts last)))
closes_so many firsts last is =
    let both = and_parts (list_all is_spaced last) (list_any is_pattern_digit last) is in
    rw (closes many firsts last both.0 ∙ both.1) (ap (λ (ds : List Digit). found_result (reverse ds)) (digits_are many firsts last))

pub parts_are_pattern : (many : Bool) (text : List ℕ) (tokens : List Token) (found : List Digit) → SaysPattern many (content text tokens) found → pattern many text tokens ≡ Ok found
parts_are_pattern many text tokens found says =
    ap (λ (r : Result Digits ℕ). and_then r closed)
    (through-content next_byte text (no_digits many) tokens ∙ ap (through next_byte (no_digits many)) says.are ∙ all_go many says.patterns.firsts (says.patterns.last ++ []) says.each_first says.one
    ∙ piece_goes many says.patterns.firsts [] says.patterns.last [] (and_parts (list_all is_spaced says.patterns.last) (list_any is_pattern_digit says.patterns.last) says.is_last).0)
    ∙ closes_so many says.patterns.firsts says.patterns.last says.is_last
    ∙ ap found_result (sym says.says)
