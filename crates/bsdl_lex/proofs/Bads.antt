-- What is refused at the front of a text has the form that the cause says.
use Rattle.std.proofs.Common.{◌≡◌, ℕ, suc, ◌+◌, Bool, true, false, ◌&&◌, ◌==◌, if◌then◌else◌, ◌⊎◌, inl, inr, List, [], ◌∷◌, ◌++◌, length, drop, refl, sym, ap, subst, ◌∙◌, arith}
use Rattle.std.specs.List.{list_all, prefix_len}
use Rattle.std.proofs.lemmas.Bool.{eqb-true}
use Rattle.bsdl_lex.specs.declared.Piece.{Piece}
use Rattle.bsdl_lex.specs.declared.Piece.TheVariants.{Bad}
use Rattle.bsdl_lex.specs.Tokens.{is_blank, is_letter, is_digit, is_visible, is_line_end, in_word, in_number, in_text, is_exponent, is_plus_minus, starts, fraction, ended, exponent_digits, exponent, after_whole, number, closed, quoted, first_piece}
use Rattle.bsdl_lex.specs.Grammar.{Run, Some, IsPower, ends_line, NoDigit, NoPower, RunsOn, IsBad}
use Rattle.bsdl_lex.proofs.Forms.{chosen, behind_is, run_front, some_front, fraction_front, power}

-- a Number that runs on: so many bytes of it stand behind the first, and then a letter or `_`
record Runs (form : List ℕ → List ℕ → Type 0) (text : List ℕ) (ahead cause : ℕ) : Type 0 where
  bytes : List ℕ
  behind : List ℕ
  are : text ≡ bytes ++ behind
  has : form bytes behind
  goes_on : starts in_word behind ≡ true
  at : 0 ≡ ahead
  is : 3 ≡ cause

record Stops (test : Type 0) (ahead cause : ℕ) : Type 0 where
  holds : test
  at : 0 ≡ ahead
  is : 3 ≡ cause

ended_bad : (count : ℕ) (text : List ℕ) (ahead cause : ℕ) → ended count text ≡ Bad ahead cause → Stops (starts in_word text ≡ true) ahead cause
ended_bad count text ahead cause is = elim (chosen (starts in_word text) _ _ _ is) [
  | inl more ↦ record { holds = more.0; at = cc more.1; is = cc more.1 }
  | inr other ↦ absurd (cc other.1)
]

digits_bad : (count : ℕ) (text : List ℕ) (ahead cause : ℕ) → exponent_digits count text ≡ Bad ahead cause → Runs (Some is_digit) text ahead cause ⊎ Stops (starts is_digit text ≡ false) ahead cause
digits_bad count text ahead cause is = elim (chosen (starts is_digit text) _ _ _ is) [
  | inr other ↦ inr (record { holds = other.0; at = cc other.1; is = cc other.1 })
  | inl some ↦
      let f = some_front is_digit text some.0 in
      let e = ended_bad (count + prefix_len is_digit text) f.behind ahead cause (ap (ended (count + prefix_len is_digit text)) (sym (behind_is (prefix_len is_digit text) text f)) ∙ some.1) in
      inl (record { bytes = f.bytes; behind = f.behind; are = f.are; has = f.has; goes_on = e.holds; at = e.at; is = e.is })
]

-- behind `e` or `E`
signed_bad : (count : ℕ) (letter byte : ℕ) (rest : List ℕ) (ahead cause : ℕ) (v : Bool) → is_plus_minus byte ≡ v
    → exponent_digits (count + (if v then 2 else 1)) (drop (if v then 2 else 1) (letter ∷ byte ∷ rest)) ≡ Bad ahead cause → Runs IsPower (byte ∷ rest) ahead cause ⊎ Stops (NoDigit (byte ∷ rest)) ahead cause
signed_bad count letter byte rest ahead cause true sign is = elim (digits_bad (count + 2) rest ahead cause is) [
  | inl t ↦ inl (record { bytes = byte ∷ t.bytes; behind = t.behind; are = ap (λ (xs : List ℕ). byte ∷ xs) t.are; has = inl (sign, t.has); goes_on = t.goes_on; at = t.at; is = t.is })
  | inr s ↦ inr (record { holds = inl (sign, s.holds); at = s.at; is = s.is })
]
signed_bad count letter byte rest ahead cause false sign is = elim (digits_bad (count + 1) (byte ∷ rest) ahead cause is) [
  | inl t ↦ inl (record { bytes = t.bytes; behind = t.behind; are = t.are; has = power t.bytes t.behind t.has; goes_on = t.goes_on; at = t.at; is = t.is })
  | inr s ↦ inr (record { holds = inr (sign, s.holds); at = s.at; is = s.is })
]

power_bad : (count : ℕ) (letter : ℕ) (rest : List ℕ) (ahead cause : ℕ)
    → exponent_digits (count + (if starts is_plus_minus rest then 2 else 1)) (drop (if starts is_plus_minus rest then 2 else 1) (letter ∷ rest)) ≡ Bad ahead cause → Runs IsPower rest ahead cause ⊎ Stops (NoDigit rest) ahead cause
power_bad count letter [] ahead cause is = inr (record { holds = tt; at = cc is; is = cc is })
power_bad count letter (byte ∷ rest) ahead cause is = signed_bad count letter byte rest ahead cause (is_plus_minus byte) refl is

some_sign : (count : ℕ) (v : Bool) (byte : ℕ) (rest : List ℕ) (total : Piece)
    → (if (if v then 2 else 1) == 0 then ended count (byte ∷ rest) else exponent_digits (count + (if v then 2 else 1)) (drop (if v then 2 else 1) (byte ∷ rest))) ≡ total
    → exponent_digits (count + (if v then 2 else 1)) (drop (if v then 2 else 1) (byte ∷ rest)) ≡ total
some_sign count true byte rest total is = is
some_sign count false byte rest total is = is

abbrev BadEnd : List ℕ → Type 0
BadEnd text = NoPower text ⊎ RunsOn text

letter_bad : (byte : ℕ) (rest : List ℕ) (ahead cause : ℕ) → is_exponent byte ≡ true → Runs IsPower rest ahead cause ⊎ Stops (NoDigit rest) ahead cause → Stops (BadEnd (byte ∷ rest)) ahead cause
letter_bad byte rest ahead cause letter (inl t) = record { holds = inr (record { exponent = byte ∷ t.bytes; behind = t.behind; are = ap (λ (xs : List ℕ). byte ∷ xs) t.are; has_exponent = (letter, t.has); goes_on = t.goes_on }); at = t.at; is = t.is }
letter_bad byte rest ahead cause letter (inr s) = record { holds = inl (record { letter = byte; behind = rest; are = refl; is_letter = letter; no_digit = s.holds }); at = s.at; is = s.is }

exponent_case : (count : ℕ) (byte : ℕ) (rest : List ℕ) (ahead cause : ℕ) (v : Bool) → is_exponent byte ≡ v
    → (if (if v then (if starts is_plus_minus rest then 2 else 1) else 0) == 0 then ended count (byte ∷ rest) else exponent_digits (count + (if v then (if starts is_plus_minus rest then 2 else 1) else 0)) (drop (if v then (if starts is_plus_minus rest then 2 else 1) else 0) (byte ∷ rest))) ≡ Bad ahead cause
    → Stops (BadEnd (byte ∷ rest)) ahead cause
exponent_case count byte rest ahead cause false letter is =
    let e = ended_bad count (byte ∷ rest) ahead cause is in
    record { holds = inr (record { exponent = []; behind = byte ∷ rest; are = refl; has_exponent = letter; goes_on = e.holds }); at = e.at; is = e.is }
exponent_case count byte rest ahead cause true letter is = letter_bad byte rest ahead cause letter (power_bad count byte rest ahead cause (some_sign count (starts is_plus_minus rest) byte rest (Bad ahead cause) is))

exponent_bad : (count : ℕ) (text : List ℕ) (ahead cause : ℕ) → exponent count text ≡ Bad ahead cause → Stops (BadEnd text) ahead cause
exponent_bad count [] ahead cause is = absurd (cc is)
exponent_bad count (byte ∷ rest) ahead cause is = exponent_case count byte rest ahead cause (is_exponent byte) refl is

number_bad : (digit : ℕ) (rest : List ℕ) (ahead cause : ℕ) → is_digit digit ≡ true → number rest ≡ Bad ahead cause → IsBad ahead cause (digit ∷ rest)
number_bad digit rest ahead cause first is =
    let w = run_front in_number rest in
    let m = ap (after_whole (1 + prefix_len in_number rest)) (sym (behind_is (prefix_len in_number rest) rest w)) ∙ is in
    let f = fraction_front w.behind in
    let n = ap (exponent (1 + prefix_len in_number rest + fraction w.behind)) (sym (behind_is (fraction w.behind) w.behind f)) ∙ m in
    let e = exponent_bad (1 + prefix_len in_number rest + fraction w.behind) f.behind ahead cause n in
    subst (λ c. IsBad ahead c (digit ∷ rest)) e.is (
      sym e.at,
      record {
        digit = digit;
        whole = w.bytes;
        fraction = f.bytes;
        behind = f.behind;
        are = ap (λ (xs : List ℕ). digit ∷ xs) (w.are ∙ ap (λ (xs : List ℕ). w.bytes ++ xs) f.are);
        is_first = first;
        is_whole = subst (λ (xs : List ℕ). Run in_number w.bytes xs) f.are w.has;
        is_fraction = f.has;
        is_bad = e.holds;
      },
    )

-- ---- a Text

front_unclosed : (rest inside behind : List ℕ) (ahead cause : ℕ) → rest ≡ inside ++ behind → list_all in_text inside ≡ true → ends_line behind ≡ true → 0 ≡ ahead → 2 ≡ cause → IsBad ahead cause (34 ∷ rest)
front_unclosed rest inside behind ahead cause are all ends at is =
    subst (λ c. IsBad ahead c (34 ∷ rest)) is (sym at, record { inside = inside; behind = behind; are = ap (λ (xs : List ℕ). 34 ∷ xs) are; all = all; ends = ends })

closed_bad : (rest inside behind : List ℕ) (count ahead cause : ℕ) → rest ≡ inside ++ behind → count ≡ length inside → list_all in_text inside ≡ true → starts in_text behind ≡ false → closed count behind ≡ Bad ahead cause → IsBad ahead cause (34 ∷ rest)
closed_bad rest inside [] count ahead cause are long all ends is = front_unclosed rest inside [] ahead cause are all refl (cc is) (cc is)
closed_bad rest inside (byte ∷ behind) count ahead cause are long all ends is = elim (chosen (byte == 34) _ _ _ is) [
  | inl quote ↦ absurd (cc quote.1)
  | inr other ↦ elim (chosen (is_line_end byte) _ _ _ other.1) [
    | inl line ↦ front_unclosed rest inside (byte ∷ behind) ahead cause are all line.0 (cc line.1) (cc line.1)
    | inr bad ↦
        let far : suc count ≡ ahead = cc bad.1 in
        let one : 1 ≡ cause = cc bad.1 in
        subst (λ c. IsBad ahead c (34 ∷ rest)) one (inr (record { inside = inside; byte = byte; behind = behind; are = ap (λ (xs : List ℕ). 34 ∷ xs) are; all = all; no_text = ends; no_quote = other.0; no_end = bad.0; far = omega (arith, far, long) }))
  ]
]

text_bad : (byte : ℕ) (rest : List ℕ) (ahead cause : ℕ) → (byte == 34) ≡ true → quoted rest ≡ Bad ahead cause → IsBad ahead cause (byte ∷ rest)
text_bad byte rest ahead cause quote is =
    let f = run_front in_text rest in
    let c = closed_bad rest f.bytes f.behind (prefix_len in_text rest) ahead cause f.are f.long f.has.all f.has.ends (ap (closed (prefix_len in_text rest)) (sym (behind_is (prefix_len in_text rest) rest f)) ∙ is) in
    subst (λ x. IsBad ahead cause (x ∷ rest)) (sym (eqb-true byte 34 quote)) c

byte_bad : (byte : ℕ) (rest : List ℕ) (ahead cause : ℕ) → is_blank byte ≡ false → is_visible byte ≡ false → Bad 0 1 ≡ Bad ahead cause → IsBad ahead cause (byte ∷ rest)
byte_bad byte rest ahead cause blank visible is =
    let one : 1 ≡ cause = cc is in
    let none : 0 ≡ ahead = cc is in
    subst (λ c. IsBad ahead c (byte ∷ rest)) one (inl (sym none, record { byte = byte; behind = rest; are = refl; no_blank = blank; no_visible = visible }))

pub bad_at : (text : List ℕ) (ahead cause : ℕ) → first_piece text ≡ Bad ahead cause → IsBad ahead cause text
bad_at [] ahead cause is = absurd (cc is)
bad_at (byte ∷ rest) ahead cause is = elim (chosen (is_blank byte) _ _ _ is) [
  | inl gap ↦ absurd (cc gap.1)
  | inr a ↦ elim (chosen ((byte == 45) && starts (λ next. next == 45) rest) _ _ _ a.1) [
    | inl gap ↦ absurd (cc gap.1)
    | inr b ↦ elim (chosen (is_letter byte) _ _ _ b.1) [
      | inl letter ↦ absurd (cc letter.1)
      | inr d ↦ elim (chosen (is_digit byte) _ _ _ d.1) [
        | inl digit ↦ number_bad byte rest ahead cause digit.0 digit.1
        | inr e ↦ elim (chosen (byte == 34) _ _ _ e.1) [
          | inl quote ↦ text_bad byte rest ahead cause quote.0 quote.1
          | inr f ↦ elim (chosen (is_visible byte) _ _ _ f.1) [ inl sign ↦ absurd (cc sign.1) | inr bad ↦ byte_bad byte rest ahead cause a.0 bad.0 bad.1 ]
        ]
      ]
    ]
  ]
]
