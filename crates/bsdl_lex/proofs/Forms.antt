-- What stands at the front of a text has the form of its kind.
use Rattle.std.proofs.Common.{◌≡◌, ℕ, ◌+◌, Bool, true, false, ◌&&◌, ◌==◌, if◌then◌else◌, ◌⊎◌, inl, inr, List, [], ◌∷◌, ◌++◌, length, drop, refl, sym, ap, subst, ◌∙◌, append_assoc, arith, length-append}
use Rattle.std.specs.List.{list_all, prefix_len}
use Rattle.std.proofs.lemmas.Bool.{and_parts, eqb-true, cases_Bool}
use Rattle.bsdl_lex.specs.declared.TokenKind.{TokenKind}
use Rattle.bsdl_lex.specs.declared.TokenKind.TheVariants.{Word, Number, Text, Sign}
use Rattle.bsdl_lex.specs.declared.Piece.{Piece}
use Rattle.bsdl_lex.specs.declared.Piece.TheVariants.{Gap, Found}
use Rattle.bsdl_lex.specs.Tokens.{is_blank, is_letter, is_digit, is_visible, is_line_end, in_word, in_number, in_comment, in_text, is_exponent, is_plus_minus, starts, fraction, exponent_sign, ended, exponent_digits, exponent, after_whole, number, closed, quoted, first_piece}
use Rattle.bsdl_lex.specs.Grammar.{Run, Some, IsFraction, IsPower, IsExponent, IsNumber, IsWord, IsText, IsComment, IsSign, IsToken}

-- so many bytes at the front of a text, of a form
pub record Front (form : List ℕ → List ℕ → Type 0) (count : ℕ) (text : List ℕ) : Type 0 where
  pub bytes : List ℕ
  pub behind : List ℕ
  pub are : text ≡ bytes ++ behind
  pub long : count ≡ length bytes
  pub has : form bytes behind

-- a test passed, or it did not
pub chosen : {A : Type 0} (test : Bool) (x y z : A) → (if test then x else y) ≡ z → ((test ≡ true) × (x ≡ z)) ⊎ ((test ≡ false) × (y ≡ z))
chosen true x y z is = inl (refl, is)
chosen false x y z is = inr (refl, is)

pub dropped : (bytes behind : List ℕ) → drop (length bytes) (bytes ++ behind) ≡ behind
dropped [] behind = refl
dropped (byte ∷ bytes) behind = dropped bytes behind

pub behind_is : {form : List ℕ → List ℕ → Type 0} (count : ℕ) (text : List ℕ) (f : Front form count text) → drop count text ≡ f.behind
behind_is count text f = rw (f.long, f.are) (dropped f.bytes f.behind)

run_yes : (passes : ℕ → Bool) (byte : ℕ) (rest : List ℕ) → passes byte ≡ true → Front (Run passes) (prefix_len passes rest) rest → Front (Run passes) (prefix_len passes (byte ∷ rest)) (byte ∷ rest)
run_yes passes byte rest is f = record {
  bytes = byte ∷ f.bytes;
  behind = f.behind;
  are = ap (λ (xs : List ℕ). byte ∷ xs) f.are;
  long = rw is (omega (arith, f.long));
  has = record { all = rw is f.has.all; ends = f.has.ends };
}

run_no : (passes : ℕ → Bool) (byte : ℕ) (rest : List ℕ) → passes byte ≡ false → Front (Run passes) (prefix_len passes (byte ∷ rest)) (byte ∷ rest)
run_no passes byte rest is = record { bytes = []; behind = byte ∷ rest; are = refl; long = rw is refl; has = record { all = refl; ends = is } }

pub run_front : (passes : ℕ → Bool) (text : List ℕ) → Front (Run passes) (prefix_len passes text) text
run_front passes [] = record { bytes = []; behind = []; are = refl; long = refl; has = record { all = refl; ends = refl } }
run_front passes (byte ∷ rest) = elim (cases_Bool (passes byte)) [
  | inl is ↦ run_yes passes byte rest is (run_front passes rest)
  | inr is ↦ run_no passes byte rest is
]

-- at least one
pub some_front : (passes : ℕ → Bool) (text : List ℕ) → starts passes text ≡ true → Front (Some passes) (prefix_len passes text) text
some_front passes [] is = absurd (cc is)
some_front passes (byte ∷ rest) is =
    let f = run_front passes rest in
    record { bytes = byte ∷ f.bytes; behind = f.behind; are = ap (λ (xs : List ℕ). byte ∷ xs) f.are; long = rw is (omega (arith, f.long)); has = record { run = record { all = rw is f.has.all; ends = f.has.ends }; any = is } }

-- ---- a Number, part by part

fraction_case : (byte : ℕ) (rest : List ℕ) (v : Bool) → ((byte == 46) && starts is_digit rest) ≡ v → Front IsFraction (if v then 1 + prefix_len is_digit rest else 0) (byte ∷ rest)
fraction_case byte rest false is = record { bytes = []; behind = byte ∷ rest; are = refl; long = refl; has = is }
fraction_case byte rest true is =
    let both = and_parts (byte == 46) (starts is_digit rest) is in
    let f = some_front is_digit rest both.1 in
    record { bytes = byte ∷ f.bytes; behind = f.behind; are = ap (λ (xs : List ℕ). byte ∷ xs) f.are; long = omega (arith, f.long); has = (eqb-true byte 46 both.0, f.has) }

pub fraction_front : (text : List ℕ) → Front IsFraction (fraction text) text
fraction_front [] = record { bytes = []; behind = []; are = refl; long = refl; has = refl }
fraction_front (byte ∷ rest) = fraction_case byte rest _ refl

-- the end of a Number: so many bytes of a form stand behind the first `count`, and then neither a letter nor `_`
pub record Tail (form : List ℕ → List ℕ → Type 0) (count : ℕ) (text : List ℕ) (kind : TokenKind) (end : ℕ) : Type 0 where
  pub bytes : List ℕ
  pub behind : List ℕ
  pub are : text ≡ bytes ++ behind
  pub long : end ≡ count + length bytes
  pub has : form bytes behind
  pub ends : starts in_word behind ≡ false
  pub is_number : Number ≡ kind

pub record Ended (count : ℕ) (text : List ℕ) (kind : TokenKind) (end : ℕ) : Type 0 where
  pub long : count ≡ end
  pub ends : starts in_word text ≡ false
  pub is_number : Number ≡ kind

ended_at : (count : ℕ) (text : List ℕ) (kind : TokenKind) (end : ℕ) → ended count text ≡ Found kind end → Ended count text kind end
ended_at count text kind end is = elim (chosen (starts in_word text) _ _ _ is) [
  | inl more ↦ absurd (cc more.1)
  | inr other ↦ record { long = cc other.1; ends = other.0; is_number = cc other.1 }
]

digits_at : (count : ℕ) (text : List ℕ) (kind : TokenKind) (end : ℕ) → exponent_digits count text ≡ Found kind end → Tail (Some is_digit) count text kind end
digits_at count text kind end is = elim (chosen (starts is_digit text) _ _ _ is) [
  | inr other ↦ absurd (cc other.1)
  | inl some ↦
      let f = some_front is_digit text some.0 in
      let e = ended_at (count + prefix_len is_digit text) f.behind kind end (ap (ended (count + prefix_len is_digit text)) (sym (behind_is (prefix_len is_digit text) text f)) ∙ some.1) in
      record { bytes = f.bytes; behind = f.behind; are = f.are; long = omega (arith, e.long, f.long); has = f.has; ends = e.ends; is_number = e.is_number }
]

pub power : (bytes behind : List ℕ) → Some is_digit bytes behind → IsPower bytes behind
power [] behind some = absurd (cc some.any)
power (byte ∷ bytes) behind some = inr some

signed : (count letter byte : ℕ) (rest : List ℕ) (kind : TokenKind) (end : ℕ) (v : Bool)
    → exponent_digits (count + (if v then 2 else 1)) (drop (if v then 2 else 1) (letter ∷ byte ∷ rest)) ≡ Found kind end
    → exponent_digits (count + (if v then 2 else 1)) (drop (if v then 2 else 1) (byte ∷ byte ∷ rest)) ≡ Found kind end
signed count letter byte rest kind end true is = is
signed count letter byte rest kind end false is = is

some_sign : (count : ℕ) (v : Bool) (byte : ℕ) (rest : List ℕ) (total : Piece)
    → (if (if v then 2 else 1) == 0 then ended count (byte ∷ rest) else exponent_digits (count + (if v then 2 else 1)) (drop (if v then 2 else 1) (byte ∷ rest))) ≡ total
    → exponent_digits (count + (if v then 2 else 1)) (drop (if v then 2 else 1) (byte ∷ rest)) ≡ total
some_sign count true byte rest total is = is
some_sign count false byte rest total is = is

-- behind `e` or `E`
signed_case : (count : ℕ) (byte : ℕ) (rest : List ℕ) (kind : TokenKind) (end : ℕ) (v : Bool) → is_plus_minus byte ≡ v
    → exponent_digits (count + (if v then 2 else 1)) (drop (if v then 2 else 1) (byte ∷ byte ∷ rest)) ≡ Found kind end → Tail IsPower (count + 1) (byte ∷ rest) kind end
signed_case count byte rest kind end true sign is =
    let t = digits_at (count + 2) rest kind end is in
    record { bytes = byte ∷ t.bytes; behind = t.behind; are = ap (λ (xs : List ℕ). byte ∷ xs) t.are; long = omega (arith, t.long); has = inl (sign, t.has); ends = t.ends; is_number = t.is_number }
signed_case count byte rest kind end false sign is =
    let t = digits_at (count + 1) (byte ∷ rest) kind end is in
    record { bytes = t.bytes; behind = t.behind; are = t.are; long = t.long; has = power t.bytes t.behind t.has; ends = t.ends; is_number = t.is_number }

power_at : (count : ℕ) (letter : ℕ) (rest : List ℕ) (kind : TokenKind) (end : ℕ)
    → exponent_digits (count + (if starts is_plus_minus rest then 2 else 1)) (drop (if starts is_plus_minus rest then 2 else 1) (letter ∷ rest)) ≡ Found kind end → Tail IsPower (count + 1) rest kind end
power_at count letter [] kind end is = absurd (cc is)
power_at count letter (byte ∷ rest) kind end is = signed_case count byte rest kind end _ refl (signed count letter byte rest kind end (is_plus_minus byte) is)

exponent_case : (count : ℕ) (byte : ℕ) (rest : List ℕ) (kind : TokenKind) (end : ℕ) (v : Bool) → is_exponent byte ≡ v
    → (if (if v then (if starts is_plus_minus rest then 2 else 1) else 0) == 0 then ended count (byte ∷ rest) else exponent_digits (count + (if v then (if starts is_plus_minus rest then 2 else 1) else 0)) (drop (if v then (if starts is_plus_minus rest then 2 else 1) else 0) (byte ∷ rest))) ≡ Found kind end
    → Tail IsExponent count (byte ∷ rest) kind end
exponent_case count byte rest kind end false letter is =
    let e = ended_at count (byte ∷ rest) kind end is in
    record { bytes = []; behind = byte ∷ rest; are = refl; long = omega (arith, e.long); has = letter; ends = e.ends; is_number = e.is_number }
exponent_case count byte rest kind end true letter is =
    let t = power_at count byte rest kind end (some_sign count (starts is_plus_minus rest) byte rest (Found kind end) is) in
    record { bytes = byte ∷ t.bytes; behind = t.behind; are = ap (λ (xs : List ℕ). byte ∷ xs) t.are; long = omega (arith, t.long); has = (letter, t.has); ends = t.ends; is_number = t.is_number }

pub exponent_at : (count : ℕ) (text : List ℕ) (kind : TokenKind) (end : ℕ) → exponent count text ≡ Found kind end → Tail IsExponent count text kind end
exponent_at count [] kind end is =
    let e = ended_at count [] kind end is in
    record { bytes = []; behind = []; are = refl; long = omega (arith, e.long); has = refl; ends = e.ends; is_number = e.is_number }
exponent_at count (byte ∷ rest) kind end is = exponent_case count byte rest kind end (is_exponent byte) refl is

-- the whole of it
number_joined : (digit : ℕ) (rest whole fraction exponent behind after_whole after_fraction : List ℕ) (a b c end : ℕ) → rest ≡ whole ++ after_whole → after_whole ≡ fraction ++ after_fraction → after_fraction ≡ exponent ++ behind
    → a ≡ length whole → b ≡ length fraction → end ≡ 1 + a + b + length exponent → is_digit digit ≡ true → Run in_number whole after_whole → IsFraction fraction after_fraction → IsExponent exponent behind → starts in_word behind ≡ false
    → Front IsNumber end (digit ∷ rest)
number_joined digit rest whole fraction exponent behind after_whole after_fraction a b c end is_rest is_after is_last la lb lend first run frac expo ends = record {
  bytes = digit ∷ whole ++ (fraction ++ exponent);
  behind = behind;
  are = ap (λ (xs : List ℕ). digit ∷ xs) (is_rest ∙ ap (λ (xs : List ℕ). whole ++ xs) (is_after ∙ ap (λ (xs : List ℕ). fraction ++ xs) is_last ∙ sym (append_assoc fraction exponent behind)) ∙ sym (append_assoc whole (fraction ++ exponent) behind));
  long = omega (arith, length-append whole (fraction ++ exponent), length-append fraction exponent, la, lb, lend);
  has = record {
    digit = digit;
    whole = whole;
    fraction = fraction;
    exponent = exponent;
    are = refl;
    is_first = first;
    is_whole = subst (λ (xs : List ℕ). Run in_number whole xs) (is_after ∙ ap (λ (xs : List ℕ). fraction ++ xs) is_last) run;
    is_fraction = subst (λ (xs : List ℕ). IsFraction fraction xs) is_last frac;
    has_exponent = expo;
    ends = ends;
  };
}

number_at : (digit : ℕ) (rest : List ℕ) (kind : TokenKind) (end : ℕ) → is_digit digit ≡ true → number rest ≡ Found kind end → Front (IsToken kind) end (digit ∷ rest)
number_at digit rest kind end first is =
    let w = run_front in_number rest in
    let m = ap (after_whole (1 + prefix_len in_number rest)) (sym (behind_is (prefix_len in_number rest) rest w)) ∙ is in
    let f = fraction_front w.behind in
    let n = ap (exponent (1 + prefix_len in_number rest + fraction w.behind)) (sym (behind_is (fraction w.behind) w.behind f)) ∙ m in
    let e = exponent_at (1 + prefix_len in_number rest + fraction w.behind) f.behind kind end n in
    subst (λ k. Front (IsToken k) end (digit ∷ rest)) e.is_number
    (number_joined digit rest w.bytes f.bytes e.bytes e.behind w.behind f.behind (prefix_len in_number rest) (fraction w.behind) 0 end w.are f.are e.are w.long f.long e.long first w.has f.has e.has e.ends)

-- ---- a Text

record Closed (inside : ℕ) (text : List ℕ) (kind : TokenKind) (end : ℕ) : Type 0 where
  behind : List ℕ
  are : text ≡ 34 ∷ behind
  long : inside + 2 ≡ end
  is_text : Text ≡ kind

closed_at : (inside : ℕ) (text : List ℕ) (kind : TokenKind) (end : ℕ) → closed inside text ≡ Found kind end → Closed inside text kind end
closed_at inside [] kind end is = absurd (cc is)
closed_at inside (byte ∷ rest) kind end is = elim (chosen (byte == 34) _ _ _ is) [
  | inl quote ↦ record { behind = rest; are = ap (λ x. x ∷ rest) (eqb-true byte 34 quote.0); long = cc quote.1; is_text = cc quote.1 }
  | inr other ↦ elim (chosen (is_line_end byte) _ _ _ other.1) [ inl line ↦ absurd (cc line.1) | inr bad ↦ absurd (cc bad.1) ]
]

text_joined : (rest inside after behind : List ℕ) (count end : ℕ) → rest ≡ inside ++ after → after ≡ 34 ∷ behind → count ≡ length inside → count + 2 ≡ end → list_all in_text inside ≡ true
    → Front (λ bytes back. IsText bytes) end (34 ∷ rest)
text_joined rest inside after behind count end is_rest is_after la lend all = record {
  bytes = 34 ∷ inside ++ 34 ∷ [];
  behind = behind;
  are = ap (λ (xs : List ℕ). 34 ∷ xs) (is_rest ∙ ap (λ (xs : List ℕ). inside ++ xs) is_after ∙ sym (append_assoc inside (34 ∷ []) behind));
  long = omega (arith, length-append inside (34 ∷ []), la, lend);
  has = record { inside = inside; are = refl; all = all };
}

text_at : (byte : ℕ) (rest : List ℕ) (kind : TokenKind) (end : ℕ) → (byte == 34) ≡ true → quoted rest ≡ Found kind end → Front (IsToken kind) end (byte ∷ rest)
text_at byte rest kind end quote is =
    let f = run_front in_text rest in
    let c = closed_at (prefix_len in_text rest) f.behind kind end (ap (closed (prefix_len in_text rest)) (sym (behind_is (prefix_len in_text rest) rest f)) ∙ is) in
    let t = text_joined rest f.bytes f.behind c.behind (prefix_len in_text rest) end f.are c.are f.long c.long f.has.all in
    subst (λ k. Front (IsToken k) end (byte ∷ rest)) c.is_text (subst (λ x. Front (IsToken Text) end (x ∷ rest)) (sym (eqb-true byte 34 quote)) t)

-- ---- all tokens and gaps

word_at : (byte : ℕ) (rest : List ℕ) → is_letter byte ≡ true → Front IsWord (1 + prefix_len in_word rest) (byte ∷ rest)
word_at byte rest letter =
    let f = run_front in_word rest in
    record { bytes = byte ∷ f.bytes; behind = f.behind; are = ap (λ (xs : List ℕ). byte ∷ xs) f.are; long = omega (arith, f.long); has = (letter, f.has) }

word_is : (byte : ℕ) (rest : List ℕ) (kind : TokenKind) (end : ℕ) → is_letter byte ≡ true → Found Word (1 + prefix_len in_word rest) ≡ Found kind end → Front (IsToken kind) end (byte ∷ rest)
word_is byte rest kind end letter is =
    let k : Word ≡ kind = cc is in
    let n : 1 + prefix_len in_word rest ≡ end = cc is in
    subst (λ k. Front (IsToken k) end (byte ∷ rest)) k (subst (λ n. Front IsWord n (byte ∷ rest)) n (word_at byte rest letter))

sign_is : (byte : ℕ) (rest : List ℕ) (kind : TokenKind) (end : ℕ) → IsSign byte rest → Found Sign 1 ≡ Found kind end → Front (IsToken kind) end (byte ∷ rest)
sign_is byte rest kind end sign is =
    let k : Sign ≡ kind = cc is in
    let n : 1 ≡ end = cc is in
    subst (λ k. Front (IsToken k) end (byte ∷ rest)) k (record { bytes = byte ∷ []; behind = rest; are = refl; long = sym n; has = sign })

comment_is : (byte : ℕ) (rest : List ℕ) (count : ℕ) → ((byte == 45) && starts (λ next. next == 45) rest) ≡ true → 1 + prefix_len in_comment rest ≡ count → Front IsComment count (byte ∷ rest)
comment_is byte [] count is long =
    let both = and_parts (byte == 45) false is in
    absurd (cc both.1)
comment_is byte (next ∷ rest) count is long =
    let both = and_parts (byte == 45) (next == 45) is in
    let first : byte ≡ 45 = eqb-true byte 45 both.0 in
    let second : next ≡ 45 = eqb-true next 45 both.1 in
    let f = run_front in_comment rest in
    let l : 1 + prefix_len in_comment (45 ∷ rest) ≡ count = ap (λ x. 1 + prefix_len in_comment (x ∷ rest)) (sym second) ∙ long in
    record {
      bytes = 45 ∷ 45 ∷ f.bytes;
      behind = f.behind;
      are = ap (λ x. x ∷ next ∷ rest) first ∙ ap (λ x. 45 ∷ x ∷ rest) second ∙ ap (λ (xs : List ℕ). 45 ∷ 45 ∷ xs) f.are;
      long = omega (arith, l, f.long);
      has = record { body = f.bytes; are = refl; is_body = f.has };
    }

-- a Number and a Text are no gaps
no_gap_ended : (count : ℕ) (text : List ℕ) (gap : ℕ) → ended count text ≡ Gap gap → ⊥
no_gap_ended count text gap is = elim (chosen (starts in_word text) _ _ _ is) [ inl a ↦ absurd (cc a.1) | inr b ↦ absurd (cc b.1) ]

no_gap_digits : (count : ℕ) (text : List ℕ) (gap : ℕ) → exponent_digits count text ≡ Gap gap → ⊥
no_gap_digits count text gap is = elim (chosen (starts is_digit text) _ _ _ is) [ inl a ↦ no_gap_ended (count + prefix_len is_digit text) (drop (prefix_len is_digit text) text) gap a.1 | inr b ↦ absurd (cc b.1) ]

no_gap_exponent : (count : ℕ) (text : List ℕ) (gap : ℕ) → exponent count text ≡ Gap gap → ⊥
no_gap_exponent count text gap is = elim (chosen (exponent_sign text == 0) _ _ _ is) [
  | inl a ↦ no_gap_ended count text gap a.1
  | inr b ↦ no_gap_digits (count + exponent_sign text) (drop (exponent_sign text) text) gap b.1
]

no_gap_whole : (count : ℕ) (text : List ℕ) (gap : ℕ) → after_whole count text ≡ Gap gap → ⊥
no_gap_whole count text gap is = no_gap_exponent (count + fraction text) (drop (fraction text) text) gap is

no_gap_number : (rest : List ℕ) (gap : ℕ) → number rest ≡ Gap gap → ⊥
no_gap_number rest gap is = no_gap_whole (1 + prefix_len in_number rest) (drop (prefix_len in_number rest) rest) gap is

no_gap_text : (inside : ℕ) (text : List ℕ) (gap : ℕ) → closed inside text ≡ Gap gap → ⊥
no_gap_text inside [] gap is = cc is
no_gap_text inside (byte ∷ rest) gap is = elim (chosen (byte == 34) _ _ _ is) [
  | inl a ↦ absurd (cc a.1)
  | inr b ↦ elim (chosen (is_line_end byte) _ _ _ b.1) [ inl d ↦ absurd (cc d.1) | inr e ↦ absurd (cc e.1) ]
]

-- the tests that came before fail
pub token_at : (text : List ℕ) (kind : TokenKind) (end : ℕ) → first_piece text ≡ Found kind end → Front (IsToken kind) end text
token_at [] kind end is = absurd (cc is)
token_at (byte ∷ rest) kind end is = elim (chosen (is_blank byte) _ _ _ is) [
  | inl gap ↦ absurd (cc gap.1)
  | inr a ↦ elim (chosen ((byte == 45) && starts (λ next. next == 45) rest) _ _ _ a.1) [
    | inl gap ↦ absurd (cc gap.1)
    | inr b ↦ elim (chosen (is_letter byte) _ _ _ b.1) [
      | inl letter ↦ word_is byte rest kind end letter.0 letter.1
      | inr d ↦ elim (chosen (is_digit byte) _ _ _ d.1) [
        | inl digit ↦ number_at byte rest kind end digit.0 digit.1
        | inr e ↦ elim (chosen (byte == 34) _ _ _ e.1) [
          | inl quote ↦ text_at byte rest kind end quote.0 quote.1
          | inr f ↦ elim (chosen (is_visible byte) _ _ _ f.1) [
            | inl sign ↦ sign_is byte rest kind end (record { is_visible = sign.0; no_letter = d.0; no_digit = e.0; no_quote = f.0; no_comment = b.0 }) sign.1
            | inr bad ↦ absurd (cc bad.1)
          ]
        ]
      ]
    ]
  ]
]

-- a gap is a blank or a comment
pub gap_at : (byte : ℕ) (rest : List ℕ) (count : ℕ) → first_piece (byte ∷ rest) ≡ Gap count → ((is_blank byte ≡ true) × (1 ≡ count)) ⊎ Front IsComment count (byte ∷ rest)
gap_at byte rest count is = elim (chosen (is_blank byte) _ _ _ is) [
  | inl blank ↦ inl (blank.0, cc blank.1)
  | inr a ↦ elim (chosen ((byte == 45) && starts (λ next. next == 45) rest) _ _ _ a.1) [
    | inl comment ↦ inr (comment_is byte rest count comment.0 (cc comment.1))
    | inr b ↦ elim (chosen (is_letter byte) _ _ _ b.1) [
      | inl letter ↦ absurd (cc letter.1)
      | inr d ↦ elim (chosen (is_digit byte) _ _ _ d.1) [
        | inl digit ↦ absurd (no_gap_number rest count digit.1)
        | inr e ↦ elim (chosen (byte == 34) _ _ _ e.1) [
          | inl quote ↦ absurd (no_gap_text (prefix_len in_text rest) (drop (prefix_len in_text rest) rest) count quote.1)
          | inr f ↦ elim (chosen (is_visible byte) _ _ _ f.1) [ inl sign ↦ absurd (cc sign.1) | inr bad ↦ absurd (cc bad.1) ]
        ]
      ]
    ]
  ]
]
