-- A text of these forms is read so.
use Rattle.std.proofs.Common.{◌≡◌, ℕ, suc, ◌+◌, ◌≤◌, ◌<◌, Bool, true, false, not, ◌==◌, nat_lt, ◌⊎◌, inl, inr, List, [], ◌∷◌, ◌++◌, length, refl, sym, ap, subst, ◌∙◌, append_assoc, arith, length-append}
use Rattle.std.specs.List.{list_all, prefix_len}
use Rattle.std.proofs.lemmas.Bool.{and_parts, or_cases, ne_eqb, ltb-false, lt-ltb, not-true, cases_Bool}
use Rattle.bsdl_lex.specs.declared.TokenKind.{TokenKind}
use Rattle.bsdl_lex.specs.declared.TokenKind.TheVariants.{Word, Number, Text, Sign}
use Rattle.bsdl_lex.specs.declared.Piece.{Piece}
use Rattle.bsdl_lex.specs.declared.Piece.TheVariants.{Gap, Found, Bad}
use Rattle.bsdl_lex.specs.Tokens.{within, is_blank, is_letter, is_digit, in_word, in_number, in_comment, in_text, is_exponent, is_plus_minus, starts, fraction, ended, exponent_digits, exponent, number, quoted, first_piece}
use Rattle.bsdl_lex.specs.Grammar.{Run, Some, starts_fraction, IsFraction, IsPower, IsExponent, IsNumber, IsText, IsComment, IsSign, IsToken}
use Rattle.bsdl_lex.proofs.Forms.{dropped}

-- ---- bytes

pub within_parts : (low high byte : ℕ) → within low high byte ≡ true → (low ≤ byte) × (byte ≤ high)
within_parts low high byte is =
    let both = and_parts (not (nat_lt byte low)) (not (nat_lt high byte)) is in
    (ltb-false byte low (not-true (nat_lt byte low) both.0), ltb-false high byte (not-true (nat_lt high byte) both.1))

pub within_no : (low high byte : ℕ) → (byte < low) ⊎ (high < byte) → within low high byte ≡ false
within_no low high byte (inl lt) = let e = lt-ltb byte low lt in rw e refl
within_no low high byte (inr gt) = elim (cases_Bool (nat_lt byte low)) [ inl a ↦ rw a refl | inr b ↦ rw (b, lt-ltb high byte gt) refl ]

pub other_byte : (byte code : ℕ) → (byte ≡ code → ⊥) → (byte == code) ≡ false
other_byte byte code differ = ne_eqb byte code differ

-- a byte from 33 on is no blank
pub no_blank : (byte : ℕ) → 33 ≤ byte → is_blank byte ≡ false
no_blank byte le = rw (within_no 9 13 byte (inr (omega (arith, le))), other_byte byte 32 (λ e. omega (arith, le, e))) refl

pub no_letter : (byte : ℕ) → byte < 65 → is_letter byte ≡ false
no_letter byte lt = rw (within_no 65 90 byte (inl lt), within_no 97 122 byte (inl (omega (arith, lt)))) refl

pub letter_from : (byte : ℕ) → is_letter byte ≡ true → 65 ≤ byte
letter_from byte is = elim (or_cases (within 65 90 byte) (within 97 122 byte) is) [ inl a ↦ (within_parts 65 90 byte a).0 | inr b ↦ omega (arith, (within_parts 97 122 byte b).0) ]

pub no_plus_minus : (byte : ℕ) → 48 ≤ byte → is_plus_minus byte ≡ false
no_plus_minus byte le = rw (other_byte byte 43 (λ e. omega (arith, le, e)), other_byte byte 45 (λ e. omega (arith, le, e))) refl

-- ---- runs

pub run_length : (passes : ℕ → Bool) (bytes behind : List ℕ) → list_all passes bytes ≡ true → starts passes behind ≡ false → prefix_len passes (bytes ++ behind) ≡ length bytes
run_length passes [] [] all ends = refl
run_length passes [] (byte ∷ behind) all ends = rw ends refl
run_length passes (byte ∷ bytes) behind all ends =
    let both = and_parts (passes byte) (list_all passes bytes) all in
    rw (both.0, run_length passes bytes behind both.1 ends) (omega arith)

pub starts_more : (passes : ℕ → Bool) (bytes behind : List ℕ) → starts passes bytes ≡ true → starts passes (bytes ++ behind) ≡ true
starts_more passes [] behind is = absurd (cc is)
starts_more passes (byte ∷ bytes) behind is = is

-- ---- a Number

pub digits_are : (count : ℕ) (digits behind : List ℕ) → Some is_digit digits behind → exponent_digits count (digits ++ behind) ≡ ended (count + length digits) behind
digits_are count digits behind some = rw (starts_more is_digit digits behind some.any, run_length is_digit digits behind some.run.all some.run.ends, dropped digits behind) refl

power_is : (count : ℕ) (letter : ℕ) (power behind : List ℕ) → is_exponent letter ≡ true → IsPower power behind → exponent count (letter ∷ power ++ behind) ≡ ended (count + suc (length power)) behind
power_is count letter [] behind is form = absurd form
power_is count letter (sign ∷ digits) behind is (inl signed) =
    let d = digits_are (count + 2) digits behind signed.1 in
    let n : count + 2 + length digits ≡ count + suc (suc (length digits)) = omega arith in
    rw (is, signed.0) (d ∙ ap (λ k. ended k behind) n)
power_is count letter (sign ∷ digits) behind is (inr some) =
    let no_sign = no_plus_minus sign (within_parts 48 57 sign some.any).0 in
    let d = digits_are (count + 1) (sign ∷ digits) behind some in
    let n : count + 1 + suc (length digits) ≡ count + suc (suc (length digits)) = omega arith in
    rw (is, no_sign) (d ∙ ap (λ k. ended k behind) n)

-- no exponent
bare : (count : ℕ) (behind : List ℕ) → starts is_exponent behind ≡ false → exponent count behind ≡ ended count behind
bare count behind is = rw is refl

pub exponent_is : (count : ℕ) (bytes behind : List ℕ) → IsExponent bytes behind → exponent count (bytes ++ behind) ≡ ended (count + length bytes) behind
exponent_is count [] behind form = let n : count ≡ count + 0 = omega arith in bare count behind form ∙ ap (λ k. ended k behind) n
exponent_is count (letter ∷ power) behind form = power_is count letter power behind form.0 form.1

pub no_fraction : (behind : List ℕ) → starts_fraction behind ≡ false → fraction behind ≡ 0
no_fraction [] is = refl
no_fraction (byte ∷ behind) is = rw is refl

pub fraction_is : (bytes behind : List ℕ) → IsFraction bytes behind → fraction (bytes ++ behind) ≡ length bytes
fraction_is [] behind form = no_fraction behind form
fraction_is (point ∷ digits) behind form =
    let all = form.1.run.all in
    rw (form.0, starts_more is_digit digits behind form.1.any, run_length is_digit digits behind form.1.run.all form.1.run.ends) (omega arith)

-- a Number from its first digit on, up to what its exponent ends at
pub whole_is : (whole fraction exponent behind : List ℕ) → Run in_number whole (fraction ++ (exponent ++ behind)) → IsFraction fraction (exponent ++ behind) → IsExponent exponent behind
    → number (whole ++ (fraction ++ (exponent ++ behind))) ≡ ended (1 + length whole + length fraction + length exponent) behind
whole_is whole fraction exponent behind run frac expo =
    let a = exponent_is (1 + length whole + length fraction) exponent behind expo in
    rw (run_length in_number whole (fraction ++ (exponent ++ behind)) run.all run.ends, dropped whole (fraction ++ (exponent ++ behind)), fraction_is fraction (exponent ++ behind) frac, dropped fraction (exponent ++ behind)) a

stops : (count : ℕ) (behind : List ℕ) → starts in_word behind ≡ false → ended count behind ≡ Found Number count
stops count behind is = rw is refl

pub runs_on : (count : ℕ) (behind : List ℕ) → starts in_word behind ≡ true → ended count behind ≡ Bad 0 3
runs_on count behind is = rw is refl

text_is : (inside behind : List ℕ) → list_all in_text inside ≡ true → quoted (inside ++ 34 ∷ behind) ≡ Found Text (length inside + 2)
text_is inside behind all = rw (run_length in_text inside (34 ∷ behind) all refl, dropped inside (34 ∷ behind)) refl

-- ---- the tests that come before, passed by

pub digit_leads : (digit : ℕ) (rest : List ℕ) (piece : Piece) → is_digit digit ≡ true → number rest ≡ piece → first_piece (digit ∷ rest) ≡ piece
digit_leads digit rest piece is reads =
    let range = within_parts 48 57 digit is in
    let blank = no_blank digit (omega (arith, range.0)) in
    let dash = other_byte digit 45 (λ e. omega (arith, range.0, e)) in
    let letter = no_letter digit (omega (arith, range.1)) in
    rw (blank, dash, letter, is) reads

pub quote_leads : (rest : List ℕ) (piece : Piece) → quoted rest ≡ piece → first_piece (34 ∷ rest) ≡ piece
quote_leads rest piece reads = reads

first_word : (first : ℕ) (more behind : List ℕ) → is_letter first ≡ true → Run in_word more behind → first_piece (first ∷ more ++ behind) ≡ Found Word (suc (length more))
first_word first more behind is run =
    let le = letter_from first is in
    let blank = no_blank first (omega (arith, le)) in
    let dash = other_byte first 45 (λ e. omega (arith, le, e)) in
    let n : 1 + length more ≡ suc (length more) = omega arith in
    rw (blank, dash, is, run_length in_word more behind run.all run.ends) (ap (Found Word) n)

first_number : (bytes behind : List ℕ) → IsNumber bytes behind → first_piece (bytes ++ behind) ≡ Found Number (length bytes)
first_number bytes behind form =
    let w = whole_is form.whole form.fraction form.exponent behind form.is_whole form.is_fraction form.has_exponent in
    let e : ended (1 + length form.whole + length form.fraction + length form.exponent) behind ≡ Found Number (1 + length form.whole + length form.fraction + length form.exponent) = stops _ behind form.ends in
    let r : number ((form.whole ++ (form.fraction ++ form.exponent)) ++ behind) ≡ Found Number (1 + length form.whole + length form.fraction + length form.exponent)
    = ap number (append_assoc form.whole (form.fraction ++ form.exponent) behind ∙ ap (λ (xs : List ℕ). form.whole ++ xs) (append_assoc form.fraction form.exponent behind)) ∙ w ∙ e in
    let n : 1 + length form.whole + length form.fraction + length form.exponent ≡ length (form.digit ∷ form.whole ++ (form.fraction ++ form.exponent))
    = omega (arith, length-append form.whole (form.fraction ++ form.exponent), length-append form.fraction form.exponent) in
    let d = digit_leads form.digit ((form.whole ++ (form.fraction ++ form.exponent)) ++ behind) (Found Number (length (form.digit ∷ form.whole ++ (form.fraction ++ form.exponent)))) form.is_first (r ∙ ap (Found Number) n) in
    subst (λ (xs : List ℕ). first_piece (xs ++ behind) ≡ Found Number (length xs)) (sym form.are) d

-- the byte that ends a Text's inside does not pass
first_text : (bytes behind : List ℕ) → IsText bytes → first_piece (bytes ++ behind) ≡ Found Text (length bytes)
first_text bytes behind form =
    let e : (form.inside ++ 34 ∷ []) ++ behind ≡ form.inside ++ 34 ∷ behind = append_assoc form.inside (34 ∷ []) behind in
    let q : quoted (form.inside ++ 34 ∷ behind) ≡ Found Text (length form.inside + 2) = text_is form.inside behind form.all in
    let n : length form.inside + 2 ≡ length (34 ∷ form.inside ++ 34 ∷ []) = omega (arith, length-append form.inside (34 ∷ [])) in
    let d = quote_leads ((form.inside ++ 34 ∷ []) ++ behind) (Found Text (length (34 ∷ form.inside ++ 34 ∷ []))) (ap quoted e ∙ q ∙ ap (Found Text) n) in
    subst (λ (xs : List ℕ). first_piece (xs ++ behind) ≡ Found Text (length xs)) (sym form.are) d

first_sign : (byte : ℕ) (behind : List ℕ) → IsSign byte behind → first_piece (byte ∷ behind) ≡ Found Sign 1
first_sign byte behind form =
    let blank = no_blank byte (within_parts 33 126 byte form.is_visible).0 in
    rw (blank, form.no_comment, form.no_letter, form.no_digit, form.no_quote, form.is_visible) refl

pub first_token : (kind : TokenKind) (bytes behind : List ℕ) → IsToken kind bytes behind → first_piece (bytes ++ behind) ≡ Found kind (length bytes)
first_token Word [] behind form = absurd form
first_token Word (first ∷ more) behind form = first_word first more behind form.0 form.1
first_token Number bytes behind form = first_number bytes behind form
first_token Text bytes behind form = first_text bytes behind form
first_token Sign [] behind form = absurd form
first_token Sign (byte ∷ []) behind form = first_sign byte behind form
first_token Sign (byte ∷ next ∷ more) behind form = absurd form

pub first_blank : (byte : ℕ) (behind : List ℕ) → is_blank byte ≡ true → first_piece (byte ∷ behind) ≡ Gap 1
first_blank byte behind is = rw is refl

pub first_comment : (bytes behind : List ℕ) → IsComment bytes behind → first_piece (bytes ++ behind) ≡ Gap (length bytes)
first_comment bytes behind form =
    let n : 1 + (1 + length form.body) ≡ length (45 ∷ 45 ∷ form.body) = omega arith in
    let d : first_piece (45 ∷ 45 ∷ form.body ++ behind) ≡ Gap (length (45 ∷ 45 ∷ form.body)) = rw (run_length in_comment form.body behind form.is_body.all form.is_body.ends) (ap Gap n) in
    subst (λ (xs : List ℕ). first_piece (xs ++ behind) ≡ Gap (length xs)) (sym form.are) d
