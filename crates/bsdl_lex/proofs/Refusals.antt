-- A text that has the form of a refusal is refused so, and portions are read one after the other.
use Rattle.std.proofs.Common.{◌≡◌, ℕ, zero, suc, ◌-◌, ◌+◌, ◌<◌, true, false, ◌==◌, nat_lt, ◌⊎◌, inl, inr, List, [], ◌∷◌, ◌++◌, length, drop, Result, Ok, Err, refl, sym, ap, subst, ◌∙◌, arith, length-append}
use Rattle.std.proofs.lemmas.Bool.{cases_Bool, ltb-true, eqb-true, or_cases}
use Rattle.std.proofs.lemmas.List.{append-nil}
use Rattle.bsdl_lex.specs.declared.Token.{Token}
use Rattle.bsdl_lex.specs.declared.TokenKind.{TokenKind}
use Rattle.bsdl_lex.specs.declared.Piece.{Piece}
use Rattle.bsdl_lex.specs.declared.Piece.TheVariants.{Gap, Found, Bad}
use Rattle.bsdl_lex.specs.Tokens.{within, is_blank, is_letter, is_digit, is_visible, is_line_end, in_word, in_number, in_text, is_exponent, is_plus_minus, starts, fraction, ended, exponent_digits, exponent, number, closed, quoted, first_piece, LexFault, before, lexed_from, size}
use Rattle.bsdl_lex.specs.Grammar.{BadByte, BadInside, ends_line, Unclosed, NoDigit, NoPower, RunsOn, BadNumber, IsBad, Portion, HaveForms, written, tokens_among, extent, HasTokens, HasRefusal}
use Rattle.bsdl_lex.proofs.Forms.{dropped}
use Rattle.bsdl_lex.proofs.Reading.{with_front, one_piece}
use Rattle.bsdl_lex.proofs.Sound.{some_bytes, some_comment}
use Rattle.bsdl_lex.proofs.Complete.{within_no, other_byte, run_length, exponent_is, fraction_is, digit_leads, quote_leads, runs_on, first_token, first_blank, first_comment}

-- ---- a byte that may not stand

seen : (byte : ℕ) → nat_lt byte 33 ≡ false → nat_lt 126 byte ≡ false → is_visible byte ≡ true
seen byte low high = rw (low, high) refl

unseen_byte : (byte : ℕ) → is_visible byte ≡ false → (byte < 33) ⊎ (126 < byte)
unseen_byte byte is = elim (cases_Bool (nat_lt byte 33)) [
  | inl lt ↦ inl (ltb-true byte 33 lt)
  | inr le ↦ elim (cases_Bool (nat_lt 126 byte)) [ inl gt ↦ inr (ltb-true 126 byte gt) | inr in_range ↦ absurd (cc (sym (seen byte le in_range) ∙ is)) ]
]

hidden : (byte : ℕ) (behind : List ℕ) → is_blank byte ≡ false → is_visible byte ≡ false → (byte < 33) ⊎ (126 < byte) → first_piece (byte ∷ behind) ≡ Bad 0 1
hidden byte behind blank visible (inl lt) =
    let dash = other_byte byte 45 (λ e. omega (arith, lt, e)) in
    let quote = other_byte byte 34 (λ e. omega (arith, lt, e)) in
    rw (blank, dash, within_no 65 90 byte (inl (omega (arith, lt))), within_no 97 122 byte (inl (omega (arith, lt))), within_no 48 57 byte (inl (omega (arith, lt))), quote, visible) refl
hidden byte behind blank visible (inr gt) =
    let dash = other_byte byte 45 (λ e. omega (arith, gt, e)) in
    let quote = other_byte byte 34 (λ e. omega (arith, gt, e)) in
    rw (blank, dash, within_no 65 90 byte (inr (omega (arith, gt))), within_no 97 122 byte (inr (omega (arith, gt))), within_no 48 57 byte (inr (omega (arith, gt))), quote, visible) refl

bad_byte : (text : List ℕ) → BadByte text → first_piece text ≡ Bad 0 1
bad_byte text form = subst (λ (xs : List ℕ). first_piece xs ≡ Bad 0 1) (sym form.are) (hidden form.byte form.behind form.no_blank form.no_visible (unseen_byte form.byte form.no_visible))

-- ---- a Text

bad_inside : (ahead : ℕ) (text : List ℕ) → BadInside ahead text → first_piece text ≡ Bad ahead 1
bad_inside ahead text form =
    let q : quoted (form.inside ++ form.byte ∷ form.behind) ≡ Bad (suc (length form.inside)) 1
    = rw (run_length in_text form.inside (form.byte ∷ form.behind) form.all form.no_text, dropped form.inside (form.byte ∷ form.behind), form.no_quote, form.no_end) refl in
    let d = quote_leads (form.inside ++ form.byte ∷ form.behind) (Bad ahead 1) (q ∙ ap (λ n. Bad n 1) (sym form.far)) in
    subst (λ (xs : List ℕ). first_piece xs ≡ Bad ahead 1) (sym form.are) d

line_end_cases : (byte : ℕ) → is_line_end byte ≡ true → (byte ≡ 10) ⊎ (byte ≡ 13)
line_end_cases byte is = elim (or_cases (byte == 10) (byte == 13) is) [ inl a ↦ inl (eqb-true byte 10 a) | inr b ↦ inr (eqb-true byte 13 b) ]

no_text : (behind : List ℕ) → ends_line behind ≡ true → starts in_text behind ≡ false
no_text [] is = refl
no_text (byte ∷ behind) is = elim (line_end_cases byte is) [ inl e ↦ rw e refl | inr e ↦ rw e refl ]

closes_not : (count : ℕ) (behind : List ℕ) → ends_line behind ≡ true → closed count behind ≡ Bad 0 2
closes_not count [] is = refl
closes_not count (byte ∷ behind) is = elim (line_end_cases byte is) [ inl e ↦ rw e refl | inr e ↦ rw e refl ]

unclosed : (text : List ℕ) → Unclosed text → first_piece text ≡ Bad 0 2
unclosed text form =
    let c = closes_not (length form.inside) form.behind form.ends in
    let q : quoted (form.inside ++ form.behind) ≡ Bad 0 2 = rw (run_length in_text form.inside form.behind form.all (no_text form.behind form.ends), dropped form.inside form.behind) c in
    subst (λ (xs : List ℕ). first_piece xs ≡ Bad 0 2) (sym form.are) (quote_leads (form.inside ++ form.behind) (Bad 0 2) q)

-- ---- a Number

power_missing : (count letter : ℕ) (behind : List ℕ) → is_exponent letter ≡ true → NoDigit behind → exponent count (letter ∷ behind) ≡ Bad 0 3
power_missing count letter [] is form = rw is refl
power_missing count letter (byte ∷ behind) is (inl signed) = rw (is, signed.0, signed.1) refl
power_missing count letter (byte ∷ behind) is (inr other) = rw (is, other.0, other.1) refl

bad_end : (count : ℕ) (behind : List ℕ) → NoPower behind ⊎ RunsOn behind → exponent count behind ≡ Bad 0 3
bad_end count behind (inl form) = subst (λ (xs : List ℕ). exponent count xs ≡ Bad 0 3) (sym form.are) (power_missing count form.letter form.behind form.is_letter form.no_digit)
bad_end count behind (inr form) = subst (λ (xs : List ℕ). exponent count xs ≡ Bad 0 3) (sym form.are) (exponent_is count form.exponent form.behind form.has_exponent ∙ runs_on (count + length form.exponent) form.behind form.goes_on)

bad_number : (text : List ℕ) → BadNumber text → first_piece text ≡ Bad 0 3
bad_number text form =
    let b = bad_end (1 + length form.whole + length form.fraction) form.behind form.is_bad in
    let n : number (form.whole ++ (form.fraction ++ form.behind)) ≡ Bad 0 3
    = rw (run_length in_number form.whole (form.fraction ++ form.behind) form.is_whole.all form.is_whole.ends, dropped form.whole (form.fraction ++ form.behind), fraction_is form.fraction form.behind form.is_fraction, dropped form.fraction form.behind) b in
    subst (λ (xs : List ℕ). first_piece xs ≡ Bad 0 3) (sym form.are) (digit_leads form.digit (form.whole ++ (form.fraction ++ form.behind)) (Bad 0 3) form.is_first n)

pub first_bad : (ahead cause : ℕ) (text : List ℕ) → IsBad ahead cause text → first_piece text ≡ Bad ahead cause
first_bad ahead zero text form = absurd form
first_bad ahead (suc zero) text (inl form) = rw form.0 (bad_byte text form.1)
first_bad ahead (suc zero) text (inr form) = bad_inside ahead text form
first_bad ahead (suc (suc zero)) text form = rw form.0 (unclosed text form.1)
first_bad ahead (suc (suc (suc zero))) text form = rw form.0 (bad_number text form.1)
first_bad ahead (suc (suc (suc (suc cause)))) text form = absurd form

-- ---- portions

token_in_front : (token : Token) (front : List Token) (read : Result (List Token) LexFault) (at count : ℕ) (kind : TokenKind) → token ≡ record { kind = kind; start = at; end = at + count } → before at (Found kind count) (with_front front read) ≡ with_front (token ∷ front) read
token_in_front token front (Ok tokens) at count kind is = rw is refl
token_in_front token front (Err fault) at count kind is = refl

nothing_in_front : (read : Result (List Token) LexFault) → read ≡ with_front [] read
nothing_in_front (Ok tokens) = refl
nothing_in_front (Err fault) = refl

further : (at a b : ℕ) (behind : List ℕ) (front : List Token) (read : Result (List Token) LexFault) → read ≡ with_front front (lexed_from (at + a + b) 0 behind) → read ≡ with_front front (lexed_from (at + (a + b)) 0 behind)
further at a b behind front read is = let n : at + a + b ≡ at + (a + b) = omega arith in is ∙ ap (λ k. with_front front (lexed_from k 0 behind)) n

one_portion : (at : ℕ) (bytes behind : List ℕ) (piece : Piece) → first_piece (bytes ++ behind) ≡ piece → 0 < length bytes → size piece ≡ length bytes → Rattle.bsdl_lex.specs.Tokens.Reaches piece (length (bytes ++ behind))
    → lexed_from at 0 (bytes ++ behind) ≡ before at piece (lexed_from (at + length bytes) 0 behind)
one_portion at bytes behind piece is some long reaches =
    let one = one_piece at (bytes ++ behind) piece is reaches in
    let d : drop (size piece) (bytes ++ behind) ≡ behind = rw long (dropped bytes behind) in
    one ∙ ap (λ (xs : List ℕ). before at piece (lexed_from (at + size piece) 0 xs)) d ∙ ap (λ n. before at piece (lexed_from (at + n) 0 behind)) long

pub portions_read : (at : ℕ) (portions : List Portion) (behind : List ℕ) → HaveForms portions behind → lexed_from at 0 (written portions behind) ≡ with_front (tokens_among at portions) (lexed_from (at + extent portions) 0 behind)
portions_read at [] behind forms = let n : at ≡ at + 0 = omega arith in ap (λ k. lexed_from k 0 behind) n ∙ nothing_in_front (lexed_from (at + 0) 0 behind)
portions_read at (Portion.Blank byte ∷ portions) behind forms =
    let rest = written portions behind in
    let one = one_portion at (byte ∷ []) rest (Gap 1) (first_blank byte rest forms.0) (omega arith) refl (omega arith, omega arith) in
    one ∙ further at 1 (extent portions) behind (tokens_among (at + 1) portions) (lexed_from (at + 1) 0 rest) (portions_read (at + 1) portions behind forms.1)
portions_read at (Portion.Comment bytes ∷ portions) behind forms =
    let rest = written portions behind in
    let some = some_comment bytes rest forms.0 in
    let one = one_portion at bytes rest (Gap (length bytes)) (first_comment bytes rest forms.0) some refl (some, omega (arith, length-append bytes rest)) in
    one ∙ further at (length bytes) (extent portions) behind (tokens_among (at + length bytes) portions) (lexed_from (at + length bytes) 0 rest) (portions_read (at + length bytes) portions behind forms.1)
portions_read at (Portion.Spelled kind bytes ∷ portions) behind forms =
    let rest = written portions behind in
    let some = some_bytes kind bytes rest forms.0 in
    let front = tokens_among (at + length bytes) portions in
    let one = one_portion at bytes rest (Found kind (length bytes)) (first_token kind bytes rest forms.0) some refl (some, omega (arith, length-append bytes rest)) in
    let more = further at (length bytes) (extent portions) behind front (lexed_from (at + length bytes) 0 rest) (portions_read (at + length bytes) portions behind forms.1) in
    one ∙ ap (before at (Found kind (length bytes))) more ∙ token_in_front (record { kind = kind; start = at; end = at + length bytes }) front (lexed_from (at + (length bytes + extent portions)) 0 behind) at (length bytes) kind refl

pub tokens_read : (text : List ℕ) (tokens : List Token) → HasTokens 0 text tokens → lexed_from 0 0 text ≡ Ok tokens
tokens_read text tokens h =
    let p = portions_read 0 h.portions [] h.forms in
    ap (λ (xs : List ℕ). lexed_from 0 0 xs) h.are ∙ p ∙ ap (λ (ts : List Token). Ok ts) (append-nil (tokens_among 0 h.portions) ∙ sym h.found)

bad_read : (at ahead cause : ℕ) (behind : List ℕ) → IsBad ahead cause behind → lexed_from at 0 behind ≡ Err (record { at = at + ahead; cause = cause })
bad_read at ahead cause [] form = absurd (cc (first_bad ahead cause [] form))
bad_read at ahead cause (byte ∷ behind) form = ap (λ p. before at p (lexed_from (suc at) (size p - 1) behind)) (first_bad ahead cause (byte ∷ behind) form)

pub refusal_read : (text : List ℕ) (place cause : ℕ) → HasRefusal 0 text place cause → lexed_from 0 0 text ≡ Err (record { at = place; cause = cause })
refusal_read text place cause h =
    let p = portions_read 0 h.portions h.behind h.forms in
    let b = bad_read (0 + extent h.portions) h.ahead cause h.behind h.is_bad in
    ap (λ (xs : List ℕ). lexed_from 0 0 xs) h.are ∙ p ∙ ap (with_front (tokens_among 0 h.portions)) b ∙ ap (λ n. Err (record { at = n; cause = cause })) (sym h.found)
