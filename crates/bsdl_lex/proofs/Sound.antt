-- The tokens that are read are those of the text by their forms.
use Rattle.std.proofs.Common.{◌≡◌, ℕ, zero, suc, ◌-◌, ◌+◌, ◌≤◌, ◌<◌, inl, inr, true, List, [], ◌∷◌, ◌++◌, length, drop, Result, Ok, Err, refl, sym, ap, subst, ◌∙◌, arith, length-append}
use Rattle.bsdl_lex.specs.declared.Token.{Token}
use Rattle.bsdl_lex.specs.declared.TokenKind.{TokenKind}
use Rattle.bsdl_lex.specs.declared.TokenKind.TheVariants.{Word, Number, Text, Sign}
use Rattle.bsdl_lex.specs.declared.Piece.{Piece}
use Rattle.bsdl_lex.specs.declared.Piece.TheVariants.{Gap, Found, Bad}
use Rattle.bsdl_lex.specs.Tokens.{LexFault, is_blank, first_piece, size, before, lexed_from}
use Rattle.bsdl_lex.specs.Grammar.{IsToken, IsComment, Portion, HasTokens, HasRefusal, IsBad}
use Rattle.bsdl_lex.proofs.Reading.{one_piece}
use Rattle.bsdl_lex.proofs.Bads.{bad_at}
use Rattle.bsdl_lex.proofs.Forms.{Front, behind_is, token_at, gap_at}

-- a token has a byte
pub some_bytes : (kind : TokenKind) (bytes behind : List ℕ) → IsToken kind bytes behind → 0 < length bytes
some_bytes Word [] behind is = absurd is
some_bytes Word (byte ∷ bytes) behind is = omega arith
some_bytes Sign [] behind is = absurd is
some_bytes Sign (byte ∷ bytes) behind is = omega arith
some_bytes Text bytes behind is = rw is.are (omega arith)
some_bytes Number bytes behind is = rw is.are (omega arith)

pub some_comment : (bytes behind : List ℕ) → IsComment bytes behind → 0 < length bytes
some_comment bytes behind is = rw is.are (omega arith)

comment_joined : (at : ℕ) (text bytes behind : List ℕ) (tokens : List Token) → text ≡ bytes ++ behind → IsComment bytes behind → HasTokens (at + length bytes) behind tokens → HasTokens at text tokens
comment_joined at text bytes behind tokens are form h = record {
  portions = Portion.Comment bytes ∷ h.portions;
  are = are ∙ ap (λ (xs : List ℕ). bytes ++ xs) h.are;
  forms = (subst (λ (xs : List ℕ). IsComment bytes xs) h.are form, h.forms);
  found = h.found;
}

blank_joined : (at byte : ℕ) (behind : List ℕ) (tokens : List Token) → is_blank byte ≡ true → HasTokens (at + 1) behind tokens → HasTokens at (byte ∷ behind) tokens
blank_joined at byte behind tokens form h = record {
  portions = Portion.Blank byte ∷ h.portions;
  are = ap (λ (xs : List ℕ). byte ∷ xs) h.are;
  forms = (form, h.forms);
  found = h.found;
}

token_joined : (at end : ℕ) (kind : TokenKind) (text bytes behind : List ℕ) (tokens : List Token) → text ≡ bytes ++ behind → end ≡ at + length bytes → IsToken kind bytes behind → HasTokens (at + length bytes) behind tokens
    → HasTokens at text (record { kind = kind; start = at; end = end } ∷ tokens)
token_joined at end kind text bytes behind tokens are is_end form h = record {
  portions = Portion.Spelled kind bytes ∷ h.portions;
  are = are ∙ ap (λ (xs : List ℕ). bytes ++ xs) h.are;
  forms = (subst (λ (xs : List ℕ). IsToken kind bytes xs) h.are form, h.forms);
  found = rw is_end (ap (λ (ts : List Token). record { kind = kind; start = at; end = at + length bytes } ∷ ts) h.found);
}

-- a token before what is read
record Added (at : ℕ) (kind : TokenKind) (count : ℕ) (read : Result (List Token) LexFault) (tokens : List Token) : Type 0 where
  more : List Token
  reads : read ≡ Ok more
  are : record { kind = kind; start = at; end = at + count } ∷ more ≡ tokens

added : (at : ℕ) (kind : TokenKind) (count : ℕ) (read : Result (List Token) LexFault) (tokens : List Token) → before at (Found kind count) read ≡ Ok tokens → Added at kind count read tokens
added at kind count (Ok more) tokens is = record { more = more; reads = refl; are = cc is }
added at kind count (Err fault) tokens is = absurd (cc is)

pub within_front : {form : List ℕ → List ℕ → Type 0} (count : ℕ) (text : List ℕ) (f : Front form count text) → count ≤ length text
within_front count text f = rw (f.are, f.long) (omega (arith, length-append f.bytes f.behind))

pub shorter : {form : List ℕ → List ℕ → Type 0} (count : ℕ) (text : List ℕ) (fuel : ℕ) (f : Front form count text) → length text ≤ suc fuel → 0 < length f.bytes → length f.behind ≤ fuel
shorter count text fuel f le some =
    let l : length text ≡ length f.bytes + length f.behind = ap (λ (xs : List ℕ). length xs) f.are ∙ length-append f.bytes f.behind in
    omega (arith, l, le, some)

pub moved : (at count long : ℕ) (text behind : List ℕ) (read : Result (List Token) LexFault) → count ≡ long → drop count text ≡ behind → lexed_from (at + count) 0 (drop count text) ≡ read → lexed_from (at + long) 0 behind ≡ read
moved at count long text behind read is_long is_behind is = rw (← is_long, ← is_behind) is

-- the rest of a text is read alike
abbrev Read : ℕ → Type 0
Read fuel = (at : ℕ) (text : List ℕ) (tokens : List Token) → length text ≤ fuel → lexed_from at 0 text ≡ Ok tokens → HasTokens at text tokens

after_token : (fuel at count : ℕ) (kind : TokenKind) (text : List ℕ) (tokens : List Token) → Read fuel → length text ≤ suc fuel → first_piece text ≡ Found kind count → lexed_from at 0 text ≡ Ok tokens → HasTokens at text tokens
after_token fuel at count kind text tokens more le piece is =
    let f = token_at text kind count piece in
    let some = some_bytes kind f.bytes f.behind f.has in
    let one = one_piece at text (Found kind count) piece (omega (arith, some, f.long), within_front count text f) in
    let a = added at kind count (lexed_from (at + count) 0 (drop count text)) tokens (sym one ∙ is) in
    let rest = moved at count (length f.bytes) text f.behind (Ok a.more) f.long (behind_is count text f) a.reads in
    subst (λ (ts : List Token). HasTokens at text ts) a.are
    (token_joined at (at + count) kind text f.bytes f.behind a.more f.are (ap (λ n. at + n) f.long) f.has (more (at + length f.bytes) f.behind a.more (shorter count text fuel f le some) rest))

after_comment : (fuel at count : ℕ) (text : List ℕ) (tokens : List Token) → Read fuel → length text ≤ suc fuel → first_piece text ≡ Gap count → Front IsComment count text → lexed_from at 0 text ≡ Ok tokens → HasTokens at text tokens
after_comment fuel at count text tokens more le piece f is =
    let some = some_comment f.bytes f.behind f.has in
    let one = one_piece at text (Gap count) piece (omega (arith, some, f.long), within_front count text f) in
    let rest = moved at count (length f.bytes) text f.behind (Ok tokens) f.long (behind_is count text f) (sym one ∙ is) in
    comment_joined at text f.bytes f.behind tokens f.are f.has (more (at + length f.bytes) f.behind tokens (shorter count text fuel f le some) rest)

after_blank : (fuel at byte : ℕ) (behind : List ℕ) (tokens : List Token) → Read fuel → length behind ≤ fuel → first_piece (byte ∷ behind) ≡ Gap 1 → is_blank byte ≡ true → lexed_from at 0 (byte ∷ behind) ≡ Ok tokens → HasTokens at (byte ∷ behind) tokens
after_blank fuel at byte behind tokens more le piece blank is =
    let one = one_piece at (byte ∷ behind) (Gap 1) piece (omega arith, omega arith) in
    blank_joined at byte behind tokens blank (more (at + 1) behind tokens le (sym one ∙ is))

after_gap : (fuel at byte count : ℕ) (behind : List ℕ) (tokens : List Token) → Read fuel → length (byte ∷ behind) ≤ suc fuel → first_piece (byte ∷ behind) ≡ Gap count → lexed_from at 0 (byte ∷ behind) ≡ Ok tokens → HasTokens at (byte ∷ behind) tokens
after_gap fuel at byte count behind tokens more le piece is = elim (gap_at byte behind count piece) [
  | inl blank ↦ after_blank fuel at byte behind tokens more (omega (arith, le)) (piece ∙ ap Gap (sym blank.1)) blank.0 is
  | inr comment ↦ after_comment fuel at count (byte ∷ behind) tokens more le piece comment is
]

after_piece : (fuel at byte : ℕ) (behind : List ℕ) (tokens : List Token) (piece : Piece) → Read fuel → length (byte ∷ behind) ≤ suc fuel → first_piece (byte ∷ behind) ≡ piece → lexed_from at 0 (byte ∷ behind) ≡ Ok tokens → HasTokens at (byte ∷ behind) tokens
after_piece fuel at byte behind tokens (Gap count) more le piece is = after_gap fuel at byte count behind tokens more le piece is
after_piece fuel at byte behind tokens (Found kind count) more le piece is = after_token fuel at count kind (byte ∷ behind) tokens more le piece is
after_piece fuel at byte behind tokens (Bad ahead cause) more le piece is = absurd (cc (sym (ap (λ p. before at p (lexed_from (suc at) (size p - 1) behind)) piece) ∙ is))

pub read_within : (fuel : ℕ) → Read fuel
read_within fuel at [] tokens le is = let none : [] ≡ tokens = cc is in record { portions = []; are = refl; forms = tt; found = sym none }
read_within zero at (byte ∷ behind) tokens le is = absurd (omega (arith, le))
read_within (suc fuel) at (byte ∷ behind) tokens le is = after_piece fuel at byte behind tokens (first_piece (byte ∷ behind)) (read_within fuel) le refl is

-- ---- refusals

comment_before : (at : ℕ) (text bytes behind : List ℕ) (place cause : ℕ) → text ≡ bytes ++ behind → IsComment bytes behind → HasRefusal (at + length bytes) behind place cause → HasRefusal at text place cause
comment_before at text bytes behind place cause are form h = record {
  portions = Portion.Comment bytes ∷ h.portions;
  behind = h.behind;
  ahead = h.ahead;
  are = are ∙ ap (λ (xs : List ℕ). bytes ++ xs) h.are;
  forms = (subst (λ (xs : List ℕ). IsComment bytes xs) h.are form, h.forms);
  is_bad = h.is_bad;
  found = omega (arith, h.found);
}

blank_before : (at byte : ℕ) (behind : List ℕ) (place cause : ℕ) → is_blank byte ≡ true → HasRefusal (at + 1) behind place cause → HasRefusal at (byte ∷ behind) place cause
blank_before at byte behind place cause form h = record {
  portions = Portion.Blank byte ∷ h.portions;
  behind = h.behind;
  ahead = h.ahead;
  are = ap (λ (xs : List ℕ). byte ∷ xs) h.are;
  forms = (form, h.forms);
  is_bad = h.is_bad;
  found = omega (arith, h.found);
}

token_before : (at : ℕ) (kind : TokenKind) (text bytes behind : List ℕ) (place cause : ℕ) → text ≡ bytes ++ behind → IsToken kind bytes behind → HasRefusal (at + length bytes) behind place cause → HasRefusal at text place cause
token_before at kind text bytes behind place cause are form h = record {
  portions = Portion.Spelled kind bytes ∷ h.portions;
  behind = h.behind;
  ahead = h.ahead;
  are = are ∙ ap (λ (xs : List ℕ). bytes ++ xs) h.are;
  forms = (subst (λ (xs : List ℕ). IsToken kind bytes xs) h.are form, h.forms);
  is_bad = h.is_bad;
  found = omega (arith, h.found);
}

refused : (at : ℕ) (kind : TokenKind) (count : ℕ) (read : Result (List Token) LexFault) (fault : LexFault) → before at (Found kind count) read ≡ Err fault → read ≡ Err fault
refused at kind count (Ok more) fault is = absurd (cc is)
refused at kind count (Err other) fault is = is

abbrev Fails : ℕ → Type 0
Fails fuel = (at : ℕ) (text : List ℕ) (place cause : ℕ) → length text ≤ fuel → lexed_from at 0 text ≡ Err (record { at = place; cause = cause }) → HasRefusal at text place cause

fails_after_token : (fuel at count : ℕ) (kind : TokenKind) (text : List ℕ) (place cause : ℕ) → Fails fuel → length text ≤ suc fuel → first_piece text ≡ Found kind count → lexed_from at 0 text ≡ Err (record { at = place; cause = cause }) → HasRefusal at text place cause
fails_after_token fuel at count kind text place cause more le piece is =
    let f = token_at text kind count piece in
    let some = some_bytes kind f.bytes f.behind f.has in
    let one = one_piece at text (Found kind count) piece (omega (arith, some, f.long), within_front count text f) in
    let a = refused at kind count (lexed_from (at + count) 0 (drop count text)) (record { at = place; cause = cause }) (sym one ∙ is) in
    let rest = moved at count (length f.bytes) text f.behind (Err (record { at = place; cause = cause })) f.long (behind_is count text f) a in
    token_before at kind text f.bytes f.behind place cause f.are f.has (more (at + length f.bytes) f.behind place cause (shorter count text fuel f le some) rest)

fails_after_comment : (fuel at count : ℕ) (text : List ℕ) (place cause : ℕ) → Fails fuel → length text ≤ suc fuel → first_piece text ≡ Gap count → Front IsComment count text → lexed_from at 0 text ≡ Err (record { at = place; cause = cause }) → HasRefusal at text place cause
fails_after_comment fuel at count text place cause more le piece f is =
    let some = some_comment f.bytes f.behind f.has in
    let one = one_piece at text (Gap count) piece (omega (arith, some, f.long), within_front count text f) in
    let rest = moved at count (length f.bytes) text f.behind (Err (record { at = place; cause = cause })) f.long (behind_is count text f) (sym one ∙ is) in
    comment_before at text f.bytes f.behind place cause f.are f.has (more (at + length f.bytes) f.behind place cause (shorter count text fuel f le some) rest)

fails_after_gap : (fuel at byte count : ℕ) (behind : List ℕ) (place cause : ℕ) → Fails fuel → length (byte ∷ behind) ≤ suc fuel → first_piece (byte ∷ behind) ≡ Gap count → lexed_from at 0 (byte ∷ behind) ≡ Err (record { at = place; cause = cause }) → HasRefusal at (byte ∷ behind) place cause
fails_after_gap fuel at byte count behind place cause more le piece is = elim (gap_at byte behind count piece) [
  | inl blank ↦
      let one = one_piece at (byte ∷ behind) (Gap 1) (piece ∙ ap Gap (sym blank.1)) (omega arith, omega arith) in
      blank_before at byte behind place cause blank.0 (more (at + 1) behind place cause (omega (arith, le)) (sym one ∙ is))
  | inr comment ↦ fails_after_comment fuel at count (byte ∷ behind) place cause more le piece comment is
]

abbrev faulty : ℕ → ℕ → Result (List Token) LexFault
faulty at cause = Err (record { at = at; cause = cause })

abbrev pub fault_of : Result (List Token) LexFault → LexFault
fault_of (Ok tokens) = record { at = 0; cause = 0 }
fault_of (Err fault) = fault

fails_at : (at byte : ℕ) (behind : List ℕ) (ahead reason place cause : ℕ) → first_piece (byte ∷ behind) ≡ Bad ahead reason → lexed_from at 0 (byte ∷ behind) ≡ Err (record { at = place; cause = cause }) → HasRefusal at (byte ∷ behind) place cause
fails_at at byte behind ahead reason place cause piece is =
    let e : faulty (at + ahead) reason ≡ faulty place cause = sym (ap (λ p. before at p (lexed_from (suc at) (size p - 1) behind)) piece) ∙ is in
    let place_is : at + ahead ≡ place = ap (λ r. (fault_of r).at) e in
    let cause_is : reason ≡ cause = ap (λ r. (fault_of r).cause) e in
    record { portions = []; behind = byte ∷ behind; ahead = ahead; are = refl; forms = tt; is_bad = subst (λ c. IsBad ahead c (byte ∷ behind)) cause_is (bad_at (byte ∷ behind) ahead reason piece); found = omega (arith, place_is) }

fails_after_piece : (fuel at byte : ℕ) (behind : List ℕ) (place cause : ℕ) (piece : Piece) → Fails fuel → length (byte ∷ behind) ≤ suc fuel → first_piece (byte ∷ behind) ≡ piece → lexed_from at 0 (byte ∷ behind) ≡ Err (record { at = place; cause = cause }) → HasRefusal at (byte ∷ behind) place cause
fails_after_piece fuel at byte behind place cause (Gap count) more le piece is = fails_after_gap fuel at byte count behind place cause more le piece is
fails_after_piece fuel at byte behind place cause (Found kind count) more le piece is = fails_after_token fuel at count kind (byte ∷ behind) place cause more le piece is
fails_after_piece fuel at byte behind place cause (Bad ahead reason) more le piece is = fails_at at byte behind ahead reason place cause piece is

pub fails_within : (fuel : ℕ) → Fails fuel
fails_within fuel at [] place cause le is = absurd (cc is)
fails_within zero at (byte ∷ behind) place cause le is = absurd (omega (arith, le))
fails_within (suc fuel) at (byte ∷ behind) place cause le is = fails_after_piece fuel at byte behind place cause (first_piece (byte ∷ behind)) (fails_within fuel) le refl is
