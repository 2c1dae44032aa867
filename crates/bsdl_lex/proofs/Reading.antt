-- Reading tokens one after the other, as a loop does.
use Rattle.std.proofs.Common.{◌≡◌, ℕ, zero, suc, ◌-◌, ◌+◌, ◌≤◌, ◌<◌, true, get_or, List, [], ◌∷◌, ◌++◌, length, drop, Result, Ok, Err, refl, sym, ap, ◌∙◌, append_assoc, arith, length-drop}
use Rattle.std.proofs.lemmas.List.{drop-drop, drop_more}
use Rattle.bsdl_lex.specs.declared.Token.{Token}
use Rattle.bsdl_lex.specs.declared.TokenKind.{TokenKind}
use Rattle.bsdl_lex.specs.declared.Piece.{Piece}
use Rattle.bsdl_lex.specs.declared.Piece.TheVariants.{Gap, Found, Bad}
use Rattle.bsdl_lex.specs.Tokens.{LexFault, Reaches, is_blank, first_piece, size, before, lexed_from, SpansRise}

-- what was read before, and what is still read
abbrev pub with_front : List Token → Result (List Token) LexFault → Result (List Token) LexFault
with_front front (Ok tokens) = Ok (front ++ tokens)
with_front front (Err fault) = Err fault

-- the rest of a piece is passed over
passed : (at left : ℕ) (text : List ℕ) → left ≤ length text → lexed_from at left text ≡ lexed_from (at + left) 0 (drop left text)
passed at zero text le = let e : at + 0 ≡ at = omega arith in rw e refl
passed at (suc left) [] le = absurd (omega (arith, le))
passed at (suc left) (byte ∷ rest) le = let e : at + suc left ≡ suc at + left = omega arith in rw e (passed (suc at) left rest (omega (arith, le)))

pub one_piece : (at : ℕ) (text : List ℕ) (piece : Piece) → first_piece text ≡ piece → Reaches piece (length text) → lexed_from at 0 text ≡ before at piece (lexed_from (at + size piece) 0 (drop (size piece) text))
one_piece at [] (Gap count) is reaches = absurd (omega (arith, reaches.0, reaches.1))
one_piece at [] (Found kind count) is reaches = absurd (omega (arith, reaches.0, reaches.1))
one_piece at [] (Bad ahead cause) is reaches = absurd (omega (arith, reaches))
one_piece at (byte ∷ rest) (Gap zero) is reaches = absurd (omega (arith, reaches.0))
one_piece at (byte ∷ rest) (Gap (suc count)) is reaches =
    let e : at + suc count ≡ suc at + count = omega arith in
    let f : suc count - 1 ≡ count = omega arith in
    rw (is, e, f) (passed (suc at) count rest (omega (arith, reaches.1)))
one_piece at (byte ∷ rest) (Found kind zero) is reaches = absurd (omega (arith, reaches.0))
one_piece at (byte ∷ rest) (Found kind (suc count)) is reaches =
    let e : at + suc count ≡ suc at + count = omega arith in
    let f : suc count - 1 ≡ count = omega arith in
    let p : lexed_from (suc at) count rest ≡ lexed_from (at + suc count) 0 (drop count rest) = rw e (passed (suc at) count rest (omega (arith, reaches.1))) in
    rw (is, f) (ap (before at (Found kind (suc count))) p)
one_piece at (byte ∷ rest) (Bad ahead cause) is reaches = rw is refl

-- a piece that the loop met, and the text behind it
pub went_on : (front : List Token) (at : ℕ) (text rest : List ℕ) (piece : Piece) (total : Result (List Token) LexFault) → rest ≡ drop at text → piece ≡ first_piece rest → Reaches piece (length rest)
    → with_front front (lexed_from at 0 (drop at text)) ≡ total → with_front front (before at piece (lexed_from (at + size piece) 0 (drop (at + size piece) text))) ≡ total
went_on front at text rest piece total is_rest is reaches so_far =
    let d : drop (at + size piece) text ≡ drop (size piece) rest = sym (drop-drop (size piece) at text) ∙ ap (drop (size piece)) (sym is_rest) in
    let one : lexed_from at 0 rest ≡ before at piece (lexed_from (at + size piece) 0 (drop (size piece) rest)) = one_piece at rest piece (sym is) reaches in
    let far : with_front front (lexed_from at 0 rest) ≡ total = rw is_rest so_far in
    rw d (sym (ap (with_front front) one) ∙ far)

pub stays : (at count : ℕ) (text rest : List ℕ) → rest ≡ drop at text → at ≤ length text → count ≤ length rest → at + count ≤ length text
stays at count text rest is_rest le more =
    let n : length rest ≡ length text - at = rw is_rest (length-drop at text) in
    omega (arith, n, le, more)

-- a token joins what was read
pub joined : (front : List Token) (kind : TokenKind) (at count : ℕ) (read total : Result (List Token) LexFault) → with_front front (before at (Found kind count) read) ≡ total
    → with_front (front ++ record { kind = kind; start = at; end = at + count } ∷ []) read ≡ total
joined front kind at count (Ok tokens) total so_far = ap (λ (ts : List Token). Ok ts) (append_assoc front (record { kind = kind; start = at; end = at + count } ∷ []) tokens) ∙ so_far
joined front kind at count (Err fault) total so_far = so_far

pub rises_further : (from : ℕ) (tokens : List Token) (most more : ℕ) → most ≤ more → SpansRise from tokens most → SpansRise from tokens more
rises_further from [] most more le rises = omega (arith, le, rises)
rises_further from (token ∷ tokens) most more le rises = (rises.0, rises.1, rises_further token.end tokens most more le rises.2)

pub rises_by : (from : ℕ) (tokens : List Token) (most : ℕ) (token : Token) → most ≤ token.start → token.start < token.end → SpansRise from tokens most → SpansRise from (tokens ++ token ∷ []) token.end
rises_by from [] most token le lt rises = (omega (arith, le, rises), lt, omega arith)
rises_by from (first ∷ tokens) most token le lt rises = (rises.0, rises.1, rises_by first.end tokens most token le lt rises.2)

-- a blank is passed over
pub blank_passed : (front : List Token) (at : ℕ) (text : List ℕ) (total : Result (List Token) LexFault) → at < length text → is_blank (get_or text at 0) ≡ true
    → with_front front (lexed_from at 0 (drop at text)) ≡ total → with_front front (lexed_from (at + 1) 0 (drop (at + 1) text)) ≡ total
blank_passed front at text total lt blank so_far =
    let e : at + 1 ≡ suc at = omega arith in
    let one : lexed_from at 0 (get_or text at 0 ∷ drop (at + 1) text) ≡ lexed_from (at + 1) 0 (drop (at + 1) text) = rw (blank, e) refl in
    ap (with_front front) (sym one) ∙ ap (with_front front) (ap (lexed_from at 0) (sym (drop_more text at 0 lt))) ∙ so_far

-- a text with a token is not without tokens
pub not_none : (front : List Token) (at : ℕ) (kind : TokenKind) (count : ℕ) (read total : Result (List Token) LexFault) → with_front front (before at (Found kind count) read) ≡ total → total ≡ Ok [] → ⊥
not_none [] at kind count (Ok tokens) total so_far none = cc (so_far ∙ none)
not_none (first ∷ front) at kind count (Ok tokens) total so_far none = cc (so_far ∙ none)
not_none front at kind count (Err fault) total so_far none = cc (so_far ∙ none)
