-- The tokens of a BSDL text, and the first refusal where it has none.
use Rattle.std.specs.Prelude.{◌≡◌, ℕ, zero, suc, ◌+◌, Bool, false, not, ◌&&◌, ◌||◌, ◌==◌, nat_lt, List, [], ◌∷◌, drop, length, ◌<◌, ◌≤◌, if◌then◌else◌, ◌-◌, Result, Ok, Err}
use Rattle.std.specs.List.{prefix_len}
use Rattle.bsdl_lex.specs.declared.Token.{Token}
use Rattle.bsdl_lex.specs.declared.TokenKind.TheVariants.{Word, Number, Text, Sign}
use Rattle.bsdl_lex.specs.declared.Piece.{Piece}
use Rattle.bsdl_lex.specs.declared.Piece.TheVariants.{Gap, Found, Bad}
use Rattle.bsdl_lex.specs.declared.Class.{Class}
use Rattle.bsdl_lex.specs.declared.Class.TheVariants as classes
use Rattle.bsdl_lex.specs.declared.LexRefusal.{LexRefusal}
use Rattle.bsdl_lex.specs.declared.LexRefusal.TheVariants.{Memory, Refused}

-- ---- bytes

abbrev pub within : ℕ → ℕ → ℕ → Bool
within low high byte = not (nat_lt byte low) && not (nat_lt high byte)

abbrev pub is_blank : ℕ → Bool
is_blank byte = within 9 13 byte || (byte == 32)

abbrev pub is_letter : ℕ → Bool
is_letter byte = within 65 90 byte || within 97 122 byte

abbrev pub is_digit : ℕ → Bool
is_digit byte = within 48 57 byte

abbrev pub is_visible : ℕ → Bool
is_visible byte = within 33 126 byte

-- letters, digits and `_`
abbrev pub in_word : ℕ → Bool
in_word byte = is_letter byte || (is_digit byte || (byte == 95))

-- digits and `_`
abbrev pub in_number : ℕ → Bool
in_number byte = is_digit byte || (byte == 95)

-- the end of a line ends a comment, and no Text goes over it
abbrev pub is_line_end : ℕ → Bool
is_line_end byte = (byte == 10) || (byte == 13)

abbrev pub in_comment : ℕ → Bool
in_comment byte = not (is_line_end byte)

-- bytes between the quotes of a Text
abbrev pub in_text : ℕ → Bool
in_text byte = (byte == 9) || (within 32 126 byte && not (byte == 34))

abbrev pub belongs : Class → ℕ → Bool
belongs classes.Word byte = in_word byte
belongs classes.Number byte = in_number byte
belongs classes.Digit byte = is_digit byte
belongs classes.Comment byte = in_comment byte
belongs classes.Text byte = in_text byte

-- ---- what stands at the front

abbrev pub starts : (ℕ → Bool) → List ℕ → Bool
starts is [] = false
starts is (byte ∷ rest) = is byte

-- `.` and digits, where a digit follows the `.`
abbrev pub fraction : List ℕ → ℕ
fraction [] = 0
fraction (byte ∷ rest) = if (byte == 46) && starts is_digit rest then 1 + prefix_len is_digit rest else 0

abbrev pub is_exponent : ℕ → Bool
is_exponent byte = (byte == 69) || (byte == 101)

abbrev pub is_plus_minus : ℕ → Bool
is_plus_minus byte = (byte == 43) || (byte == 45)

-- `e` or `E` and an optional sign
abbrev pub exponent_sign : List ℕ → ℕ
exponent_sign text = if starts is_exponent text then (if starts is_plus_minus (drop 1 text) then 2 else 1) else 0

-- A Number, part by part: `count` bytes of it stand before the text.
-- its end: neither a letter nor `_` follows
abbrev pub ended : ℕ → List ℕ → Piece
ended count text = if starts in_word text then Bad 0 3 else Found Number count

-- the digits of an exponent, at least one
abbrev pub exponent_digits : ℕ → List ℕ → Piece
exponent_digits count text = if starts is_digit text then ended (count + prefix_len is_digit text) (drop (prefix_len is_digit text) text) else Bad 0 3

-- the exponent, where there is one
abbrev pub exponent : ℕ → List ℕ → Piece
exponent count text = if exponent_sign text == 0 then ended count text else exponent_digits (count + exponent_sign text) (drop (exponent_sign text) text)

-- what follows the whole part
abbrev pub after_whole : ℕ → List ℕ → Piece
after_whole count text = exponent (count + fraction text) (drop (fraction text) text)

-- what follows the first digit
abbrev pub number : List ℕ → Piece
number text = after_whole (1 + prefix_len in_number text) (drop (prefix_len in_number text) text)

-- behind a `"`: the bytes of the Text, and what they end at
abbrev pub closed : ℕ → List ℕ → Piece
closed inside [] = Bad 0 2
closed inside (byte ∷ rest) = if byte == 34 then Found Text (inside + 2) else (if is_line_end byte then Bad 0 2 else Bad (suc inside) 1)

abbrev pub quoted : List ℕ → Piece
quoted text = closed (prefix_len in_text text) (drop (prefix_len in_text text) text)

-- the first piece of a text that has a byte
abbrev pub first_piece : List ℕ → Piece
first_piece [] = Gap 0
first_piece (byte ∷ rest) =
    if is_blank byte then Gap 1 else
    (if (byte == 45) && starts (λ next. next == 45) rest then Gap (1 + prefix_len in_comment rest) else
    (if is_letter byte then Found Word (1 + prefix_len in_word rest) else
    (if is_digit byte then number rest else
    (if byte == 34 then quoted rest else
    (if is_visible byte then Found Sign 1 else Bad 0 1)))))

abbrev pub size : Piece → ℕ
size (Gap count) = count
size (Found kind count) = count
size (Bad ahead cause) = 0

-- a piece has a byte and ends within so many; a refusal is within them
abbrev pub Reaches : Piece → ℕ → Type 0
Reaches (Gap count) most = (0 < count) × (count ≤ most)
Reaches (Found kind count) most = (0 < count) × (count ≤ most)
Reaches (Bad ahead cause) most = ahead < most

-- ---- the whole text

pub record LexFault : Type 0 where
  pub at : ℕ
  pub cause : ℕ

-- a piece at a place, before what follows it
abbrev pub before : ℕ → Piece → Result (List Token) LexFault → Result (List Token) LexFault
before at (Gap count) more = more
before at (Found kind count) (Ok tokens) = Ok (record { kind = kind; start = at; end = at + count } ∷ tokens)
before at (Found kind count) (Err fault) = Err fault
before at (Bad ahead cause) more = Err (record { at = at + ahead; cause = cause })

-- the tokens from a place on, where the first `left` bytes belong to the piece before
abbrev pub lexed_from : ℕ → ℕ → List ℕ → Result (List Token) LexFault
lexed_from at left [] = Ok []
lexed_from at (suc left) (byte ∷ rest) = lexed_from (suc at) left rest
lexed_from at zero (byte ∷ rest) = before at (first_piece (byte ∷ rest)) (lexed_from (suc at) (size (first_piece (byte ∷ rest)) - 1) rest)

-- the tokens of a text, or its first refusal
abbrev pub lexed : List ℕ → Result (List Token) LexFault
lexed text = if nat_lt 4194304 (length text) then Err (record { at = 4194304; cause = 4 }) else lexed_from 0 0 text

-- unless memory runs out
abbrev pub RefusesAs : LexRefusal → Result (List Token) LexFault → Type 0
RefusesAs Memory read = Unit {0}
RefusesAs (Refused at cause) read = read ≡ Err (record { at = at; cause = cause })

-- tokens stand one behind the other, from a place on and up to another, and have a byte
abbrev pub SpansRise : ℕ → List Token → ℕ → Type 0
SpansRise from [] most = from ≤ most
SpansRise from (token ∷ tokens) most = (from ≤ token.start) × (token.start < token.end) × SpansRise token.end tokens most
