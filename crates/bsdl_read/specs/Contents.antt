-- What stands between the quotes of a VALUE, byte by byte: one content, whatever texts it is cut into.
use Rattle.std.specs.Prelude.{◌≡◌, ℕ, ◌+◌, ◌-◌, ◌*◌, Bool, true, false, ◌&&◌, ◌||◌, ◌==◌, nat_lt, List, [], ◌∷◌, take, drop, length, if◌then◌else◌, Result, Ok, Err}
use Rattle.std.specs.List.{list_all}
use Rattle.bsdl_lex.specs.declared.Token.{Token}
use Rattle.bsdl_lex.specs.declared.TokenKind.TheVariants.{Text}
use Rattle.bsdl_lex.specs.Tokens.{is_digit}
use Rattle.part_model.specs.declared.Digit.{Digit}
use Rattle.part_model.specs.declared.Digit.TheVariants.{Zero, One, Any}
use Rattle.bsdl_read.specs.Words.{is_kind}
use Rattle.bsdl_read.specs.declared.contents.ContentFault.{ContentFault}
use Rattle.bsdl_read.specs.declared.contents.ContentFault.TheVariants.{Memory, Departs}

-- a content that is refused has cause 8, or 9 where it names what is left out of the subset
abbrev pub and_then : {A B : Type 0} → Result A ℕ → (A → Result B ℕ) → Result B ℕ
and_then (Ok x) more = more x
and_then (Err cause) more = Err cause

-- spaces and tabs
abbrev pub is_space : ℕ → Bool
is_space byte = (byte == 32) || (byte == 9)

abbrev pub is_pattern_digit : ℕ → Bool
is_pattern_digit byte = (byte == 48) || ((byte == 49) || ((byte == 88) || (byte == 120)))

abbrev pub digit_of : ℕ → Digit
digit_of byte = if byte == 48 then Zero else (if byte == 49 then One else Any)

-- the content of a Text is what stands between its quotes; `&` has none
abbrev pub inside : List ℕ → Token → List ℕ
inside text token = if is_kind token.kind Text then drop 1 (take (token.end - token.start - 1) (drop token.start text)) else []

-- one byte after the other
abbrev pub through : {S : Type 0} → (S → ℕ → Result S ℕ) → S → List ℕ → Result S ℕ
through step state [] = Ok state
through step state (byte ∷ bytes) = and_then (step state byte) (λ after. through step after bytes)

-- one text after the other
abbrev pub through_all : {S : Type 0} → (S → ℕ → Result S ℕ) → List ℕ → S → List Token → Result S ℕ
through_all step text state [] = Ok state
through_all step text state (token ∷ tokens) = and_then (through step state (inside text token)) (λ after. through_all step text after tokens)

-- a whole number of one to nine digits, the first the highest
abbrev pub number_from : ℕ → List ℕ → ℕ
number_from value [] = value
number_from value (byte ∷ bytes) = number_from (value * 10 + (byte - 48)) bytes

abbrev pub is_short : List ℕ → Bool
is_short bytes = nat_lt 0 (length bytes) && (nat_lt (length bytes) 10 && list_all is_digit bytes)

abbrev pub whole_number : List ℕ → Result ℕ ℕ
whole_number bytes = if is_short bytes then Ok (number_from 0 bytes) else Err 8

-- ---- what the code answers

-- each answer that may come is that of a test
abbrev pub Tests : (ℕ → Bool → Type 0) → (ℕ → Bool) → Type 0
Tests answers test = (byte : ℕ) (answer : Bool) → answers byte answer → answer ≡ test byte

-- the state after a step, unless memory runs out
abbrev pub Steps : {S : Type 0} → S → Result (Unit {0}) ContentFault → Result S ℕ → Type 0
Steps after (Ok u) read = read ≡ Ok after
Steps after (Err Memory) read = Unit {0}
Steps after (Err (Departs cause)) read = read ≡ Err cause

-- a fault is what is read, unless memory runs out
abbrev pub Refuses : {A : Type 0} → ContentFault → Result A ℕ → Type 0
Refuses Memory read = Unit {0}
Refuses (Departs cause) read = read ≡ Err cause

-- what was read, unless memory runs out
abbrev pub Gives : {X Y : Type 0} → (X → Y) → Result X ContentFault → Result Y ℕ → Type 0
Gives seen (Ok x) read = read ≡ Ok (seen x)
Gives seen (Err Memory) read = Unit {0}
Gives seen (Err (Departs cause)) read = read ≡ Err cause

abbrev pub departs_unless : Bool → Result (Unit {0}) ContentFault
departs_unless true = Ok tt
departs_unless false = Err (Departs 8)
