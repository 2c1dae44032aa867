-- What stands whole at the front of a text.
use Rattle.std.proofs.Common.{◌≡◌, ℕ, ◌==◌, nat_lt, true, false, inl, inr, List, [], ◌∷◌, ◌++◌, map, length, refl, ap, ◌∙◌, arith}
use Rattle.std.specs.List.{list_all}
use Rattle.std.specs.Str.{IsAscii}
use Rattle.std.specs.Char.{to_ascii_uppercase}
use Rattle.std.proofs.lemmas.Bool.{and_parts, and_from, cases_Bool, ltb-true, ltb-false, lt-ltb, le-ltb}
use Rattle.std.proofs.lemmas.Str.Ascii.{IsAscii-nil, IsAscii-cons}
use Rattle.bsdl_lex.specs.Tokens.{is_letter, in_word}
use Rattle.bsdl_read.specs.Words.{capital}
use Rattle.bsdl_read.specs.Contents.{is_pattern_digit}
use Rattle.bsdl_read.specs.ContentGrammar.{are_spaces, is_name, is_pattern}
use Rattle.bsdl_read.specs.Opcodes.{BeginsWith}
use Rattle.bsdl_read.proofs.Bytes.{word_byte}

-- letters, digits and `_` are ASCII
pub word_is_ascii : (letters : List ℕ) → list_all in_word letters ≡ true → IsAscii letters
word_is_ascii [] all = IsAscii-nil
word_is_ascii (letter ∷ letters) all =
    let both = and_parts (in_word letter) (list_all in_word letters) all in
    IsAscii-cons letter letters (word_byte letter both.0) (word_is_ascii letters both.1)

capital_is_upper : (byte : ℕ) → to_ascii_uppercase byte ≡ capital byte
capital_is_upper byte = elim (cases_Bool (nat_lt byte 97)) [
  | inl small ↦ rw small refl
  | inr large ↦ elim (cases_Bool (nat_lt 122 byte)) [
    | inl above ↦ rw (large, above, le-ltb byte 123 (omega (arith, ltb-true 122 byte above))) refl
    | inr within ↦ rw (large, within, lt-ltb byte 123 (omega (arith, ltb-false 122 byte within))) refl
  ]
]

-- the letters of a word in capitals
pub capitals_are_upper : (letters : List ℕ) → map to_ascii_uppercase letters ≡ map capital letters
capitals_are_upper [] = refl
capitals_are_upper (letter ∷ letters) = ap (λ (first : ℕ). first ∷ map to_ascii_uppercase letters) (capital_is_upper letter) ∙ ap (λ (rest : List ℕ). capital letter ∷ rest) (capitals_are_upper letters)

pub name_from : (name : List ℕ) (first : ℕ) (more : List ℕ) → name ≡ first ∷ more → is_letter first ≡ true → list_all in_word name ≡ true → is_name name ≡ true
name_from [] first more is letter all = absurd (cc is)
name_from (byte ∷ bytes) first more is letter all =
    let same : first ≡ byte = cc is in
    and_from (is_letter byte) (list_all in_word bytes) (rw (← same) letter) (and_parts (in_word byte) (list_all in_word bytes) all).1

pattern_from : (digits : List ℕ) → (length digits == 0) ≡ false → list_all is_pattern_digit digits ≡ true → is_pattern digits ≡ true
pattern_from [] some all = absurd (cc some)
pattern_from (byte ∷ bytes) some all = all

pub begins : (bytes name behind_name blanks list inside digits end behind : List ℕ) (first : ℕ) (more : List ℕ) → bytes ≡ name ++ behind_name → name ≡ first ∷ more → behind_name ≡ blanks ++ list → list ≡ 40 ∷ inside
    → inside ≡ digits ++ end → end ≡ 41 ∷ behind → is_letter first ≡ true → list_all in_word name ≡ true → are_spaces blanks ≡ true → (length digits == 0) ≡ false → list_all is_pattern_digit digits ≡ true
    → BeginsWith bytes name digits behind
begins bytes name behind_name blanks list inside digits end behind first more are starts with_blanks opens with_digits ends letter letters spaces some all = record {
  blanks = blanks;
  are = are ∙ ap (λ (x : List ℕ). name ++ x) (with_blanks ∙ ap (λ (x : List ℕ). blanks ++ x) (opens ∙ ap (λ (x : List ℕ). 40 ∷ x) (with_digits ∙ ap (λ (x : List ℕ). digits ++ x) ends)));
  has_name = name_from name first more starts letter letters;
  are_blank = spaces;
  has_digits = pattern_from digits some all;
}
