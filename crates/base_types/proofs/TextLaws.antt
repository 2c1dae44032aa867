-- Letters in capitals are text.
use Rattle.std.proofs.Common.{◌≡◌, ℕ, ◌+◌, ◌-◌, ◌≤◌, ◌<◌, List, [], ◌++◌, map, drop, take, set, length, refl, sym, ap, ◌∙◌}
use Rattle.std.specs.Str.{IsAscii, IsUtf8}
use Rattle.std.specs.Char.{to_ascii_uppercase}
use Rattle.std.proofs.lemmas.Str.{IsUtf8-append, IsUtf8-from_ascii, IsUtf8-had}
use Rattle.std.proofs.lemmas.Str.Ascii.{IsAscii-cons, IsAscii-map, IsAscii-nil, uppercase_ascii}
use Rattle.std.proofs.lemmas.Slice.{take-put_mid}
use borrow.Rule.Slice.PartMut.{put_mid}
use Rattle.std.proofs.lemmas.List.{append-nil, take-map, take_more_set}
use Rattle.std.proofs.Math.ListN.{drop_of_length-le}

-- the front of the capitals are the capitals of the front
pub front_of_capitals : (count : ℕ) (bytes lanes capitals : List ℕ) → capitals ≡ map to_ascii_uppercase lanes → take count lanes ≡ take count bytes → take count capitals ≡ map to_ascii_uppercase (take count bytes)
front_of_capitals count bytes lanes capitals is same = ap (take count) is ∙ take-map to_ascii_uppercase count lanes ∙ ap (map to_ascii_uppercase) same

-- a text with one more ASCII letter
pub with_letter_is_text : (bytes : List ℕ) (count letter : ℕ) → ∥ IsUtf8 (take count bytes) ∥₁ → count < length bytes → letter < 128 → IsUtf8 (take (count + 1) (set bytes count letter))
with_letter_is_text bytes count letter text room ascii =
    rw (take_more_set bytes count letter room) (IsUtf8-append _ _ (IsUtf8-had _ text) (IsUtf8-from_ascii _ (IsAscii-cons letter [] ascii IsAscii-nil)))

-- a text with a text behind it
pub with_text_is_text : (bytes text : List ℕ) (count : ℕ) → ∥ IsUtf8 (take count bytes) ∥₁ → count ≤ length bytes → IsUtf8 text → IsUtf8 (take (count + length text) (put_mid count (count + length text - count) bytes text))
with_text_is_text bytes text count front room is =
    rw (take-put_mid count (count + length text - count) bytes text (count + length text) refl room) (IsUtf8-append _ _ (IsUtf8-had _ front) is)

-- what was written is all, where nothing is left
written_is_all : (written letters : List ℕ) (count : ℕ) → written ++ map to_ascii_uppercase (drop count letters) ≡ map to_ascii_uppercase letters → length letters ≤ count → written ≡ map to_ascii_uppercase letters
written_is_all written letters count is most =
    sym (append-nil written) ∙ ap (λ (x : List ℕ). written ++ map to_ascii_uppercase x) (sym (drop_of_length-le letters most)) ∙ is

-- capitals of ASCII bytes are text
pub capitals_are_text : (written letters : List ℕ) → written ≡ map to_ascii_uppercase letters → IsAscii letters → IsUtf8 written
capitals_are_text written letters is ascii = rw is (IsUtf8-from_ascii _ (IsAscii-map to_ascii_uppercase letters uppercase_ascii ascii))

pub written_is_text : (written letters : List ℕ) (count : ℕ) → written ++ map to_ascii_uppercase (drop count letters) ≡ map to_ascii_uppercase letters → length letters ≤ count → IsAscii letters → IsUtf8 written
written_is_text written letters count is most ascii = capitals_are_text written letters (written_is_all written letters count is most) ascii
