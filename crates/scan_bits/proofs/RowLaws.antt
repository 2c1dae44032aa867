-- Rows of words as one list of bits.
use Rattle.std.proofs.Common.{◌≡◌, ◌<◌, ◌≤◌, ◌+◌, ◌-◌, ◌*◌, refl, take, drop, sym, ℕ, suc, Bool, List, [], ◌∷◌, ◌++◌, length, ap, ◌∙◌, arith, append_assoc, length-append, length-drop, get_or, set, rules}
use Rattle.std.proofs.lemmas.List.{take_at, drop_at, take-append-le, drop-append-le, take-append-drop, length-take-le, drop-drop, take-take, drop_more, set_split, drop-take}
use Rattle.scan_bits.proofs.WordLaws.{length-bits_of}
use Rattle.scan_bits.specs.Words.{bits_of}
use Rattle.scan_bits.specs.Rows.{bits_of_row, written, window}

pub length-row : (width : ℕ) (words : List ℕ) → length (bits_of_row width words) ≡ width * length words
length-row width [] = omega arith
length-row width (w ∷ words) = length-append (bits_of width w) (bits_of_row width words) ∙ (λ i. length-bits_of width w i + length-row width words i) ∙ mul_more (length words) where
  mul_more : (n : ℕ) → width + width * n ≡ width * suc n
  mul_more n = omega arith

pub row-append : (width : ℕ) (xs ys : List ℕ) → bits_of_row width (xs ++ ys) ≡ bits_of_row width xs ++ bits_of_row width ys
row-append width [] ys = refl
row-append width (w ∷ xs) ys = ap (λ q. bits_of width w ++ q) (row-append width xs ys) ∙ sym (append_assoc (bits_of width w) (bits_of_row width xs) (bits_of_row width ys))

-- whole words are dropped
pub row-drop : (width k : ℕ) (words : List ℕ) → k ≤ length words → drop (width * k) (bits_of_row width words) ≡ bits_of_row width (drop k words)
row-drop width k words le =
    let whole : bits_of_row width words ≡ bits_of_row width (take k words) ++ bits_of_row width (drop k words)
    = ap (bits_of_row width) (sym (take-append-drop k words)) ∙ row-append width (take k words) (drop k words) in
    let size : length (bits_of_row width (take k words)) ≡ width * k = length-row width (take k words) ∙ ap (λ n. width * n) (length-take-le k words le) in
    ap (drop (width * k)) whole ∙ drop_at (bits_of_row width (take k words)) (bits_of_row width (drop k words)) (width * k) size

pub row-take : (width k : ℕ) (words : List ℕ) → k ≤ length words → take (width * k) (bits_of_row width words) ≡ bits_of_row width (take k words)
row-take width k words le =
    let whole : bits_of_row width words ≡ bits_of_row width (take k words) ++ bits_of_row width (drop k words)
    = ap (bits_of_row width) (sym (take-append-drop k words)) ∙ row-append width (take k words) (drop k words) in
    let size : length (bits_of_row width (take k words)) ≡ width * k = length-row width (take k words) ∙ ap (λ n. width * n) (length-take-le k words le) in
    ap (take (width * k)) whole ∙ take_at (bits_of_row width (take k words)) (bits_of_row width (drop k words)) (width * k) size

-- a part of one word
pub row_part : (width k low n : ℕ) (words : List ℕ) (d : ℕ) → k < length words → low + n ≤ width
    → window (bits_of_row width words) (width * k + low) n ≡ window (bits_of width (get_or words k d)) low n
row_part width k low n words d lt le =
    let word = bits_of width (get_or words k d) in
    let rest = bits_of_row width (drop (k + 1) words) in
    let split : drop (width * k + low) (bits_of_row width words) ≡ drop low (word ++ rest)
    = sym (drop-drop low (width * k) (bits_of_row width words))
    ∙ ap (drop low) (row-drop width k words (omega arith) ∙ ap (bits_of_row width) (drop_more words k d lt)) in
    let size : length word ≡ width = length-bits_of width (get_or words k d) in
    let front : drop low (word ++ rest) ≡ drop low word ++ rest = drop-append-le low word rest (omega (arith, size)) in
    ap (take n) (split ∙ front) ∙ take-append-le n (drop low word) rest (omega (arith, size, length-drop low word))

-- a window in two parts
pub window-append : (bits : List Bool) (from m n : ℕ) → from + m ≤ length bits → window bits from (m + n) ≡ window bits from m ++ window bits (from + m) n
window-append bits from m n le =
    let here = drop from bits in
    let size : length (take m here) ≡ m = length-take-le m here (omega (arith, length-drop from bits)) in
    let front : take m (take (m + n) here) ≡ take m here = take-take m (m + n) here (omega arith) in
    sym (take-append-drop m (take (m + n) here))
    ∙ (λ i. front i ++ (drop-take m n here ∙ ap (take n) (drop-drop m from bits)) i)

-- writing in the middle one of three parts
pub written_middle : (front old rest others : List Bool) (at low width : ℕ) → length front ≡ at → length old ≡ width → low + length others ≤ width
    → written (front ++ (old ++ rest)) (at + low) others ≡ front ++ (written old low others ++ rest)
written_middle front old rest others at low width at_is long le =
    let a : take (at + low) (front ++ (old ++ rest)) ≡ front ++ take low old
    = taken front (old ++ rest) at low at_is ∙ ap (λ q. front ++ q) (take-append-le low old rest (omega (arith, long))) in
    let b : drop (at + low + length others) (front ++ (old ++ rest)) ≡ drop (low + length others) old ++ rest
    = ap (λ k. drop k (front ++ (old ++ rest))) (omega arith) ∙ dropped front (old ++ rest) at (low + length others) at_is ∙ drop-append-le (low + length others) old rest (omega (arith, long)) in
    (λ i. a i ++ others ++ b i) ∙ regrouped front (take low old) others (drop (low + length others) old) rest
  where
    taken : (xs ys : List Bool) (n m : ℕ) → length xs ≡ n → take (n + m) (xs ++ ys) ≡ xs ++ take m ys
    taken [] ys n m is = let e : n + m ≡ m = omega (arith, is) in ap (λ k. take k ys) e
    taken (x ∷ xs) ys n m is = let e : n + m ≡ suc ((n - 1) + m) = omega (arith, is) in ap (λ k. take k (x ∷ (xs ++ ys))) e ∙ ap (λ q. x ∷ q) (taken xs ys (n - 1) m (omega (arith, is)))

    dropped : (xs ys : List Bool) (n m : ℕ) → length xs ≡ n → drop (n + m) (xs ++ ys) ≡ drop m ys
    dropped xs ys n m is = sym (drop-drop m n (xs ++ ys)) ∙ ap (drop m) (drop_at xs ys n is)

    regrouped : (p q r s t : List Bool) → (p ++ q) ++ r ++ (s ++ t) ≡ p ++ ((q ++ r ++ s) ++ t)
    regrouped p q r s t = search (rules, append_assoc)

-- a part of one word is written
pub row_written : (width k low : ℕ) (others : List Bool) (words : List ℕ) (d word : ℕ) → k < length words → low + length others ≤ width
    → bits_of width word ≡ written (bits_of width (get_or words k d)) low others
    → bits_of_row width (set words k word) ≡ written (bits_of_row width words) (width * k + low) others
row_written width k low others words d word lt le is =
    let old = bits_of width (get_or words k d) in
    let front = bits_of_row width (take k words) in
    let rest = bits_of_row width (drop (k + 1) words) in
    let size : length front ≡ width * k = length-row width (take k words) ∙ ap (λ n. width * n) (length-take-le k words (omega arith)) in
    let long : length old ≡ width = length-bits_of width (get_or words k d) in
    let next : suc k ≡ k + 1 = omega arith in
    let new : bits_of_row width (set words k word) ≡ front ++ (written old low others ++ rest)
    = ap (bits_of_row width) (set_split words k word lt ∙ ap (λ n. take k words ++ word ∷ drop n words) next) ∙ row-append width (take k words) (word ∷ drop (k + 1) words) ∙ ap (λ q. front ++ (q ++ rest)) is in
    let was : bits_of_row width words ≡ front ++ (old ++ rest)
    = ap (bits_of_row width) (sym (take-append-drop k words) ∙ ap (λ q. take k words ++ q) (drop_more words k d lt)) ∙ row-append width (take k words) (get_or words k d ∷ drop (k + 1) words) in
    new ∙ sym (written_middle front old rest others (width * k) low width size long le) ∙ ap (λ q. written q (width * k + low) others) (sym was)
