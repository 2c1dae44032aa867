-- A number in base 16, a part at a time.
use Rattle.std.proofs.Common.{◌≡◌, ℕ, zero, suc, ◌≤◌, ◌<◌, ◌+◌, ◌-◌, ◌*◌, ◌/◌, ◌%◌, ◌^◌, min, Bool, List, [], ◌∷◌, ◌++◌, length, take, drop, refl, ap, sym, ◌∙◌, arith, inl, inr, append_assoc, take-append-drop, length-drop, subst}
use Rattle.std.proofs.Math.Nat.{add-mul-div_left, add-mul-mod_self_left, mul_assoc, div-one, div-div-eq-div-mul, div-eq_of_lt}
use Rattle.std.proofs.lemmas.Nat.{pow-add, pow_pos}
use Rattle.std.proofs.lemmas.Bool.{cases_lt}
use Rattle.std.proofs.lemmas.List.{append-nil, take_all, length-take-le}
use Rattle.scan_bits.specs.Words.{number_of}
use Rattle.scan_bits.proofs.WordLaws.{number_of-append, number_of-lt}
use Rattle.text_lines.specs.Hex.{hex_digit, hex_digits}

-- the lowest digits are those of the lowest bits
hex_low : (count low high : ℕ) → hex_digits count (low + 2 ^ (4 * count) * high) ≡ hex_digits count low
hex_low zero low high = refl
hex_low (suc count) low high =
    let up : 2 ^ (4 * suc count) ≡ 16 * 2 ^ (4 * count) = ap (λ (k : ℕ). 2 ^ k) (omega arith) ∙ pow-add 2 4 (4 * count) in
    let sum : low + 2 ^ (4 * suc count) * high ≡ low + 16 * (2 ^ (4 * count) * high) = ap (λ (p : ℕ). low + p * high) up ∙ ap (λ (m : ℕ). low + m) (mul_assoc 16 (2 ^ (4 * count)) high) in
    let above : (low + 2 ^ (4 * suc count) * high) / 16 ≡ low / 16 + 2 ^ (4 * count) * high = ap (λ (n : ℕ). n / 16) sum ∙ add-mul-div_left low (2 ^ (4 * count) * high) (omega arith) in
    let below : (low + 2 ^ (4 * suc count) * high) % 16 ≡ low % 16 = ap (λ (n : ℕ). n % 16) sum ∙ add-mul-mod_self_left low 16 (2 ^ (4 * count) * high) in
    (λ i. hex_digits count (above i) ++ hex_digit (below i) ∷ []) ∙ ap (λ digits. digits ++ hex_digit (low % 16) ∷ []) (hex_low count (low / 16) high)

-- the digits above so many others, and those
pub hex_split : (count below number : ℕ) → hex_digits (below + count) number ≡ hex_digits count (number / 2 ^ (4 * below)) ++ hex_digits below number
hex_split count zero number = ap (λ (k : ℕ). hex_digits k number) {x = 0 + count} {y = count} (omega arith) ∙ ap (hex_digits count) (sym (div-one number)) ∙ sym (append-nil _)
hex_split count (suc below) number =
    let up : 2 ^ (4 * suc below) ≡ 16 * 2 ^ (4 * below) = ap (λ (k : ℕ). 2 ^ k) (omega arith) ∙ pow-add 2 4 (4 * below) in
    let over : number / 16 / 2 ^ (4 * below) ≡ number / 2 ^ (4 * suc below) = div-div-eq-div-mul number 16 (2 ^ (4 * below)) ∙ ap (λ (p : ℕ). number / p) (sym up) in
    ap (λ (k : ℕ). hex_digits k number) {x = suc below + count} {y = suc (below + count)} (omega arith)
    ∙ ap (λ digits. digits ++ hex_digit (number % 16) ∷ []) (hex_split count below (number / 16))
    ∙ append_assoc (hex_digits count (number / 16 / 2 ^ (4 * below))) (hex_digits below (number / 16)) (hex_digit (number % 16) ∷ [])
    ∙ ap (λ (n : ℕ). hex_digits count n ++ hex_digits (suc below) number) over

-- the number of the bits from one on
number_of-drop : (from : ℕ) (bits : List Bool) → from ≤ length bits → number_of bits / 2 ^ from ≡ number_of (drop from bits)
number_of-drop from bits le =
    let long : length (take from bits) ≡ from = length-take-le from bits le in
    let split : number_of bits ≡ number_of (take from bits) + 2 ^ from * number_of (drop from bits)
    = ap number_of (sym (take-append-drop from bits)) ∙ number_of-append (take from bits) (drop from bits) ∙ ap (λ (k : ℕ). number_of (take from bits) + 2 ^ k * number_of (drop from bits)) long in
    ap (λ (n : ℕ). n / 2 ^ from) split
    ∙ add-mul-div_left (number_of (take from bits)) (number_of (drop from bits)) (pow_pos from)
    ∙ ap (λ (n : ℕ). n + number_of (drop from bits)) (div-eq_of_lt (subst (λ (k : ℕ). number_of (take from bits) < 2 ^ k) long (number_of-lt (take from bits))))
    ∙ omega arith

low_part : (count width : ℕ) (bits : List Bool) → width ≡ min (length bits) (4 * count) → hex_digits count (number_of (take width bits)) ≡ hex_digits count (number_of bits)
low_part count width bits is = elim (cases_lt (length bits) (4 * count)) [
  | inl lt ↦ ap (λ (l : List Bool). hex_digits count (number_of l)) (take_all width bits (omega (arith, is, lt)))
  | inr ge ↦
      let whole : width ≡ 4 * count = omega (arith, is, ge) in
      let long : length (take width bits) ≡ 4 * count = length-take-le width bits (omega (arith, whole, ge)) ∙ whole in
      sym (ap (hex_digits count) (ap number_of (sym (take-append-drop width bits)) ∙ number_of-append (take width bits) (drop width bits) ∙ ap (λ (k : ℕ). number_of (take width bits) + 2 ^ k * number_of (drop width bits)) long)
      ∙ hex_low count (number_of (take width bits)) (number_of (drop width bits)))
]

-- so many digits above so many others are those of a word of the bits there
pub part_digits : (bits : List Bool) (below count width word : ℕ) → 4 * below ≤ length bits → width ≡ min (length bits - 4 * below) (4 * count) → word ≡ number_of (take width (drop (4 * below) bits))
    → hex_digits count word ≡ hex_digits count (number_of bits / 2 ^ (4 * below))
part_digits bits below count width word le width_is word_is =
    ap (hex_digits count) word_is
    ∙ low_part count width (drop (4 * below) bits) (width_is ∙ ap (λ (k : ℕ). min k (4 * count)) (sym (length-drop (4 * below) bits)))
    ∙ ap (hex_digits count) (sym (number_of-drop (4 * below) bits le))

-- up to sixteen digits above whole words of them, and those
pub hex_parts : (left number : ℕ) → 0 < left
    → hex_digits left number ≡ hex_digits ((left - 1) % 16 + 1) (number / 2 ^ (4 * (left - ((left - 1) % 16 + 1)))) ++ hex_digits (left - ((left - 1) % 16 + 1)) number
hex_parts left number some =
    ap (λ (k : ℕ). hex_digits k number) {x = left} {y = left - ((left - 1) % 16 + 1) + ((left - 1) % 16 + 1)} (omega (arith, some))
    ∙ hex_split ((left - 1) % 16 + 1) (left - ((left - 1) % 16 + 1)) number
