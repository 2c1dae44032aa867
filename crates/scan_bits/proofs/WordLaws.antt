-- Laws of numbers as lists of bits.
use Rattle.std.proofs.Common.{◌≡◌, ◌<◌, ◌≤◌, ◌+◌, ◌-◌, ◌*◌, ◌/◌, ◌%◌, ◌^◌, ◌==◌, refl, take, drop, sym, ℕ, zero, suc, Bool, true, false, List, [], ◌∷◌, ◌++◌, length, replicate, ap, ◌∙◌, arith}
use Rattle.std.proofs.Math.Nat.{pow-suc}
use Rattle.std.proofs.lemmas.List.{take_at, drop_at}
use Rattle.std.proofs.lemmas.Nat.{shr-shr, mod-pow-add, mod_low, shr_high}
use Rattle.scan_bits.specs.Words.{bits_of, number_of, bit_value}

pub length-bits_of : (n value : ℕ) → length (bits_of n value) ≡ n
length-bits_of zero value = refl
length-bits_of (suc n) value = ap suc (length-bits_of n (value / 2))

pub bit_value-lt : (b : Bool) → bit_value b < 2
bit_value-lt true = omega arith
bit_value-lt false = omega arith

pub number_of-lt : (bits : List Bool) → number_of bits < 2 ^ length bits
number_of-lt [] = omega arith
number_of-lt (b ∷ bits) = rw pow-suc (omega (arith, number_of-lt bits, bit_value-lt b))

-- the lowest bit of a number is its rest by 2
pub bit_value-odd : (value : ℕ) → bit_value (value % 2 == 1) ≡ value % 2
bit_value-odd value = odd_case (value % 2) (omega arith) where
  odd_case : (rest : ℕ) → rest < 2 → bit_value (rest == 1) ≡ rest
  odd_case zero lt = refl
  odd_case (suc zero) lt = refl
  odd_case (suc (suc rest)) lt = absurd (omega arith)

pub odd-bit : (b : Bool) (rest : ℕ) → ((bit_value b + 2 * rest) % 2 == 1) ≡ b
odd-bit true rest = let e : (1 + 2 * rest) % 2 ≡ 1 = omega arith in rw e refl
odd-bit false rest = let e : (0 + 2 * rest) % 2 ≡ 0 = omega arith in rw e refl

pub number_of-bits_of : (n value : ℕ) → number_of (bits_of n value) ≡ value % 2 ^ n
number_of-bits_of zero value = omega arith
number_of-bits_of (suc n) value =
    let low : 2 ^ 1 ≡ 2 = refl in
    let split : value % 2 ^ suc n ≡ (value / 2 % 2 ^ n) * 2 + value % 2 = ap (λ k. value % 2 ^ k) (omega arith) ∙ mod-pow-add value n 1 in
    rw (number_of-bits_of n (value / 2)) (omega (arith, split, bit_value-odd value))

pub bits_of-number_of : (bits : List Bool) → bits_of (length bits) (number_of bits) ≡ bits
bits_of-number_of [] = refl
bits_of-number_of (b ∷ bits) =
    let half : (bit_value b + 2 * number_of bits) / 2 ≡ number_of bits = omega (arith, bit_value-lt b) in
    let rest : bits_of (length bits) ((bit_value b + 2 * number_of bits) / 2) ≡ bits = ap (bits_of (length bits)) half ∙ bits_of-number_of bits in
    λ i. odd-bit b (number_of bits) i ∷ rest i

-- the bits of 0
pub bits_of-zero : (n : ℕ) → bits_of n 0 ≡ replicate n false
bits_of-zero zero = refl
bits_of-zero (suc n) = ap (λ q. false ∷ q) (bits_of-zero n)

-- more bits of a number are those of what is left of it
pub bits_of-append : (m n value : ℕ) → bits_of (m + n) value ≡ bits_of m value ++ bits_of n (value / 2 ^ m)
bits_of-append zero n value =
    let same : 0 + n ≡ n = omega arith in
    let e : value ≡ value / 2 ^ 0 = omega arith in
    λ i. bits_of (same i) (e i)
bits_of-append (suc m) n value =
    let e : value / 2 / 2 ^ m ≡ value / 2 ^ suc m = shr-shr value 1 m ∙ ap (λ k. value / 2 ^ k) (omega arith) in
    let more : suc m + n ≡ suc (m + n) = omega arith in
    ap (λ k. bits_of k value) more ∙ ap (λ q. (value % 2 == 1) ∷ q) (bits_of-append m n (value / 2) ∙ ap (λ v. bits_of m (value / 2) ++ bits_of n v) e)

pub number_of-append : (xs ys : List Bool) → number_of (xs ++ ys) ≡ number_of xs + 2 ^ length xs * number_of ys
number_of-append [] ys = omega arith
number_of-append (b ∷ xs) ys = rw (number_of-append xs ys, pow-suc) (omega arith)

pub take-bits_of : (m n value : ℕ) → m ≤ n → take m (bits_of n value) ≡ bits_of m value
take-bits_of m n value le =
    let e : n ≡ m + (n - m) = omega arith in
    ap (λ k. take m (bits_of k value)) e ∙ ap (take m) (bits_of-append m (n - m) value)
    ∙ take_at (bits_of m value) (bits_of (n - m) (value / 2 ^ m)) m (length-bits_of m value)

pub drop-bits_of : (m n value : ℕ) → m ≤ n → drop m (bits_of n value) ≡ bits_of (n - m) (value / 2 ^ m)
drop-bits_of m n value le =
    let e : n ≡ m + (n - m) = omega arith in
    ap (λ k. drop m (bits_of k value)) e ∙ ap (drop m) (bits_of-append m (n - m) value)
    ∙ drop_at (bits_of m value) (bits_of (n - m) (value / 2 ^ m)) m (length-bits_of m value)

-- only the lowest bits count
pub bits_of-mod : (n value : ℕ) → bits_of n (value % 2 ^ n) ≡ bits_of n value
bits_of-mod n value =
    let e : bits_of (length (bits_of n value)) (number_of (bits_of n value)) ≡ bits_of n value = bits_of-number_of (bits_of n value) in
    (λ i. bits_of (sym (length-bits_of n value) i) (sym (number_of-bits_of n value) i)) ∙ e

-- a number put together from a low and a high part
pub bits_of-cat : (m n low high : ℕ) → low < 2 ^ m → bits_of (m + n) (high * 2 ^ m + low) ≡ bits_of m low ++ bits_of n high
bits_of-cat m n low high lt =
    let down : (high * 2 ^ m + low) / 2 ^ m ≡ high = shr_high high m low lt in
    let rest : (high * 2 ^ m + low) % 2 ^ m ≡ low = mod_low high m low lt in
    bits_of-append m n (high * 2 ^ m + low)
    ∙ (λ i. sym (bits_of-mod m (high * 2 ^ m + low)) i ++ bits_of n (down i))
    ∙ ap (λ v. bits_of m v ++ bits_of n high) rest
