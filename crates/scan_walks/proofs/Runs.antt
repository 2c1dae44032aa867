-- Bits that are shifted in are runs of cycles: the clocks of a run are those of two words.
use Rattle.std.proofs.Common.{◌≡◌, ◌≤◌, ◌<◌, ◌+◌, ◌-◌, ◌/◌, ◌%◌, ◌*◌, ◌^◌, ◌==◌, ℕ, zero, suc, Bool, true, false, List, [], ◌∷◌, ◌++◌, length, take, drop, replicate, refl, ap, sym, ◌∙◌, arith}
use Rattle.std.proofs.Math.Nat.{pow-suc, pow-le-pow_right}
use Rattle.std.proofs.lemmas.Bool.{ne_eqb}
use Rattle.std.proofs.lemmas.List.{length-take-le, take-replicate}
use Rattle.scan_bits.specs.Words.{bits_of, number_of}
use Rattle.scan_bits.proofs.WordLaws.{bits_of-number_of, bits_of-zero}
use Rattle.chain_model.specs.Cycles.{Clock, clocks, clocks_of}
use Rattle.scan_walks.specs.Walks.{shift_in, calls_for}

-- a call of 64 cycles is one of the calls
pub calls_after : (count left : ℕ) → 64 < count → left ≡ count - 64 → 1 + calls_for left ≡ calls_for count
calls_after count left more is = omega (arith, more, is)

pub last_call : (count : ℕ) → 1 ≤ count → count ≤ 64 → 1 ≡ calls_for count
last_call count some few = omega (arith, some, few)

-- the last cycle's bit
pub bits_of-power : (count : ℕ) → bits_of (suc count) (2 ^ count) ≡ replicate count false ++ true ∷ []
bits_of-power zero = refl
bits_of-power (suc count) =
    let twice : 2 ^ suc count ≡ 2 ^ count * 2 = pow-suc 2 count in
    let low : (2 ^ suc count % 2 == 1) ≡ false = ne_eqb (2 ^ suc count % 2) 1 (λ e. omega (arith, e, twice)) in
    let high : 2 ^ suc count / 2 ≡ 2 ^ count = omega (arith, twice) in
    λ i. low i ∷ (ap (bits_of (suc count)) high ∙ bits_of-power count) i

-- a word has the bits that it is the number of
pub word_bits : (bits : List Bool) (n word : ℕ) → n ≤ length bits → word ≡ number_of (take n bits) → bits_of n word ≡ take n bits
word_bits bits n word le is =
    let long : length (take n bits) ≡ n = length-take-le n bits le in
    (λ i. bits_of (sym long i) (is i)) ∙ bits_of-number_of (take n bits)

front_run : (n : ℕ) (bits : List Bool) → n < length bits → shift_in bits ≡ clocks (replicate n false) (take n bits) ++ shift_in (drop n bits)
front_run zero bits lt = refl
front_run (suc n) [] lt = absurd (omega (arith, lt))
front_run (suc n) (bit ∷ []) lt = absurd (omega (arith, lt))
front_run (suc n) (bit ∷ next ∷ bits) lt = ap {A = List Clock} (λ rest. record { tms = false; tdi = bit } ∷ rest) (front_run n (next ∷ bits) (omega (arith, lt)))

end_run : (bit : Bool) (bits : List Bool) → shift_in (bit ∷ bits) ≡ clocks (replicate (length bits) false ++ true ∷ []) (bit ∷ bits)
end_run bit [] = refl
end_run bit (next ∷ bits) = ap {A = List Clock} (λ rest. record { tms = false; tdi = bit } ∷ rest) (end_run next bits)

-- a run of n bits and the rest behind it
pub run : (bits : List Bool) (n word : ℕ) → n < length bits → word ≡ number_of (take n bits) → shift_in bits ≡ clocks_of n 0 word ++ shift_in (drop n bits)
run bits n word lt is =
    front_run n bits lt ∙ (λ i. clocks (sym (bits_of-zero n) i) (sym (word_bits bits n word (omega (arith, lt)) is) i) ++ shift_in (drop n bits))

take_whole : (bits : List Bool) (n : ℕ) → length bits ≡ n → take n bits ≡ bits
take_whole bits n is = ap (λ k. take k bits) (sym is) ∙ all bits
  where
    all : (r : List Bool) → take (length r) r ≡ r
    all [] = refl
    all (b ∷ r) = ap (λ q. b ∷ q) (all r)

-- the last run
pub last_run : (bits : List Bool) (n word : ℕ) → 1 ≤ n → length bits ≡ n → word ≡ number_of (take n bits) → shift_in bits ≡ clocks_of n (2 ^ (n - 1)) word
last_run [] n word some size is = absurd (omega (arith, some, size))
last_run (bit ∷ bits) n word some size is =
    let less : n ≡ suc (n - 1) = omega (arith, some) in
    let short : length bits ≡ n - 1 = omega (arith, size) in
    let tms : bits_of n (2 ^ (n - 1)) ≡ replicate (length bits) false ++ true ∷ []
    = ap (λ k. bits_of k (2 ^ (n - 1))) less ∙ bits_of-power (n - 1) ∙ ap (λ k. replicate k false ++ true ∷ []) (sym short) in
    let tdi : bits_of n word ≡ bit ∷ bits = word_bits (bit ∷ bits) n word (omega (arith, size)) is ∙ take_whole (bit ∷ bits) n size in
    end_run bit bits ∙ (λ i. clocks (sym tms i) (sym tdi i))

number_of-zeros : (n : ℕ) → number_of (replicate n false) ≡ 0
number_of-zeros zero = refl
number_of-zeros (suc n) = ap (λ k. 0 + 2 * k) (number_of-zeros n)

-- zeros are 0
pub zeros : (n left : ℕ) → n ≤ left → 0 ≡ number_of (take n (replicate left false))
zeros n left le = sym (ap number_of (take-replicate n left false le) ∙ number_of-zeros n)

pub power_fits : (n : ℕ) → 1 ≤ n → n ≤ 64 → 1 * 2 ^ (n - 1) % 2 ^ 64 ≡ 2 ^ (n - 1)
power_fits n some few =
    let bound : 2 ^ (n - 1) ≤ 2 ^ 63 = pow-le-pow_right {n = 2} (omega arith) {i = n - 1} {j = 63} (omega (arith, few)) in
    omega (arith, bound)
