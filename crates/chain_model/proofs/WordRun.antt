-- Cycles from two words, piece by piece.
use Rattle.std.proofs.Common.{◌≡◌, ◌<◌, ◌≤◌, ◌+◌, ◌-◌, ◌*◌, ◌/◌, ◌%◌, ◌^◌, ◌==◌, bit_or, bit_and, ℕ, zero, suc, Bool, List, ◌++◌, ◌∷◌, length, refl, sym, ap, ◌∙◌, arith}
use Rattle.std.proofs.Math.Nat.{pow-le-pow_right}
use Rattle.std.proofs.lemmas.Nat.{mul-le, or_comm, or_shifted, pow-add, shr-shr}
use Rattle.std.specs.Int.Count.{count_trailing_zeros, under}
use Rattle.scan_bits.specs.Words.{bits_of, number_of}
use Rattle.scan_bits.proofs.WordLaws.{number_of-append}
use Rattle.scan_bits.proofs.WordParts.{masked}
use Rattle.chain_model.specs.Chains.{ChainState}
use Rattle.chain_model.specs.Cycles.{Clock, after_cycles, answers, clocks, clocks_of}
use Rattle.chain_model.proofs.Rows.{after_cycles-append, answers-append}
use Rattle.chain_model.proofs.Calls.{length-answers}

pub length-clocks_of : (n tms tdi : ℕ) → n ≡ length (clocks_of n tms tdi)
length-clocks_of zero tms tdi = refl
length-clocks_of (suc n) tms tdi = ap (λ (k : ℕ). suc k) (length-clocks_of n (tms / 2) (tdi / 2))

pub low_word : (word n : ℕ) → n ≤ 64 → bit_and word ((2 ^ 64 - 1) / 2 ^ (64 - n)) ≡ word % 2 ^ n
low_word word n few = let e : word / 2 ^ 0 ≡ word = omega arith in rw e at (masked word 0 n few)

-- a number's lowest bits, of which none is set
pub no_bits : (k word n : ℕ) → n ≤ count_trailing_zeros k word → bits_of n word ≡ bits_of n 0
unfolding count_trailing_zeros
no_bits k word zero le = refl
no_bits zero word (suc n) le = absurd (omega (arith, le))
no_bits (suc k) word (suc n) le = first_bit (word % 2) refl le (no_bits k (word / 2) n) where
  first_bit : (rest : ℕ) → word % 2 ≡ rest → suc n ≤ under rest (count_trailing_zeros k (word / 2)) → (n ≤ count_trailing_zeros k (word / 2) → bits_of n (word / 2) ≡ bits_of n 0) → bits_of (suc n) word ≡ bits_of (suc n) 0
  first_bit zero is le next = λ i. (is i == 1) ∷ next (omega (arith, le)) i
  first_bit (suc rest) is le next = absurd (omega (arith, le))

pub no_tms : (k n tms tdi : ℕ) → n ≤ count_trailing_zeros k tms → clocks_of n 0 tdi ≡ clocks_of n tms tdi
no_tms k n tms tdi le = ap (λ (bits : List Bool). clocks bits (bits_of n tdi)) (sym (no_bits k tms n le))

clocks_of-append : (m n tms tdi : ℕ) → clocks_of (m + n) tms tdi ≡ clocks_of m tms tdi ++ clocks_of n (tms / 2 ^ m) (tdi / 2 ^ m)
clocks_of-append zero n tms tdi =
    let same : 0 + n ≡ n = omega arith in
    let t : tms ≡ tms / 2 ^ 0 = omega arith in
    let d : tdi ≡ tdi / 2 ^ 0 = omega arith in
    λ i. clocks_of (same i) (t i) (d i)
clocks_of-append (suc m) n tms tdi =
    let more : suc m + n ≡ suc (m + n) = omega arith in
    let t : tms / 2 / 2 ^ m ≡ tms / 2 ^ suc m = shr-shr tms 1 m ∙ ap (λ k. tms / 2 ^ k) (omega arith) in
    let d : tdi / 2 / 2 ^ m ≡ tdi / 2 ^ suc m = shr-shr tdi 1 m ∙ ap (λ k. tdi / 2 ^ k) (omega arith) in
    ap (λ k. clocks_of k tms tdi) more
    ∙ ap (λ (rest : List Clock). record { tms = tms % 2 == 1; tdi = tdi % 2 == 1 } ∷ rest)
    (clocks_of-append m n (tms / 2) (tdi / 2) ∙ (λ i. clocks_of m (tms / 2) (tdi / 2) ++ clocks_of n (t i) (d i)))

-- the cycles that are left, after a piece of them
abbrev pub left_of : ℕ → ℕ → ℕ → ℕ → List Clock
left_of n at tms tdi = clocks_of (n - at) (tms / 2 ^ at) (tdi / 2 ^ at)

left_split : (n at count tms tdi : ℕ) → at + count ≤ n → left_of n at tms tdi ≡ clocks_of count (tms / 2 ^ at) (tdi / 2 ^ at) ++ left_of n (at + count) tms tdi
left_split n at count tms tdi le =
    let all : n - at ≡ count + (n - (at + count)) = omega (arith, le) in
    ap (λ k. clocks_of k (tms / 2 ^ at) (tdi / 2 ^ at)) all
    ∙ clocks_of-append count (n - (at + count)) (tms / 2 ^ at) (tdi / 2 ^ at)
    ∙ (λ i. clocks_of count (tms / 2 ^ at) (tdi / 2 ^ at) ++ clocks_of (n - (at + count)) (shr-shr tms at count i) (shr-shr tdi at count i))

pub next_chain : (chain new end : ChainState) (n at count tms tdi : ℕ) → at + count ≤ n → new ≡ after_cycles (clocks_of count (tms / 2 ^ at) (tdi / 2 ^ at)) chain
    → after_cycles (left_of n at tms tdi) chain ≡ end → after_cycles (left_of n (at + count) tms tdi) new ≡ end
next_chain chain new end n at count tms tdi le new_is is =
    ap (after_cycles (left_of n (at + count) tms tdi)) new_is
    ∙ sym (after_cycles-append (clocks_of count (tms / 2 ^ at) (tdi / 2 ^ at)) (left_of n (at + count) tms tdi) chain)
    ∙ ap (λ (cs : List Clock). after_cycles cs chain) (sym (left_split n at count tms tdi le)) ∙ is

-- bits that are set above a number
pub or_part : (word v at count : ℕ) → word < 2 ^ at → v < 2 ^ count → at + count ≤ 64 → bit_or word (v * 2 ^ at % 18446744073709551616) ≡ word + 2 ^ at * v
or_part word v at count lt small within =
    let p : 2 ^ (count + at) ≤ 2 ^ 64 = pow-le-pow_right {n = 2} (omega arith) {i = count + at} {j = 64} (omega (arith, within)) in
    let q : (v + 1) * 2 ^ at ≤ 2 ^ count * 2 ^ at = mul-le (v + 1) (2 ^ at) (2 ^ count) (2 ^ at) (omega (arith, small)) (omega arith) in
    let below : v * 2 ^ at < 2 ^ 64 = omega (arith, p, q, pow-add 2 count at, lt) in
    let m : v * 2 ^ at % 18446744073709551616 ≡ v * 2 ^ at = omega (arith, below) in
    ap (λ (x : ℕ). bit_or word x) m ∙ or_comm word (v * 2 ^ at) ∙ or_shifted v at word lt ∙ omega arith

pub next_answers : (chain new : ChainState) (n at count tms tdi word v whole : ℕ) → at + count ≤ n → n ≤ 64 → word < 2 ^ at → v < 2 ^ count
    → v ≡ number_of (answers (clocks_of count (tms / 2 ^ at) (tdi / 2 ^ at)) chain) → new ≡ after_cycles (clocks_of count (tms / 2 ^ at) (tdi / 2 ^ at)) chain
    → word + 2 ^ at * number_of (answers (left_of n at tms tdi) chain) ≡ whole
    → bit_or word (v * 2 ^ at % 18446744073709551616) + 2 ^ (at + count) * number_of (answers (left_of n (at + count) tms tdi) new) ≡ whole
next_answers chain new n at count tms tdi word v whole le few small v_small v_is new_is is =
    let piece = clocks_of count (tms / 2 ^ at) (tdi / 2 ^ at) in
    let more = left_of n (at + count) tms tdi in
    let rest = number_of (answers more new) in
    let set : bit_or word (v * 2 ^ at % 18446744073709551616) ≡ word + 2 ^ at * v = or_part word v at count small v_small (omega (arith, le, few)) in
    let long : length (answers piece chain) ≡ count = length-answers piece chain ∙ sym (length-clocks_of count (tms / 2 ^ at) (tdi / 2 ^ at)) in
    let parts : number_of (answers (left_of n at tms tdi) chain) ≡ v + 2 ^ count * rest =
    ap (λ (cs : List Clock). number_of (answers cs chain)) (left_split n at count tms tdi le)
    ∙ ap number_of (answers-append piece more chain)
    ∙ number_of-append (answers piece chain) (answers more (after_cycles piece chain))
    ∙ (λ i. sym v_is i + 2 ^ (long i) * number_of (answers more (sym new_is i))) in
    let power : 2 ^ (at + count) ≡ 2 ^ at * 2 ^ count = pow-add 2 at count in
    let sum : word + 2 ^ at * (v + 2 ^ count * rest) ≡ whole = ap (λ (x : ℕ). word + 2 ^ at * x) (sym parts) ∙ is in
    let spread : 2 ^ at * (v + 2 ^ count * rest) ≡ 2 ^ at * v + 2 ^ at * 2 ^ count * rest = spread_out (2 ^ at) v (2 ^ count) rest in
    (λ i. set i + power i * rest) ∙ omega (arith, sum, spread)
  where
    spread_out : (a v b r : ℕ) → a * (v + b * r) ≡ a * v + a * b * r
    spread_out a v b r = Rattle.std.proofs.Math.Nat.mul-add a v (b * r) ∙ ap (λ (x : ℕ). a * v + x) (sym (Rattle.std.proofs.Math.Nat.mul_assoc a b r))

pub next_bound : (word v at count : ℕ) → word < 2 ^ at → v < 2 ^ count → at + count ≤ 64 → bit_or word (v * 2 ^ at % 18446744073709551616) < 2 ^ (at + count)
next_bound word v at count small v_small within =
    let set : bit_or word (v * 2 ^ at % 18446744073709551616) ≡ word + 2 ^ at * v = or_part word v at count small v_small within in
    let power : 2 ^ (at + count) ≡ 2 ^ at * 2 ^ count = pow-add 2 at count in
    let high : 2 ^ at * (v + 1) ≤ 2 ^ at * 2 ^ count = mul-le (2 ^ at) (v + 1) (2 ^ at) (2 ^ count) (omega arith) (omega (arith, v_small)) in
    omega (arith, set, power, high, small)
