-- Words that are put together from pieces.
use Rattle.std.proofs.Common.{◌≡◌, ◌≤◌, ◌<◌, ◌+◌, ◌-◌, ◌*◌, ◌%◌, ◌^◌, bit_or, ℕ, Bool, List, ◌++◌, take, drop, ap, sym, ◌∙◌, arith, append_assoc}
use Rattle.std.proofs.lemmas.List.{take_at, drop_at}
use Rattle.std.proofs.lemmas.Nat.{mul-le, or_comm, or_shifted, pow-add, pow_pos}
use Rattle.std.proofs.Math.Nat.{pow-le-pow_right, mul_comm, mod-eq_of_lt}
use Rattle.scan_bits.specs.Words.{bits_of, number_of}
use Rattle.scan_bits.proofs.WordLaws.{bits_of-cat, number_of-bits_of, length-bits_of}

-- a word of so many bits, and the bits that are left behind them
pub record Taken (word done : ℕ) (left all : List Bool) : Type 0 where
  pub small : word < 2 ^ done
  pub is : bits_of done word ++ left ≡ all

pub taken_more : (word done bits count next n : ℕ) (left rest all : List Bool) → n ≤ 64 → done < n → count ≤ n - done → next ≡ done + count → bits < 2 ^ count
    → bits_of count bits ++ rest ≡ left → Taken word done left all → Taken (bit_or word (bits * 2 ^ done % 2 ^ 64)) next rest all
taken_more word done bits count next n left rest all few lt fits sum small piece was =
    let a : 2 ^ (done + count) ≤ 2 ^ 64 = pow-le-pow_right {n = 2} (omega arith) {i = done + count} {j = 64} (omega (arith, few, lt, fits)) in
    let split : 2 ^ (done + count) ≡ 2 ^ done * 2 ^ count = pow-add 2 done count in
    let b : (bits + 1) * 2 ^ done ≤ 2 ^ count * 2 ^ done = mul-le (bits + 1) (2 ^ done) (2 ^ count) (2 ^ done) (omega (arith, small)) (omega arith) in
    let more : (bits + 1) * 2 ^ done ≡ bits * 2 ^ done + 2 ^ done = omega arith in
    let high : bits * 2 ^ done + 2 ^ done ≤ 2 ^ (done + count) = omega (arith, split, b, mul_comm (2 ^ done) (2 ^ count), more) in
    let whole : bits * 2 ^ done % 2 ^ 64 ≡ bits * 2 ^ done = omega (arith, a, high, pow_pos done) in
    let or : bit_or word (bits * 2 ^ done % 2 ^ 64) ≡ bits * 2 ^ done + word
    = ap (bit_or word) whole ∙ or_comm word (bits * 2 ^ done) ∙ or_shifted bits done word was.small in
    record {
      small = rw (or, sum) (omega (arith, was.small, high));
      is = rw (or, sum) (ap (λ q. q ++ rest) (bits_of-cat done count word bits was.small) ∙ append_assoc (bits_of done word) (bits_of count bits) rest ∙ ap (λ q. bits_of done word ++ q) piece ∙ was.is);
    }

pub taken_word : (word done n : ℕ) (left all : List Bool) → n ≡ done → Taken word done left all → word ≡ number_of (take n all)
taken_word word done n left all same was =
    sym (ap number_of (ap (take n) (sym was.is) ∙ take_at (bits_of done word) left n (length-bits_of done word ∙ sym same)) ∙ number_of-bits_of done word ∙ mod-eq_of_lt was.small)

pub taken_left : (word done n : ℕ) (left all : List Bool) → n ≡ done → Taken word done left all → left ≡ drop n all
taken_left word done n left all same was =
    sym (ap (drop n) (sym was.is) ∙ drop_at (bits_of done word) left n (length-bits_of done word ∙ sym same))
