-- Words of bits in bytes: sixteen bytes as one number, and a part of its bits read or replaced.
use Rattle.std.proofs.Common.{◌≡◌, ℕ, zero, suc, ◌+◌, ◌-◌, ◌*◌, ◌/◌, ◌%◌, ◌^◌, ◌<◌, ◌≤◌, ◌==◌, Bool, List, [], ◌∷◌, ◌++◌, length, take, drop, get_or, refl, ap, sym, ◌∙◌, arith, append_assoc, length-drop, take-append-drop, bit_and, bit_or}
use Rattle.std.proofs.Math.Nat.{pow-suc, div-div-eq-div-mul, mul_assoc, mul_comm, add_comm, mul-add, mod-lt, mod-eq_of_lt, pow-le-pow_right}
use Rattle.std.proofs.Math.Seq.{take-append-add, drop-append-add}
use Rattle.std.proofs.lemmas.List.{take-append-le, drop-append-le, drop-drop, length-take-le, take_all, take_at, take-take, drop_at, drop_all}
use Rattle.std.proofs.lemmas.List.Elements.{All-head, All-tail, All-take, All-drop}
use Rattle.std.proofs.lemmas.Nat.{pow_pos, pow-add, shr_split, shr_high, mod-pow-add, one_shl, and_mask, shl_whole, or_shifted, mul-add-lt}
use Rattle.std.specs.Int.{w32, w128, from_le_bytes, to_le_bytes, sum_through, byte_worth, bytes_low_first, byte_at}
use Rattle.scan_bits.specs.Words.{bit_value, bits_of, number_of, number_of_bytes, bytes_of, unpacked}
use Rattle.xvc_frame.specs.Messages.{AreBytes}
use Rattle.xvc_frame.specs.Frames.{replaced}
use Rattle.xvc_frame.proofs.Numbers.{length-bits_of, length-unpacked}

-- ---- numbers and their bytes

pub number_take_more : (count : ℕ) (bytes : List ℕ) → number_of_bytes (take (suc count) bytes) ≡ number_of_bytes (take count bytes) + get_or bytes count 0 * 256 ^ count
number_take_more zero [] = refl
number_take_more zero (b ∷ bytes) = omega arith
number_take_more (suc count) [] = omega arith
number_take_more (suc count) (b ∷ bytes) =
    let g = get_or bytes count 0 in
    let p = 256 ^ count in
    let next : 256 ^ suc count ≡ p * 256 = pow-suc 256 count in
    let worth : g * 256 ^ suc count ≡ (g * p) * 256 = ap (λ (x : ℕ). g * x) next ∙ sym (mul_assoc g p 256) in
    omega (arith, number_take_more count bytes, worth)

sum_is : (bytes : List ℕ) (count : ℕ) → sum_through (λ (i : ℕ). byte_worth i (get_or bytes i 0)) count ≡ number_of_bytes (take (suc count) bytes)
sum_is bytes zero = omega (arith, number_take_more 0 bytes)
sum_is bytes (suc count) = omega (arith, sum_is bytes count, number_take_more (suc count) bytes)

-- sixteen bytes as a number
pub sixteen_bytes : (bytes : List ℕ) → length bytes ≡ 16 → from_le_bytes w128 bytes ≡ number_of_bytes bytes
sixteen_bytes bytes long = sum_is bytes 15 ∙ ap number_of_bytes (take_all 16 bytes (omega arith))

byte_at_is : (i n : ℕ) → byte_at i n ≡ n / 256 ^ i % 256
byte_at_is zero n = let e : n / 256 ^ 0 ≡ n = omega arith in rw e refl
byte_at_is (suc i) n = refl

low_first_is : (i count n : ℕ) → bytes_low_first i count n ≡ bytes_of count (n / 256 ^ i)
low_first_is i zero n = refl
low_first_is i (suc count) n =
    let next : n / 256 ^ suc i ≡ n / 256 ^ i / 256 = ap (λ (k : ℕ). n / k) (pow-suc 256 i) ∙ sym (div-div-eq-div-mul n (256 ^ i) 256) in
    (λ k. byte_at_is i n k ∷ bytes_low_first (suc i) count n)
    ∙ ap (λ (s : List ℕ). (n / 256 ^ i % 256) ∷ s) (low_first_is (suc i) count n ∙ ap (bytes_of count) next)

-- a number as sixteen bytes
pub to_sixteen : (n : ℕ) → to_le_bytes w128 n ≡ bytes_of 16 n
to_sixteen n = low_first_is 0 16 n ∙ ap (bytes_of 16) (let e : n / 256 ^ 0 ≡ n = omega arith in e)

-- ---- bits of numbers

pub bits_of_low : (count value high : ℕ) → bits_of count (value + 2 ^ count * high) ≡ bits_of count value
bits_of_low zero value high = refl
bits_of_low (suc count) value high =
    let whole : 2 ^ suc count * high ≡ 2 * (2 ^ count * high) = ap (λ (k : ℕ). k * high) (pow-suc 2 count ∙ mul_comm (2 ^ count) 2) ∙ mul_assoc 2 (2 ^ count) high in
    let low : (value + 2 ^ suc count * high) % 2 ≡ value % 2 = omega (arith, whole) in
    let half : (value + 2 ^ suc count * high) / 2 ≡ value / 2 + 2 ^ count * high = omega (arith, whole) in
    rw (low, half) (ap (λ (s : List Bool). (value % 2 == 1) ∷ s) (bits_of_low count (value / 2) high))

pub bits_of_mod : (count value : ℕ) → bits_of count (value % 2 ^ count) ≡ bits_of count value
bits_of_mod count value =
    let split : value ≡ value % 2 ^ count + 2 ^ count * (value / 2 ^ count) = omega (arith, shr_split value count, mul_comm (2 ^ count) (value / 2 ^ count)) in
    sym (ap (bits_of count) split ∙ bits_of_low count (value % 2 ^ count) (value / 2 ^ count))

pub bits_of-add : (a b value : ℕ) → bits_of (a + b) value ≡ bits_of a value ++ bits_of b (value / 2 ^ a)
bits_of-add zero b value =
    let z : 0 + b ≡ b = omega arith in
    let one : value / 2 ^ 0 ≡ value = omega arith in
    rw (z, one) refl
bits_of-add (suc a) b value =
    let e : suc a + b ≡ suc (a + b) = omega arith in
    let half : value / 2 / 2 ^ a ≡ value / 2 ^ suc a = div-div-eq-div-mul value 2 (2 ^ a) ∙ ap (λ (k : ℕ). value / k) (mul_comm 2 (2 ^ a) ∙ sym (pow-suc 2 a)) in
    rw e (ap (λ (s : List Bool). (value % 2 == 1) ∷ s) (bits_of-add a b (value / 2) ∙ ap (λ (v : ℕ). bits_of a (value / 2) ++ bits_of b v) half))

-- two numbers put together
pub bits_of_join : (a b low high : ℕ) → low < 2 ^ a → bits_of (a + b) (low + 2 ^ a * high) ≡ bits_of a low ++ bits_of b high
bits_of_join a b low high lt =
    let above : (low + 2 ^ a * high) / 2 ^ a ≡ high = ap (λ (k : ℕ). (low + k) / 2 ^ a) (mul_comm (2 ^ a) high) ∙ ap (λ (k : ℕ). k / 2 ^ a) (add_comm low (high * 2 ^ a)) ∙ shr_high high a low lt in
    bits_of-add a b (low + 2 ^ a * high) ∙ (λ i. bits_of_low a low high i ++ bits_of b (above i))

lowest_is : (rest : ℕ) → rest < 2 → bit_value (rest == 1) ≡ rest
lowest_is zero lt = refl
lowest_is (suc zero) lt = refl
lowest_is (suc (suc rest)) lt = absurd (omega arith)

pub number_of-bits_of : (count value : ℕ) → number_of (bits_of count value) ≡ value % 2 ^ count
number_of-bits_of zero value = omega arith
number_of-bits_of (suc count) value =
    let low : bit_value (value % 2 == 1) ≡ value % 2 = lowest_is (value % 2) (omega arith) in
    let n : suc count ≡ count + 1 = omega arith in
    let whole : value % 2 ^ suc count ≡ (value / 2 ^ 1 % 2 ^ count) * 2 ^ 1 + value % 2 ^ 1 = ap (λ (k : ℕ). value % 2 ^ k) n ∙ mod-pow-add value count 1 in
    omega (arith, low, whole, number_of-bits_of count (value / 2))

-- ---- bytes as bits

pub unpacked-append : (front back : List ℕ) → unpacked (front ++ back) ≡ unpacked front ++ unpacked back
unpacked-append [] back = refl
unpacked-append (b ∷ front) back = ap (λ (s : List Bool). bits_of 8 b ++ s) (unpacked-append front back) ∙ sym (append_assoc (bits_of 8 b) (unpacked front) (unpacked back))

pub unpacked_drop : (count : ℕ) (bytes : List ℕ) → drop (8 * count) (unpacked bytes) ≡ unpacked (drop count bytes)
unpacked_drop zero bytes = refl
unpacked_drop (suc count) [] = drop_all {X = Bool} (8 * suc count) [] (omega arith)
unpacked_drop (suc count) (b ∷ bytes) =
    let e : 8 * suc count ≡ 8 + 8 * count = omega arith in
    rw e (drop-append-add (bits_of 8 b) (unpacked bytes) (8 * count) ∙ unpacked_drop count bytes)

pub unpacked_take : (count : ℕ) (bytes : List ℕ) → take (8 * count) (unpacked bytes) ≡ unpacked (take count bytes)
unpacked_take zero bytes = refl
unpacked_take (suc count) [] = take_all {A = Bool} (8 * suc count) [] (omega arith)
unpacked_take (suc count) (b ∷ bytes) =
    let e : 8 * suc count ≡ 8 + 8 * count = omega arith in
    rw e (take-append-add (bits_of 8 b) (unpacked bytes) (8 * count) ∙ ap (λ (s : List Bool). bits_of 8 b ++ s) (unpacked_take count bytes))

pub unpacked_number : (bytes : List ℕ) → AreBytes bytes → unpacked bytes ≡ bits_of (8 * length bytes) (number_of_bytes bytes)
unpacked_number [] h = refl
unpacked_number (b ∷ bytes) h =
    let small : b < 2 ^ 8 = All-head (λ x. x < 256) b bytes h in
    let e : 8 * suc (length bytes) ≡ 8 + 8 * length bytes = omega arith in
    sym (rw e (bits_of_join 8 (8 * length bytes) b (number_of_bytes bytes) small)
    ∙ ap (λ (s : List Bool). bits_of 8 b ++ s) (sym (unpacked_number bytes (All-tail (λ x. x < 256) b bytes h))))

-- ---- a part of sixteen bytes

-- sixteen bytes from a place on, and what stands before and behind them
module _ (bytes : List ℕ) (from word : ℕ) (within : from + 16 ≤ length bytes) (chunk_bits : unpacked (take 16 (drop from bytes)) ≡ bits_of 128 word) where
  -- the bits, in three parts
  pub in_parts : unpacked bytes ≡ unpacked (take from bytes) ++ (bits_of 128 word ++ unpacked (drop (from + 16) bytes))
  in_parts =
      ap unpacked (sym (take-append-drop from bytes) ∙ ap (λ (s : List ℕ). take from bytes ++ s) (sym (take-append-drop 16 (drop from bytes)) ∙ ap (λ (s : List ℕ). take 16 (drop from bytes) ++ s) (drop-drop 16 from bytes)))
      ∙ unpacked-append (take from bytes) (take 16 (drop from bytes) ++ drop (from + 16) bytes)
      ∙ ap (λ (s : List Bool). unpacked (take from bytes) ++ s) (unpacked-append (take 16 (drop from bytes)) (drop (from + 16) bytes) ∙ ap (λ (s : List Bool). s ++ unpacked (drop (from + 16) bytes)) chunk_bits)

  pub before_long : length (unpacked (take from bytes)) ≡ 8 * from
  before_long = length-unpacked (take from bytes) ∙ ap (λ (n : ℕ). 8 * n) (length-take-le from bytes (omega arith))

  -- a part of the bits is a part of the number's
  pub part_of : (low count : ℕ) → low + count ≤ 128 → take count (drop (8 * from + low) (unpacked bytes)) ≡ bits_of count (word / 2 ^ low)
  part_of low count le =
      let n = word in
      let front = unpacked (take from bytes) in
      let back = unpacked (drop (from + 16) bytes) in
      let place : 8 * from + low ≡ length front + low = omega (arith, before_long) in
      let rest : drop (8 * from + low) (unpacked bytes) ≡ drop low (bits_of 128 n ++ back)
      = ap (drop (8 * from + low)) in_parts ∙ ap (λ (k : ℕ). drop k (front ++ (bits_of 128 n ++ back))) place ∙ drop-append-add front (bits_of 128 n ++ back) low in
      let width : 128 ≡ low + (count + (128 - low - count)) = omega arith in
      let high = 128 - low - count in
      let cut : bits_of 128 n ≡ bits_of low n ++ (bits_of count (n / 2 ^ low) ++ bits_of high (n / 2 ^ low / 2 ^ count))
      = ap (λ (k : ℕ). bits_of k n) width ∙ bits_of-add low (count + high) n ∙ ap (λ (s : List Bool). bits_of low n ++ s) (bits_of-add count high (n / 2 ^ low)) in
      let tail = bits_of high (n / 2 ^ low / 2 ^ count) in
      let behind : drop low (bits_of 128 n ++ back) ≡ bits_of count (n / 2 ^ low) ++ (tail ++ back)
      = ap (λ (s : List Bool). drop low (s ++ back)) cut
      ∙ ap (drop low) (append_assoc (bits_of low n) (bits_of count (n / 2 ^ low) ++ tail) back)
      ∙ drop_at (bits_of low n) ((bits_of count (n / 2 ^ low) ++ tail) ++ back) low (length-bits_of low n)
      ∙ append_assoc (bits_of count (n / 2 ^ low)) tail back in
      ap (take count) (rest ∙ behind) ∙ take_at (bits_of count (n / 2 ^ low)) (tail ++ back) count (length-bits_of count (n / 2 ^ low))

  -- and so its number
  pub read_is : (low count : ℕ) → low + count ≤ 128 → number_of (take count (drop (8 * from + low) (unpacked bytes))) ≡ word / 2 ^ low % 2 ^ count
  read_is low count le =
      ap number_of (part_of low count le) ∙ number_of-bits_of count (word / 2 ^ low)

-- ---- as the code has it

pub loaded : (bytes chunk : List ℕ) (from word : ℕ) → AreBytes bytes → from + 16 ≤ length bytes → word ≡ from_le_bytes w128 chunk → chunk ≡ take 16 (take (length bytes - from) (drop from bytes)) → unpacked (take 16 (drop from bytes)) ≡ bits_of 128 word
loaded bytes chunk from word small within word_is chunk_is =
    let same : chunk ≡ take 16 (drop from bytes) = chunk_is ∙ take-take 16 (length bytes - from) (drop from bytes) (omega arith) in
    let long : length (take 16 (drop from bytes)) ≡ 16 = length-take-le 16 (drop from bytes) (omega (arith, length-drop from bytes)) in
    let number : word ≡ number_of_bytes (take 16 (drop from bytes)) = word_is ∙ sixteen_bytes chunk (ap length same ∙ long) ∙ ap number_of_bytes same in
    unpacked_number (take 16 (drop from bytes)) (All-take (λ x. x < 256) 16 (drop from bytes) (All-drop (λ x. x < 256) from bytes small))
    ∙ (λ i. bits_of (8 * long i) (sym number i))

pub low_mask : (word width : ℕ) → width ≤ 64 → bit_and word (1 * 2 ^ width % 2 ^ 128 - 1) ≡ word % 2 ^ width
low_mask word width le = ap (λ (m : ℕ). bit_and word (m - 1)) (one_shl width 128 (omega arith)) ∙ and_mask word width

pub read_at : (bytes : List ℕ) (at width word : ℕ) → at / 8 + 16 ≤ length bytes → width ≤ 64 → unpacked (take 16 (drop (at / 8) bytes)) ≡ bits_of 128 word
    → word / 2 ^ (at % 8) % 2 ^ width ≡ number_of (take width (drop at (unpacked bytes)))
read_at bytes at width word within le word_is =
    let place : 8 * (at / 8) + at % 8 ≡ at = omega arith in
    sym (read_is bytes (at / 8) word within word_is (at % 8) width (omega arith)) ∙ ap (λ (k : ℕ). number_of (take width (drop k (unpacked bytes)))) place

-- ---- a part written

pub merged_is : (word at width value between low : ℕ) → word < 2 ^ 128 → at < 8 → width ≤ 64 → between ≡ value % 2 ^ width → low ≡ word % 2 ^ at
    → bit_or (word / 2 ^ (at + width) * 2 ^ (at + width) % 2 ^ 128) (bit_or (between * 2 ^ at % 2 ^ 128) low) ≡ word / 2 ^ (at + width) * 2 ^ (at + width) + (value % 2 ^ width * 2 ^ at + word % 2 ^ at)
merged_is word at width value between low small at_small width_small between_is low_is =
    let k = at + width in
    let above : word / 2 ^ k * 2 ^ k % 2 ^ 128 ≡ word / 2 ^ k * 2 ^ k = mod-eq_of_lt (omega (arith, shr_split word k)) in
    let b_lt : between < 2 ^ width = omega (arith, between_is, mod-lt value (pow_pos width)) in
    let l_lt : low < 2 ^ at = omega (arith, low_is, mod-lt word (pow_pos at)) in
    let whole : between * 2 ^ at % 2 ^ 128 ≡ between * 2 ^ at = shl_whole between width at 128 b_lt (omega arith) in
    let inner : bit_or (between * 2 ^ at % 2 ^ 128) low ≡ between * 2 ^ at + low = ap (λ (x : ℕ). bit_or x low) whole ∙ or_shifted between at low l_lt in
    let inner_lt : between * 2 ^ at + low < 2 ^ k = omega (arith, mul-add-lt between (2 ^ at) low (2 ^ width) b_lt l_lt, pow-add 2 at width) in
    (λ i. bit_or (above i) (inner i)) ∙ or_shifted (word / 2 ^ k) k (between * 2 ^ at + low) inner_lt ∙ (λ i. word / 2 ^ k * 2 ^ k + (between_is i * 2 ^ at + low_is i))

-- the merged number, low part first
merged_parts : (x v y at width : ℕ) → y * 2 ^ (at + width) + (v * 2 ^ at + x) ≡ x + 2 ^ at * (v + 2 ^ width * y)
merged_parts x v y at width =
    let p = 2 ^ at in
    let q = 2 ^ width in
    let a : y * 2 ^ (at + width) ≡ p * (q * y) = ap (λ (k : ℕ). y * k) (pow-add 2 at width) ∙ mul_comm y (p * q) ∙ mul_assoc p q y in
    let b : v * p ≡ p * v = mul_comm v p in
    omega (arith, a, b, mul-add p v (q * y))

-- the bits of the merged number
merged_bits : (word at width value : ℕ) → at + width ≤ 128
    → bits_of 128 (word / 2 ^ (at + width) * 2 ^ (at + width) + (value % 2 ^ width * 2 ^ at + word % 2 ^ at)) ≡ bits_of at word ++ (bits_of width value ++ bits_of (128 - at - width) (word / 2 ^ (at + width)))
merged_bits word at width value le =
    let x = word % 2 ^ at in
    let v = value % 2 ^ width in
    let y = word / 2 ^ (at + width) in
    let rest = 128 - at - width in
    let n : 128 ≡ at + (width + rest) = omega arith in
    ap (bits_of 128) (merged_parts x v y at width)
    ∙ ap (λ (k : ℕ). bits_of k (x + 2 ^ at * (v + 2 ^ width * y))) n
    ∙ bits_of_join at (width + rest) x (v + 2 ^ width * y) (mod-lt word (pow_pos at))
    ∙ (λ i. bits_of_mod at word i ++ bits_of_join width rest v y (mod-lt value (pow_pos width)) i)
    ∙ ap (λ (s : List Bool). bits_of at word ++ (s ++ bits_of rest y)) (bits_of_mod width value)

-- bits of a number's bytes
pub unpacked-bytes_of : (count value : ℕ) → unpacked (bytes_of count value) ≡ bits_of (8 * count) value
unpacked-bytes_of zero value = refl
unpacked-bytes_of (suc count) value =
    let e : 8 * suc count ≡ 8 + 8 * count = omega arith in
    rw e ((λ i. bits_of_mod 8 value i ++ unpacked-bytes_of count (value / 256) i) ∙ sym (bits_of-add 8 (8 * count) value))

-- bits replaced inside the middle of three parts
replaced_inside : (front old new back : List Bool) (at : ℕ) → at + length new ≤ length old → replaced (front ++ (old ++ back)) (length front + at) new ≡ front ++ ((take at old ++ (new ++ drop (at + length new) old)) ++ back)
replaced_inside front old new back at le =
    let a : take (length front + at) (front ++ (old ++ back)) ≡ front ++ take at old = take-append-add front (old ++ back) at ∙ ap (λ (s : List Bool). front ++ s) (take-append-le at old back (omega arith)) in
    let n : length front + at + length new ≡ length front + (at + length new) = omega arith in
    let b : drop (length front + at + length new) (front ++ (old ++ back)) ≡ drop (at + length new) old ++ back
    = ap (λ (k : ℕ). drop k (front ++ (old ++ back))) n ∙ drop-append-add front (old ++ back) (at + length new) ∙ drop-append-le (at + length new) old back le in
    (λ i. a i ++ new ++ b i)
    ∙ simp append_assoc

module _ (bytes : List ℕ) (at width value old word : ℕ) (within : at / 8 + 16 ≤ length bytes) (narrow : width ≤ 64) (old_is : unpacked (take 16 (drop (at / 8) bytes)) ≡ bits_of 128 old) where
  pub written : (cut : ℕ) (chunk : List ℕ) → cut ≡ 16 → chunk ≡ bytes_of 16 word → word ≡ old / 2 ^ (at % 8 + width) * 2 ^ (at % 8 + width) + (value % 2 ^ width * 2 ^ (at % 8) + old % 2 ^ (at % 8))
      → unpacked (take (at / 8) bytes ++ (chunk ++ drop cut (drop (at / 8) bytes))) ≡ replaced (unpacked bytes) at (bits_of width value)
  written cut chunk cut_is chunk_is word_is =
      let from = at / 8 in
      let low = at % 8 in
      let rest = 128 - low - width in
      let front = unpacked (take from bytes) in
      let back = unpacked (drop (from + 16) bytes) in
      let new = bits_of width value in
      let size : length new ≡ width = length-bits_of width value in
      let place : at ≡ length front + low = omega (arith, before_long bytes from old within old_is) in
      let behind : drop cut (drop from bytes) ≡ drop (from + 16) bytes = ap (λ (k : ℕ). drop k (drop from bytes)) cut_is ∙ drop-drop 16 from bytes in
      let width_is : 128 ≡ (low + width) + rest = omega arith in
      let width_low : 128 ≡ low + (width + rest) = omega arith in
      let cut_at : bits_of 128 old ≡ bits_of (low + width) old ++ bits_of rest (old / 2 ^ (low + width)) = ap (λ (k : ℕ). bits_of k old) width_is ∙ bits_of-add (low + width) rest old in
      let cut_low : bits_of 128 old ≡ bits_of low old ++ bits_of (width + rest) (old / 2 ^ low) = ap (λ (k : ℕ). bits_of k old) width_low ∙ bits_of-add low (width + rest) old in
      let low_part : take low (bits_of 128 old) ≡ bits_of low old = ap (take low) cut_low ∙ take_at (bits_of low old) (bits_of (width + rest) (old / 2 ^ low)) low (length-bits_of low old) in
      let high_part : drop (low + length new) (bits_of 128 old) ≡ bits_of rest (old / 2 ^ (low + width))
      = (λ i. drop (low + size i) (cut_at i)) ∙ drop_at (bits_of (low + width) old) (bits_of rest (old / 2 ^ (low + width))) (low + width) (length-bits_of (low + width) old) in
      let middle : unpacked chunk ≡ take low (bits_of 128 old) ++ (new ++ drop (low + length new) (bits_of 128 old))
      = ap unpacked chunk_is ∙ unpacked-bytes_of 16 word ∙ ap (bits_of 128) word_is ∙ merged_bits old low width value (omega arith) ∙ (λ i. sym low_part i ++ (new ++ sym high_part i)) in
      let whole : replaced (unpacked bytes) at new ≡ replaced (front ++ (bits_of 128 old ++ back)) (length front + low) new = (λ i. replaced (in_parts bytes from old within old_is i) (place i) new) in
      let fits : low + length new ≤ length (bits_of 128 old) = omega (arith, size, length-bits_of 128 old) in
      unpacked-append (take from bytes) (chunk ++ drop cut (drop from bytes))
      ∙ ap (λ (s : List Bool). front ++ s) (unpacked-append chunk (drop cut (drop from bytes)) ∙ (λ i. middle i ++ unpacked (behind i)))
      ∙ sym (replaced_inside front (bits_of 128 old) new back low fits)
      ∙ sym whole

-- few bits fit a word
pub few_bits : (word number width : ℕ) → number ≡ word % 2 ^ width → width ≤ 64 → number < 2 ^ 64
few_bits word number width is le = omega (arith, is, mod-lt word (pow_pos width), pow-le-pow_right {n = 2} (omega arith) {i = width} {j = 64} le)

-- a number as four bytes
pub to_four : (n : ℕ) → to_le_bytes w32 n ≡ bytes_of 4 n
to_four n = low_first_is 0 4 n ∙ ap (bytes_of 4) (let e : n / 256 ^ 0 ≡ n = omega arith in e)
