-- Parts of a word by shifts and masks.
use Rattle.std.proofs.Common.{◌≡◌, ◌<◌, ◌≤◌, ◌+◌, ◌-◌, ◌*◌, ◌/◌, ◌%◌, ◌^◌, bit_or, bit_and, take, drop, sym, ℕ, ◌++◌, length, ap, ◌∙◌, arith, append_assoc}
use Rattle.std.proofs.Math.Nat.{pow-le-pow_right}
use Rattle.std.proofs.lemmas.Nat.{shr-shr, pow-add, pow_pos, mod_below, shr_split, and_mask, or_block, or_shifted, and_comm, and-not, shl_whole}
use Rattle.std.proofs.lemmas.Nat.Bits.{ones_shr, and_high}
use Rattle.scan_bits.proofs.WordLaws.{length-bits_of, bits_of-cat, take-bits_of, drop-bits_of, bits_of-mod}
use Rattle.scan_bits.specs.Words.{bits_of}
use Rattle.scan_bits.specs.Rows.{written, window}

-- a shift and a mask take a part out
pub masked : (word low count : ℕ) → count ≤ 64 → bit_and (word / 2 ^ low) ((2 ^ 64 - 1) / 2 ^ (64 - count)) ≡ word / 2 ^ low % 2 ^ count
masked word low count le =
    let e : 64 - (64 - count) ≡ count = omega arith in
    ap (bit_and (word / 2 ^ low)) (ones_shr 64 (64 - count) (omega arith) ∙ ap (λ k. 2 ^ k - 1) e) ∙ and_mask (word / 2 ^ low) count

-- a number in three parts
pub in_three : (word low count : ℕ) → word ≡ (word / 2 ^ (low + count) * 2 ^ count + word / 2 ^ low % 2 ^ count) * 2 ^ low + word % 2 ^ low
in_three word low count =
    sym (shr_split word low) ∙ ap (λ q. q * 2 ^ low + word % 2 ^ low)
    (sym (shr_split (word / 2 ^ low) count) ∙ ap (λ q. q * 2 ^ count + word / 2 ^ low % 2 ^ count) (shr-shr word low count))

-- the bits of the part are cleared
pub cleared : (word low count : ℕ) → word < 2 ^ 64 → low + count ≤ 64
    → bit_and word (2 ^ 64 - 1 - (2 ^ (low + count) - 2 ^ low)) ≡ word / 2 ^ (low + count) * 2 ^ count * 2 ^ low + word % 2 ^ low
cleared word low count lt le =
    let mask = 2 ^ (low + count) - 2 ^ low in
    let top : 2 ^ (low + count) ≤ 2 ^ 64 = pow-le-pow_right {n = 2} (omega arith) {i = low + count} {j = 64} le in
    let small : mask < 2 ^ 64 = omega (arith, top, pow_pos low, pow_pos (low + count)) in
    let part : bit_and mask word ≡ word / 2 ^ low % 2 ^ count * 2 ^ low
    = and_comm mask word ∙ ap (λ k. bit_and word (2 ^ k - 2 ^ low)) (omega arith) ∙ and_high word count low in
    let sum : bit_and (2 ^ 64 - 1 - mask) word + bit_and mask word ≡ word = and-not 64 mask word small lt in
    let three : word ≡ (word / 2 ^ (low + count) * 2 ^ count + word / 2 ^ low % 2 ^ count) * 2 ^ low + word % 2 ^ low = in_three word low count in
    and_comm word (2 ^ 64 - 1 - mask) ∙ omega (arith, part, sum, three)

-- the mask over the part
pub mask_is : (low count : ℕ) → 1 ≤ count → low + count ≤ 64 → (2 ^ 64 - 1) / 2 ^ (64 - count) * 2 ^ low % 2 ^ 64 ≡ 2 ^ (low + count) - 2 ^ low
mask_is low count some le =
    let e : 64 - (64 - count) ≡ count = omega arith in
    let ones : (2 ^ 64 - 1) / 2 ^ (64 - count) ≡ 2 ^ count - 1 = ones_shr 64 (64 - count) (omega arith) ∙ ap (λ k. 2 ^ k - 1) e in
    let below : 2 ^ count - 1 < 2 ^ count = omega (arith, pow_pos count) in
    let split : 2 ^ (low + count) ≡ 2 ^ low * 2 ^ count = pow-add 2 low count in
    let one : 2 ^ count ≡ (2 ^ count - 1) + 1 = omega (arith, pow_pos count) in
    let product : 2 ^ count * 2 ^ low ≡ (2 ^ count - 1) * 2 ^ low + 2 ^ low = ap (λ k. k * 2 ^ low) one ∙ more (2 ^ count - 1) (2 ^ low) in
    ap (λ k. k * 2 ^ low % 2 ^ 64) ones ∙ shl_whole (2 ^ count - 1) count low 64 below (omega arith) ∙ omega (arith, split, product)
  where
    more : (a b : ℕ) → (a + 1) * b ≡ a * b + b
    more a b = omega arith

-- the part is set
pub set_part : (word low count value : ℕ) → word < 2 ^ 64 → 1 ≤ count → low + count ≤ 64
    → bit_or (bit_and word (2 ^ 64 - 1 - (2 ^ 64 - 1) / 2 ^ (64 - count) * 2 ^ low % 2 ^ 64)) (bit_and value ((2 ^ 64 - 1) / 2 ^ (64 - count)) * 2 ^ low % 2 ^ 64)
    ≡ (word / 2 ^ (low + count) * 2 ^ count + value % 2 ^ count) * 2 ^ low + word % 2 ^ low
set_part word low count value lt some le =
    let e : 64 - (64 - count) ≡ count = omega arith in
    let low_bits : bit_and value ((2 ^ 64 - 1) / 2 ^ (64 - count)) ≡ value % 2 ^ count
    = ap (bit_and value) (ones_shr 64 (64 - count) (omega arith) ∙ ap (λ k. 2 ^ k - 1) e) ∙ and_mask value count in
    let below : value % 2 ^ count < 2 ^ count = mod_below value (2 ^ count) (pow_pos count) in
    let there : bit_and value ((2 ^ 64 - 1) / 2 ^ (64 - count)) * 2 ^ low % 2 ^ 64 ≡ value % 2 ^ count * 2 ^ low + 0
    = ap (λ v. v * 2 ^ low % 2 ^ 64) low_bits ∙ shl_whole (value % 2 ^ count) count low 64 below (omega arith) ∙ omega arith in
    let clear : bit_and word (2 ^ 64 - 1 - (2 ^ 64 - 1) / 2 ^ (64 - count) * 2 ^ low % 2 ^ 64) ≡ word / 2 ^ (low + count) * 2 ^ count * 2 ^ low + word % 2 ^ low
    = ap (λ m. bit_and word (2 ^ 64 - 1 - m)) (mask_is low count some le) ∙ cleared word low count lt le in
    let rest : word % 2 ^ low < 2 ^ low = mod_below word (2 ^ low) (pow_pos low) in
    (λ i. bit_or (clear i) (there i))
    ∙ or_block low (word / 2 ^ (low + count) * 2 ^ count) (value % 2 ^ count) (word % 2 ^ low) 0 rest (pow_pos low)
    ∙ (λ i. or_shifted (word / 2 ^ (low + count)) count (value % 2 ^ count) below i * 2 ^ low + or_zero (word % 2 ^ low) i)
  where
    or_zero : (n : ℕ) → bit_or n 0 ≡ n
    or_zero n =
        let one : n ≡ n * 2 ^ 0 = omega arith in
        ap (λ k. bit_or k 0) one ∙ or_shifted n 0 0 (omega arith) ∙ omega arith

-- a part of a word as bits
pub part_bits : (width word low count : ℕ) → low + count ≤ width → window (bits_of width word) low count ≡ bits_of count (word / 2 ^ low)
part_bits width word low count le =
    ap (take count) (drop-bits_of low width word (omega arith)) ∙ take-bits_of count (width - low) (word / 2 ^ low) (omega arith)

-- a word of which a part is set, as bits
pub set_bits : (width word low count value : ℕ) → low + count ≤ width
    → bits_of width ((word / 2 ^ (low + count) * 2 ^ count + value % 2 ^ count) * 2 ^ low + word % 2 ^ low) ≡ written (bits_of width word) low (bits_of count value)
set_bits width word low count value le =
    let high = word / 2 ^ (low + count) in
    let rest = width - (low + count) in
    let e : width ≡ low + (count + rest) = omega arith in
    let below : value % 2 ^ count < 2 ^ count = mod_below value (2 ^ count) (pow_pos count) in
    let front : bits_of low (word % 2 ^ low) ≡ take low (bits_of width word) = bits_of-mod low word ∙ sym (take-bits_of low width word (omega arith)) in
    let back : bits_of rest high ≡ drop (low + count) (bits_of width word) = sym (drop-bits_of (low + count) width word le) in
    let size : count ≡ length (bits_of count value) = sym (length-bits_of count value) in
    ap (λ k. bits_of k ((high * 2 ^ count + value % 2 ^ count) * 2 ^ low + word % 2 ^ low)) e
    ∙ bits_of-cat low (count + rest) (word % 2 ^ low) (high * 2 ^ count + value % 2 ^ count) (mod_below word (2 ^ low) (pow_pos low))
    ∙ (λ i. front i ++ bits_of-cat count rest (value % 2 ^ count) high below i)
    ∙ (λ i. take low (bits_of width word) ++ (bits_of-mod count value i ++ back i))
    ∙ sym (append_assoc (take low (bits_of width word)) (bits_of count value) (drop (low + count) (bits_of width word)))
    ∙ ap (λ k. take low (bits_of width word) ++ bits_of count value ++ drop (low + k) (bits_of width word)) size
