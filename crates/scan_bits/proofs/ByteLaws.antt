-- Laws of bit vectors and numbers in bytes.
use Rattle.std.proofs.Common.{◌≡◌, ◌<◌, ◌≤◌, ◌+◌, ◌-◌, ◌*◌, ◌/◌, ◌%◌, ◌^◌, refl, take, drop, sym, inl, inr, ℕ, zero, suc, Bool, false, List, [], ◌∷◌, ◌++◌, length, ap, ◌∙◌, arith, append_assoc, length-append, length-drop, replicate}
use Rattle.std.proofs.Math.Nat.{pow-suc, pow-le-pow_right, div-eq_of_lt}
use Rattle.std.proofs.lemmas.Bool.{cases_lt}
use Rattle.std.proofs.lemmas.List.{take_at, drop_at, take_all, drop_all, take-append-drop, length-take-le, length-take, replicate-append-replicate}
use Rattle.std.proofs.lemmas.List.Elements.{All-head, All-tail, All-cons, All-nil}
use Rattle.std.specs.List.{All}
use Rattle.scan_bits.proofs.WordLaws.{bits_of-zero, length-bits_of, number_of-bits_of, bits_of-number_of, bits_of-append, number_of-lt}
use Rattle.scan_bits.specs.Words.{bits_of, number_of, number_of_bytes, bytes_of, unpacked, packed_in, packed, byte_count}

pub length-unpacked : (bytes : List ℕ) → length (unpacked bytes) ≡ 8 * length bytes
length-unpacked [] = refl
length-unpacked (byte ∷ bytes) = omega (arith, length-append (bits_of 8 byte) (unpacked bytes), length-unpacked bytes, length-bits_of 8 byte)

pub length-packed_in : (count : ℕ) (bits : List Bool) → length (packed_in count bits) ≡ count
length-packed_in zero bits = refl
length-packed_in (suc count) bits = ap suc (length-packed_in count (drop 8 bits))

pub length-packed : (bits : List Bool) → length (packed bits) ≡ byte_count (length bits)
length-packed bits = length-packed_in (byte_count (length bits)) bits

-- the bits of a byte give the byte
packed_first : (byte : ℕ) (rest : List Bool) → byte < 256 → number_of (take 8 (bits_of 8 byte ++ rest)) ≡ byte
packed_first byte rest lt =
    let small : byte % 2 ^ 8 ≡ byte = omega (arith, lt) in
    ap number_of (take_at (bits_of 8 byte) rest 8 (length-bits_of 8 byte)) ∙ number_of-bits_of 8 byte ∙ small

packed_in-unpacked : (bytes : List ℕ) → All (λ b. b < 256) bytes → packed_in (length bytes) (unpacked bytes) ≡ bytes
packed_in-unpacked [] small = refl
packed_in-unpacked (byte ∷ bytes) small =
    let first = packed_first byte (unpacked bytes) (All-head (λ b. b < 256) byte bytes small) in
    let rest : drop 8 (bits_of 8 byte ++ unpacked bytes) ≡ unpacked bytes = drop_at (bits_of 8 byte) (unpacked bytes) 8 (length-bits_of 8 byte) in
    let more : packed_in (length bytes) (drop 8 (bits_of 8 byte ++ unpacked bytes)) ≡ bytes
    = ap (packed_in (length bytes)) rest ∙ packed_in-unpacked bytes (All-tail (λ b. b < 256) byte bytes small) in
    λ i. first i ∷ more i

pub packed-unpacked : (bytes : List ℕ) → All (λ b. b < 256) bytes → packed (unpacked bytes) ≡ bytes
packed-unpacked bytes small =
    let count : byte_count (length (unpacked bytes)) ≡ length bytes = omega (arith, length-unpacked bytes) in
    ap (λ k. packed_in k (unpacked bytes)) count ∙ packed_in-unpacked bytes small

-- more bits than a number has are 0
pub bits_of-padded : (bits : List Bool) (n : ℕ) → length bits ≤ n → bits_of n (number_of bits) ≡ bits ++ replicate (n - length bits) false
bits_of-padded bits n le =
    let e : n ≡ length bits + (n - length bits) = omega arith in
    let none : number_of bits / 2 ^ length bits ≡ 0 = div-eq_of_lt (number_of-lt bits) in
    ap (λ k. bits_of k (number_of bits)) e ∙ bits_of-append (length bits) (n - length bits) (number_of bits)
    ∙ (λ i. bits_of-number_of bits i ++ (ap (bits_of (n - length bits)) none ∙ bits_of-zero (n - length bits)) i)

-- the first byte and the others, where there are fewer bits than a byte has, and where there are as many
abbrev Others : ℕ → List Bool → Type 0
Others count bits = unpacked (packed_in count (drop 8 bits)) ≡ drop 8 bits ++ replicate (8 * count - length (drop 8 bits)) false

short : (count : ℕ) (bits : List Bool) → Others count bits → length bits < 8 → unpacked (packed_in (suc count) bits) ≡ bits ++ replicate (8 * suc count - length bits) false
short count bits others lt =
    let none : drop 8 bits ≡ [] = drop_all 8 bits (omega (arith, lt)) in
    let whole : take 8 bits ≡ bits = take_all 8 bits (omega (arith, lt)) in
    let k : 8 - length bits + (8 * count - 0) ≡ 8 * suc count - length bits = omega (arith, lt) in
    (λ i. (ap (λ q. bits_of 8 (number_of q)) whole ∙ bits_of-padded bits 8 (omega (arith, lt))) i ++ (others ∙ ap (λ q. q ++ replicate (8 * count - length q) false) none) i)
    ∙ append_assoc bits (replicate (8 - length bits) false) (replicate (8 * count - 0) false)
    ∙ ap (λ q. bits ++ q) (replicate-append-replicate (8 - length bits) (8 * count - 0) false ∙ ap (λ n. replicate n false) k)

long : (count : ℕ) (bits : List Bool) → Others count bits → 8 ≤ length bits → unpacked (packed_in (suc count) bits) ≡ bits ++ replicate (8 * suc count - length bits) false
long count bits others ge =
    let size : length (take 8 bits) ≡ 8 = length-take-le 8 bits ge in
    let first : bits_of 8 (number_of (take 8 bits)) ≡ take 8 bits = ap (λ k. bits_of k (number_of (take 8 bits))) (sym size) ∙ bits_of-number_of (take 8 bits) in
    let k : 8 * count - length (drop 8 bits) ≡ 8 * suc count - length bits = omega (arith, length-drop 8 bits, ge) in
    (λ i. first i ++ others i) ∙ sym (append_assoc (take 8 bits) (drop 8 bits) (replicate (8 * count - length (drop 8 bits)) false))
    ∙ (λ i. take-append-drop 8 bits i ++ replicate (k i) false)

-- the spare bits of the last byte are 0
pub unpacked-packed_in : (count : ℕ) (bits : List Bool) → length bits ≤ 8 * count → unpacked (packed_in count bits) ≡ bits ++ replicate (8 * count - length bits) false
unpacked-packed_in zero [] le = refl
unpacked-packed_in zero (bit ∷ bits) le = absurd (omega arith)
unpacked-packed_in (suc count) bits le =
    let others : Others count bits = unpacked-packed_in count (drop 8 bits) (omega (arith, length-drop 8 bits)) in
    elim (cases_lt (length bits) 8) [ inl lt ↦ short count bits others lt | inr ge ↦ long count bits others ge ]

pub unpacked-packed : (bits : List Bool) → unpacked (packed bits) ≡ bits ++ replicate (8 * byte_count (length bits) - length bits) false
unpacked-packed bits = unpacked-packed_in (byte_count (length bits)) bits (omega arith)

pub packed_in-small : (count : ℕ) (bits : List Bool) → All (λ b. b < 256) (packed_in count bits)
packed_in-small zero bits = All-nil (λ b. b < 256)
packed_in-small (suc count) bits = All-cons (λ b. b < 256) (number_of (take 8 bits)) (packed_in count (drop 8 bits)) (first_small (take 8 bits) (omega (arith, length-take-min 8 bits))) (packed_in-small count (drop 8 bits))
  where
    first_small : (front : List Bool) → length front ≤ 8 → number_of front < 256
    first_small front le = omega (arith, number_of-lt front, pow-le-pow_right {n = 2} (omega arith) {i = length front} {j = 8} le)

    length-take-min : (n : ℕ) (xs : List Bool) → length (take n xs) ≤ n
    length-take-min n xs = omega (arith, length-take n xs)

pub packed-small : (bits : List Bool) → All (λ b. b < 256) (packed bits)
packed-small bits = packed_in-small (byte_count (length bits)) bits

-- numbers in little-endian bytes
pub length-bytes_of : (count value : ℕ) → length (bytes_of count value) ≡ count
length-bytes_of zero value = refl
length-bytes_of (suc count) value = ap suc (length-bytes_of count (value / 256))

pub bytes_of-small : (count value : ℕ) → All (λ b. b < 256) (bytes_of count value)
bytes_of-small zero value = All-nil (λ b. b < 256)
bytes_of-small (suc count) value = All-cons (λ b. b < 256) (value % 256) (bytes_of count (value / 256)) (omega arith) (bytes_of-small count (value / 256))

pub number_of_bytes-bytes_of : (count value : ℕ) → value < 256 ^ count → number_of_bytes (bytes_of count value) ≡ value
number_of_bytes-bytes_of zero value lt = omega (arith, lt)
number_of_bytes-bytes_of (suc count) value lt =
    let power : 256 ^ suc count ≡ 256 ^ count * 256 = pow-suc 256 count in
    let below : value / 256 < 256 ^ count = omega (arith, power, lt) in
    rw (number_of_bytes-bytes_of count (value / 256) below) (omega arith)

pub bytes_of-number_of_bytes : (bytes : List ℕ) → All (λ b. b < 256) bytes → bytes_of (length bytes) (number_of_bytes bytes) ≡ bytes
bytes_of-number_of_bytes [] small = refl
bytes_of-number_of_bytes (byte ∷ bytes) small =
    let lt : byte < 256 = All-head (λ b. b < 256) byte bytes small in
    let first : (byte + 256 * number_of_bytes bytes) % 256 ≡ byte = omega (arith, lt) in
    let rest : (byte + 256 * number_of_bytes bytes) / 256 ≡ number_of_bytes bytes = omega (arith, lt) in
    let more : bytes_of (length bytes) ((byte + 256 * number_of_bytes bytes) / 256) ≡ bytes
    = ap (bytes_of (length bytes)) rest ∙ bytes_of-number_of_bytes bytes (All-tail (λ b. b < 256) byte bytes small) in
    λ i. first i ∷ more i
