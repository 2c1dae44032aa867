-- Numbers, bytes and bits turned into each other and back.
use Rattle.std.proofs.Common.{get_or, ◌≡◌, ◌==◌, ℕ, zero, suc, ◌+◌, ◌-◌, ◌*◌, ◌/◌, ◌%◌, ◌^◌, ◌<◌, ◌≤◌, Bool, true, false, List, [], ◌∷◌, ◌++◌, length, take, drop, refl, ap, sym, ◌∙◌, arith, length-append, length-drop, take-append-drop, inl, inr}
use Rattle.std.proofs.Math.Nat.{pow-suc}
use Rattle.std.proofs.Math.Seq.{take-append-add}
use Rattle.std.proofs.lemmas.Nat.{div_below}
use Rattle.std.proofs.lemmas.List.{take_all, take-append-le, length-take-le, nil_from_length}
use Rattle.std.proofs.lemmas.Bool.{cases_lt}
use Rattle.std.proofs.lemmas.List.Elements.{All-head, All-tail, All-from_get_or}
use Rattle.scan_bits.specs.Words.{bits_of, number_of, number_of_bytes, bytes_of, unpacked, packed_in, packed, byte_count}
use Rattle.xvc_frame.specs.Messages.{AreBytes}

pub length-bytes_of : (count value : ℕ) → length (bytes_of count value) ≡ count
length-bytes_of zero value = refl
length-bytes_of (suc count) value = ap suc (length-bytes_of count (value / 256))

pub number_of_bytes-bytes_of : (count value : ℕ) → value < 256 ^ count → number_of_bytes (bytes_of count value) ≡ value
number_of_bytes-bytes_of zero value h = omega arith
number_of_bytes-bytes_of (suc count) value h =
    let e : 256 ^ suc count ≡ 256 ^ count * 256 = pow-suc 256 count in
    let lt : value / 256 < 256 ^ count = div_below value 256 (256 ^ count) (omega arith) (omega arith) in
    omega (arith, number_of_bytes-bytes_of count (value / 256) lt)

pub bytes_of-number_of_bytes : (bytes : List ℕ) → AreBytes bytes → bytes_of (length bytes) (number_of_bytes bytes) ≡ bytes
bytes_of-number_of_bytes [] h = refl
bytes_of-number_of_bytes (byte ∷ bytes) h =
    let small : byte < 256 = All-head (λ b. b < 256) byte bytes h in
    let low : (byte + 256 * number_of_bytes bytes) % 256 ≡ byte = omega arith in
    let high : (byte + 256 * number_of_bytes bytes) / 256 ≡ number_of_bytes bytes = omega arith in
    rw (low, high) (ap (λ (s : List ℕ). byte ∷ s) (bytes_of-number_of_bytes bytes (All-tail (λ b. b < 256) byte bytes h)))

pub number_of_bytes-lt : (bytes : List ℕ) → AreBytes bytes → number_of_bytes bytes < 256 ^ length bytes
number_of_bytes-lt [] h = omega arith
number_of_bytes-lt (byte ∷ bytes) h =
    let small : byte < 256 = All-head (λ b. b < 256) byte bytes h in
    let e : 256 ^ suc (length bytes) ≡ 256 ^ length bytes * 256 = pow-suc 256 (length bytes) in
    omega (arith, number_of_bytes-lt bytes (All-tail (λ b. b < 256) byte bytes h))

pub length-bits_of : (count value : ℕ) → length (bits_of count value) ≡ count
length-bits_of zero value = refl
length-bits_of (suc count) value = ap suc (length-bits_of count (value / 2))

pub length-unpacked : (bytes : List ℕ) → length (unpacked bytes) ≡ 8 * length bytes
length-unpacked [] = refl
length-unpacked (byte ∷ bytes) = omega (arith, length-append (bits_of 8 byte) (unpacked bytes), length-bits_of 8 byte, length-unpacked bytes)

-- as many bits as there are
pub bits_of-number_of : (bits : List Bool) → bits_of (length bits) (number_of bits) ≡ bits
bits_of-number_of [] = refl
bits_of-number_of (true ∷ bits) =
    let high : (1 + 2 * number_of bits) / 2 ≡ number_of bits = omega arith in
    let low : (1 + 2 * number_of bits) % 2 ≡ 1 = omega arith in
    rw (low, high) (ap (λ (s : List Bool). true ∷ s) (bits_of-number_of bits))
bits_of-number_of (false ∷ bits) =
    let high : (0 + 2 * number_of bits) / 2 ≡ number_of bits = omega arith in
    let low : (0 + 2 * number_of bits) % 2 ≡ 0 = omega arith in
    rw (low, high) (ap (λ (s : List Bool). false ∷ s) (bits_of-number_of bits))

-- more bits than there are: the bits, and then others
pub take-bits_of : (count value at : ℕ) → take count (bits_of (count + at) value) ≡ bits_of count value
take-bits_of zero value at = refl
take-bits_of (suc count) value at =
    let e : suc count + at ≡ suc (count + at) = omega arith in
    rw e (ap (λ (s : List Bool). (value % 2 == 1) ∷ s) (take-bits_of count (value / 2) at))

pub bits_of-short : (bits : List Bool) (count : ℕ) → length bits ≤ count → take (length bits) (bits_of count (number_of bits)) ≡ bits
bits_of-short bits count le =
    let e : count ≡ length bits + (count - length bits) = omega arith in
    ap (λ (n : ℕ). take (length bits) (bits_of n (number_of bits))) e ∙ take-bits_of (length bits) (number_of bits) (count - length bits) ∙ bits_of-number_of bits

first_byte : (bits : List Bool) (more : List Bool) → length bits ≤ 8 → take (length bits) (bits_of 8 (number_of (take 8 bits)) ++ more) ≡ bits
first_byte bits more le =
    let all : take 8 bits ≡ bits = take_all 8 bits le in
    let long : length bits ≤ length (bits_of 8 (number_of (take 8 bits))) = omega (arith, length-bits_of 8 (number_of (take 8 bits))) in
    take-append-le (length bits) (bits_of 8 (number_of (take 8 bits))) more long
    ∙ ap (λ (s : List Bool). take (length bits) (bits_of 8 (number_of s))) all
    ∙ bits_of-short bits 8 le

whole_byte : (bits : List Bool) → 8 ≤ length bits → bits_of 8 (number_of (take 8 bits)) ≡ take 8 bits
whole_byte bits le =
    let eight : length (take 8 bits) ≡ 8 = length-take-le 8 bits le in
    ap (λ (n : ℕ). bits_of n (number_of (take 8 bits))) (sym eight) ∙ bits_of-number_of (take 8 bits)

more_bytes : (count : ℕ) (bits : List Bool) → 8 ≤ length bits → take (length (drop 8 bits)) (unpacked (packed_in count (drop 8 bits))) ≡ drop 8 bits
    → take (length bits) (bits_of 8 (number_of (take 8 bits)) ++ unpacked (packed_in count (drop 8 bits))) ≡ bits
more_bytes count bits ge rest =
    let n : length bits ≡ 8 + length (drop 8 bits) = omega (arith, length-drop 8 bits) in
    ap (λ (k : ℕ). take k (bits_of 8 (number_of (take 8 bits)) ++ unpacked (packed_in count (drop 8 bits)))) n
    ∙ take-append-add (bits_of 8 (number_of (take 8 bits))) (unpacked (packed_in count (drop 8 bits))) (length (drop 8 bits))
    ∙ (λ i. whole_byte bits ge i ++ rest i)
    ∙ take-append-drop 8 bits

pub unpacked-packed_in : (count : ℕ) (bits : List Bool) → length bits ≤ 8 * count → take (length bits) (unpacked (packed_in count bits)) ≡ bits
unpacked-packed_in zero bits le =
    let none : bits ≡ [] = nil_from_length bits (omega arith) in rw none refl
unpacked-packed_in (suc count) bits le = elim (cases_lt (length bits) 8) [
  | inl lt ↦ first_byte bits (unpacked (packed_in count (drop 8 bits))) (omega arith)
  | inr ge ↦ more_bytes count bits ge (unpacked-packed_in count (drop 8 bits) (omega (arith, length-drop 8 bits)))
]

pub length-packed_in : (count : ℕ) (bits : List Bool) → length (packed_in count bits) ≡ count
length-packed_in zero bits = refl
length-packed_in (suc count) bits = ap suc (length-packed_in count (drop 8 bits))

-- a packed vector is a vector of its bits
pub packed_is_vector : (bits : List Bool) → (length (packed bits) ≡ byte_count (length bits)) × (take (length bits) (unpacked (packed bits)) ≡ bits)
packed_is_vector bits = (length-packed_in (byte_count (length bits)) bits, unpacked-packed_in (byte_count (length bits)) bits (omega arith))

-- the items of a slice of bytes
pub are_bytes : (bytes : List ℕ) → ((i : ℕ) → get_or bytes i 0 < 256) → AreBytes bytes
are_bytes bytes h = All-from_get_or (λ b. b < 256) bytes 0 (λ i l. h i)
