-- A word of bits out of a row, and into it.
use Rattle.std.proofs.Common.{◌≡◌, ◌<◌, ◌≤◌, ◌+◌, ◌*◌, ◌/◌, ◌%◌, ◌^◌, bit_or, take, drop, sym, subst, ℕ, Bool, List, ◌++◌, length, ap, ◌∙◌, arith, append_assoc, length-append, length-drop, get_or, set}
use Rattle.std.proofs.lemmas.List.{take_at, drop_at, length-take-le, drop-drop}
use Rattle.std.proofs.lemmas.Nat.{shl_whole, or_comm, or_shifted}
use Rattle.scan_bits.proofs.WordLaws.{length-bits_of, number_of-bits_of, number_of-append, number_of-lt, bits_of-append}
use Rattle.scan_bits.proofs.WordParts.{part_bits, set_bits}
use Rattle.scan_bits.proofs.RowLaws.{length-row, row_part, row_written, window-append}
use Rattle.scan_bits.specs.Words.{bits_of, number_of}
use Rattle.scan_bits.specs.Rows.{bits_of_row, written, window}

pub length-window : (bits : List Bool) (from count : ℕ) → from + count ≤ length bits → length (window bits from count) ≡ count
length-window bits from count le = length-take-le count (drop from bits) (omega (arith, length-drop from bits))

-- what is read of one word
pub read_part : (width k low count at : ℕ) (words : List ℕ) (d : ℕ) → at ≡ width * k + low → k < length words → low + count ≤ width
    → get_or words k d / 2 ^ low % 2 ^ count ≡ number_of (window (bits_of_row width words) at count)
read_part width k low count at words d at_is lt le =
    sym (number_of-bits_of count (get_or words k d / 2 ^ low))
    ∙ ap number_of (sym (part_bits width (get_or words k d) low count le) ∙ sym (row_part width k low count words d lt le))
    ∙ ap (λ a. number_of (window (bits_of_row width words) a count)) (sym at_is)

-- two parts one behind the other
pub join_parts : (bits : List Bool) (at m n low high : ℕ) → low ≡ number_of (window bits at m) → high ≡ number_of (window bits (at + m) n) → at + (m + n) ≤ length bits → m + n ≤ 64
    → bit_or low (high * 2 ^ m % 2 ^ 64) ≡ number_of (window bits at (m + n))
join_parts bits at m n low high low_is high_is within le =
    let front = window bits at m in
    let back = window bits (at + m) n in
    let front_size : length front ≡ m = length-window bits at m (omega arith) in
    let back_size : length back ≡ n = length-window bits (at + m) n (omega arith) in
    let low_lt : low < 2 ^ m = subst (λ k. low < 2 ^ k) front_size (omega (arith, number_of-lt front, low_is)) in
    let high_lt : high < 2 ^ n = subst (λ k. high < 2 ^ k) back_size (omega (arith, number_of-lt back, high_is)) in
    let sum : number_of (window bits at (m + n)) ≡ number_of front + 2 ^ m * number_of back
    = ap number_of (window-append bits at m n (omega arith)) ∙ number_of-append front back ∙ ap (λ k. number_of front + 2 ^ k * number_of back) front_size in
    ap (bit_or low) (shl_whole high n m 64 high_lt (omega arith)) ∙ or_comm low (high * 2 ^ m) ∙ or_shifted high m low low_lt
    ∙ (λ i. high_is i * 2 ^ m + low_is i) ∙ turned (number_of back) (2 ^ m) (number_of front) ∙ sym sum
  where
    turned : (a b c : ℕ) → a * b + c ≡ c + b * a
    turned a b c = omega arith

-- a part is written into one word
pub write_part : (width k low count at value : ℕ) (words : List ℕ) (d word : ℕ) → at ≡ width * k + low → k < length words → low + count ≤ width
    → word ≡ (get_or words k d / 2 ^ (low + count) * 2 ^ count + value % 2 ^ count) * 2 ^ low + get_or words k d % 2 ^ low
    → bits_of_row width (set words k word) ≡ written (bits_of_row width words) at (bits_of count value)
write_part width k low count at value words d word at_is lt le is =
    let size : length (bits_of count value) ≡ count = length-bits_of count value in
    row_written width k low (bits_of count value) words d word lt (omega (arith, size)) (ap (bits_of width) is ∙ set_bits width (get_or words k d) low count value le)
    ∙ ap (λ a. written (bits_of_row width words) a (bits_of count value)) (sym at_is)

pub length-written : (bits : List Bool) (at : ℕ) (others : List Bool) → at + length others ≤ length bits → length (written bits at others) ≡ length bits
length-written bits at others le =
    omega (arith, length-append (take at bits ++ others) (drop (at + length others) bits), length-append (take at bits) others, length-take-le at bits (omega arith), length-drop (at + length others) bits)

-- a write in two parts
pub written_twice : (bits : List Bool) (at : ℕ) (xs ys : List Bool) (next : ℕ) → next ≡ at + length xs → next + length ys ≤ length bits
    → written (written bits at xs) next ys ≡ written bits at (xs ++ ys)
written_twice bits at xs ys next next_is le =
    let front = take at bits in
    let size : length front ≡ at = length-take-le at bits (omega arith) in
    let done : length (front ++ xs) ≡ next = omega (arith, length-append front xs, size, next_is) in
    let tail = drop (at + length xs) bits in
    let a : take next (front ++ xs ++ tail) ≡ front ++ xs = take_at (front ++ xs) tail next done in
    let b : drop (next + length ys) (front ++ xs ++ tail) ≡ drop (at + length (xs ++ ys)) bits
    = sym (drop-drop (length ys) next (front ++ xs ++ tail)) ∙ ap (drop (length ys)) (drop_at (front ++ xs) tail next done)
    ∙ drop-drop (length ys) (at + length xs) bits ∙ ap (λ k. drop k bits) (omega (arith, length-append xs ys)) in
    (λ i. a i ++ ys ++ b i) ∙ ap (λ q. q ++ drop (at + length (xs ++ ys)) bits) (append_assoc front xs ys)

-- a value is written over two words
pub write_parts : (words new : List ℕ) (at m n value : ℕ) → bits_of_row 64 new ≡ written (written (bits_of_row 64 words) at (bits_of m value)) (at + m) (bits_of n (value / 2 ^ m)) → at + (m + n) ≤ 64 * length words
    → bits_of_row 64 new ≡ written (bits_of_row 64 words) at (bits_of (m + n) value)
write_parts words new at m n value is le =
    let size : length (bits_of m value) ≡ m = length-bits_of m value in
    let size2 : length (bits_of n (value / 2 ^ m)) ≡ n = length-bits_of n (value / 2 ^ m) in
    is ∙ written_twice (bits_of_row 64 words) at (bits_of m value) (bits_of n (value / 2 ^ m)) (at + m) (omega (arith, size)) (omega (arith, size2, length-row 64 words))
    ∙ ap (written (bits_of_row 64 words) at) (sym (bits_of-append m n value))

pub read_bound : (bits : List Bool) (at count value : ℕ) → at + count ≤ length bits → value ≡ number_of (window bits at count) → value < 2 ^ count
read_bound bits at count value within is =
    subst (λ k. value < 2 ^ k) (length-window bits at count within) (omega (arith, number_of-lt (window bits at count), is))
