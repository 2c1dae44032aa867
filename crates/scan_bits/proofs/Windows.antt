-- A window on a list of bits, and what is written in it and behind it.
use Rattle.std.proofs.Common.{◌≡◌, ◌≤◌, ◌+◌, ◌-◌, ◌*◌, refl, take, drop, sym, ℕ, Bool, List, [], ◌++◌, length, ap, ◌∙◌, arith, length-drop}
use Rattle.std.proofs.lemmas.List.{take_at, drop_at, take-append-drop, length-take-le, take-take, drop-drop, drop-take, drop_all, append-nil}
use Rattle.scan_bits.proofs.RowLaws.{length-row, row-append, row-drop, row-take, written_middle}
use Rattle.scan_bits.proofs.RowWords.{length-window, length-written}
use Rattle.scan_bits.specs.Rows.{bits_of_row, written, window}

-- a window in a window
pub window-window : (bits : List Bool) (from count at n : ℕ) → at + n ≤ count → window (window bits from count) at n ≡ window bits (from + at) n
window-window bits from count at n le =
    let e : count ≡ at + (count - at) = omega arith in
    ap (λ k. window (window bits from k) at n) e
    ∙ ap (take n) (drop-take at (count - at) (drop from bits))
    ∙ take-take n (count - at) (drop at (drop from bits)) (omega arith)
    ∙ ap (take n) (drop-drop at from bits)

-- what is written inside the window
pub window-written : (bits : List Bool) (from count at : ℕ) (others : List Bool) → at + length others ≤ count → from + count ≤ length bits
    → window (written bits (from + at) others) from count ≡ written (window bits from count) at others
window-written bits from count at others le within =
    let front = take from bits in
    let here = window bits from count in
    let rest = drop count (drop from bits) in
    let size : length front ≡ from = length-take-le from bits (omega arith) in
    let long : length here ≡ count = length-window bits from count within in
    let split : bits ≡ front ++ (here ++ rest) = sym (take-append-drop from bits) ∙ ap (λ q. front ++ q) (sym (take-append-drop count (drop from bits))) in
    let whole : written bits (from + at) others ≡ front ++ (written here at others ++ rest)
    = ap (λ q. written q (from + at) others) split ∙ written_middle front here rest others from at count size long le in
    let same : length (written here at others) ≡ count = length-written here at others (omega (arith, long)) ∙ long in
    ap (λ q. window q from count) whole ∙ ap (take count) (drop_at front (written here at others ++ rest) from size)
    ∙ take_at (written here at others) rest count same

-- what is written right behind the window
pub window-appended : (bits : List Bool) (from count : ℕ) (others : List Bool) → from + count + length others ≤ length bits
    → window (written bits (from + count) others) from (count + length others) ≡ window bits from count ++ others
window-appended bits from count others within =
    let wide = window bits from (count + length others) in
    let long : length wide ≡ count + length others = length-window bits from (count + length others) (omega arith) in
    let front : take count wide ≡ window bits from count = take-take count (count + length others) (drop from bits) (omega arith) in
    let back : drop (count + length others) wide ≡ [] = drop_all (count + length others) wide (omega (arith, long)) in
    window-written bits from (count + length others) count others (omega arith) (omega arith)
    ∙ (λ i. front i ++ others ++ back i) ∙ append-nil (window bits from count ++ others)

-- the first bits of a window, and those behind them
pub window-front : (bits : List Bool) (from count n : ℕ) → window bits from n ≡ take n (window bits from (count + n))
window-front bits from count n = sym (take-take n (count + n) (drop from bits) (omega arith))

pub window-back : (bits : List Bool) (from count n : ℕ) → window bits (from + n) count ≡ drop n (window bits from (count + n))
window-back bits from count n =
    let e : count + n ≡ n + count = omega arith in
    sym (ap (λ k. drop n (window bits from k)) e ∙ drop-take n count (drop from bits) ∙ ap (take count) (drop-drop n from bits))

-- whole words are left out in front, and others stand behind
pub row-moved : (width first words low count start : ℕ) (row rest : List ℕ) → start ≡ width * first + low → low + count ≤ width * words → first + words ≤ length row
    → window (bits_of_row width (take words (drop first row) ++ rest)) low count ≡ window (bits_of_row width row) start count
row-moved width first words low count start row rest start_is le within =
    let live = take words (drop first row) in
    let here = bits_of_row width (drop first row) in
    let size : length (bits_of_row width live) ≡ width * words
    = length-row width live ∙ ap (λ n. width * n) (length-take-le words (drop first row) (omega (arith, length-drop first row))) in
    let a : window (bits_of_row width (live ++ rest)) low count ≡ window (bits_of_row width live) low count
    = ap (λ q. window q low count) (row-append width live rest) ∙ front_window (bits_of_row width live) (bits_of_row width rest) low count (omega (arith, size)) in
    let b : window (bits_of_row width live) low count ≡ window here low count
    = ap (λ q. window q low count) (sym (row-take width words (drop first row) (omega (arith, length-drop first row))))
    ∙ window-window here 0 (width * words) low count le ∙ ap (λ k. window here k count) (omega arith) in
    let c : window here low count ≡ window (bits_of_row width row) start count
    = ap (λ q. window q low count) (sym (row-drop width first row (omega arith))) ∙ ap (take count) (drop-drop low (width * first) (bits_of_row width row))
    ∙ ap (λ k. window (bits_of_row width row) k count) (sym start_is) in
    a ∙ b ∙ c
  where
    front_window : (xs ys : List Bool) (from count : ℕ) → from + count ≤ length xs → window (xs ++ ys) from count ≡ window xs from count
    front_window xs ys from count le =
        let size : length xs ≡ 0 + length xs = omega arith in
        let whole : xs ≡ window (xs ++ ys) 0 (length xs) = sym (take_at xs ys (length xs) refl) in
        sym (ap (λ q. window q from count) whole ∙ window-window (xs ++ ys) 0 (length xs) from count le ∙ ap (λ k. window (xs ++ ys) k count) (omega arith))
