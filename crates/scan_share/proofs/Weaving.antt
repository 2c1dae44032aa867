-- The bits of a write, and the group's bits of a read-out.
use Rattle.std.proofs.Common.{◌≡◌, ◌≤◌, ◌<◌, ◌+◌, ◌-◌, ◌*◌, ◌/◌, ◌%◌, ◌^◌, ℕ, zero, suc, Bool, true, false, List, [], ◌∷◌, ◌++◌, length, take, drop, replicate, refl, ap, sym, subst, ◌∙◌, arith, append_assoc, length-append, length-drop, take-append-drop}
use Rattle.std.proofs.lemmas.List.{take_at, drop_at, drop-drop, drop-replicate, length-replicate, length-take-le}
use Rattle.std.proofs.lemmas.Nat.{mul-le, pow-add, pow_pos, shr-shr}
use Rattle.std.proofs.Math.Nat.{pow-le-pow_right, mul_comm}
use Rattle.scan_bits.specs.Words.{bits_of, number_of}
use Rattle.scan_bits.proofs.WordLaws.{bits_of-zero, bits_of-append, bits_of-cat, length-bits_of}
use Rattle.scan_walks.proofs.Runs.{word_bits}
use Rattle.scan_share.specs.Rows.{woven, chosen}

-- ---- a run more

woven_others : (n : ℕ) (places bits : List Bool) → woven (replicate n false ++ places) bits ≡ replicate n false ++ woven places bits
woven_others zero places bits = refl
woven_others (suc n) places bits = ap (λ q. false ∷ q) (woven_others n places bits)

woven_own : (n : ℕ) (places bits : List Bool) → n ≤ length bits → woven (replicate n true ++ places) bits ≡ take n bits ++ woven places (drop n bits)
woven_own zero places bits le = refl
woven_own (suc n) places [] le = absurd (omega (arith, le))
woven_own (suc n) places (bit ∷ bits) le = ap (λ q. bit ∷ q) (woven_own n places bits (omega (arith, le)))

woven_fits : (n m : ℕ) (places bits : List Bool) → n ≤ m → m ≤ length (woven (replicate n true ++ places) bits) → n ≤ length bits
woven_fits zero m places bits le fits = omega arith
woven_fits (suc n) m places [] le fits = omega (arith, le, fits)
woven_fits (suc n) m places (bit ∷ bits) le fits =
    let rest : n ≤ length bits = woven_fits n (m - 1) places bits (omega (arith, le)) (omega (arith, le, fits)) in
    omega (arith, rest)

-- there are places where there are bits
pub woven_some : (places bits : List Bool) (m : ℕ) → 1 ≤ m → m ≤ length (woven places bits) → 1 ≤ length places
woven_some [] bits m some fits = omega (arith, some, fits)
woven_some (place ∷ places) bits m some fits = omega arith

-- the group's bits of the next run of a write are there
pub own_fits : (others count most : ℕ) (rest places bits : List Bool) → others + count ≤ most → most ≤ length (woven places bits) → replicate others false ++ (replicate count true ++ rest) ≡ places → count ≤ length bits
own_fits others count most rest places bits le fits is =
    let split : woven places bits ≡ replicate others false ++ woven (replicate count true ++ rest) bits = ap (λ q. woven q bits) (sym is) ∙ woven_others others (replicate count true ++ rest) bits in
    let here : most - others ≤ length (woven (replicate count true ++ rest) bits)
    = omega (arith, fits, ap length split, length-append (replicate others false) (woven (replicate count true ++ rest) bits), length-replicate others false) in
    woven_fits count (most - others) rest bits (omega (arith, le)) here

own_written : (count word : ℕ) (rest bits after : List Bool) → bits_of count word ++ after ≡ bits → bits_of count word ++ woven rest after ≡ woven (replicate count true ++ rest) bits
own_written count word rest bits after given =
    let size : count ≤ length bits = omega (arith, ap length given, length-append (bits_of count word) after, length-bits_of count word) in
    let first : take count bits ≡ bits_of count word = ap (take count) (sym given) ∙ take_at (bits_of count word) after count (length-bits_of count word) in
    let behind : drop count bits ≡ after = ap (drop count) (sym given) ∙ drop_at (bits_of count word) after count (length-bits_of count word) in
    (λ i. sym first i ++ woven rest (sym behind i)) ∙ sym (woven_own count rest bits size)

pub other_written : (count : ℕ) (rest places bits : List Bool) → replicate count false ++ rest ≡ places → bits_of count 0 ++ woven rest bits ≡ woven places bits
other_written count rest places bits is =
    ap (λ q. q ++ woven rest bits) (bits_of-zero count) ∙ sym (woven_others count rest bits) ∙ ap (λ q. woven q bits) is

-- where none of the run are the group's
pub others_written : (others count : ℕ) (rest places bits : List Bool) → count ≡ 0 → replicate others false ++ (replicate count true ++ rest) ≡ places → bits_of others 0 ++ woven rest bits ≡ woven places bits
others_written others count rest places bits none is =
    other_written others rest places bits (ap (λ n. replicate others false ++ (replicate n true ++ rest)) (sym none) ∙ is)

-- the next bits of a list, from a place on
pub word_within : (count at : ℕ) (bits : List Bool) → 1 ≤ count → count ≤ length (drop at bits) → at + count ≤ length bits
word_within count at bits some fits = omega (arith, some, fits, length-drop at bits)

pub word_given : (count at next word : ℕ) (bits : List Bool) → at + count ≤ length bits → next ≡ at + count → word ≡ number_of (take count (drop at bits)) → bits_of count word ++ drop next bits ≡ drop at bits
word_given count at next word bits fits next_is word_is =
    let size : count ≤ length (drop at bits) = omega (arith, fits, length-drop at bits) in
    let behind : drop next bits ≡ drop count (drop at bits) = ap (λ k. drop k bits) next_is ∙ sym (drop-drop count at bits) in
    (λ i. word_bits (drop at bits) count word size word_is i ++ behind i) ∙ take-append-drop count (drop at bits)

-- a word stays within a run when the others are put below it
record Shifts (word others count : ℕ) : Type 0 where
  whole : word * 2 ^ others % 2 ^ 64 ≡ word * 2 ^ others
  bound : word * 2 ^ others < 2 ^ (others + count)

shifts : (word others count : ℕ) → others + count ≤ 64 → word < 2 ^ count → Shifts word others count
shifts word others count few small =
    let a : 2 ^ (others + count) ≤ 2 ^ 64 = pow-le-pow_right {n = 2} (omega arith) {i = others + count} {j = 64} few in
    let split : 2 ^ (others + count) ≡ 2 ^ others * 2 ^ count = pow-add 2 others count in
    let b : (word + 1) * 2 ^ others ≤ 2 ^ count * 2 ^ others = mul-le (word + 1) (2 ^ others) (2 ^ count) (2 ^ others) (omega (arith, small)) (omega arith) in
    let more : (word + 1) * 2 ^ others ≡ word * 2 ^ others + 2 ^ others = omega arith in
    let high : word * 2 ^ others + 2 ^ others ≤ 2 ^ (others + count) = omega (arith, split, b, mul_comm (2 ^ others) (2 ^ count), more) in
    record { whole = omega (arith, a, high, pow_pos others); bound = omega (arith, high, pow_pos others) }

pub run_fits : (word others count : ℕ) → others + count ≤ 64 → word < 2 ^ count → word * 2 ^ others % 2 ^ 64 < 2 ^ (others + count)
run_fits word others count few small = let s = shifts word others count few small in rw s.whole s.bound

-- a run of others, and then of the group's own
pub run_written : (word others count : ℕ) (rest places bits after : List Bool) → others + count ≤ 64 → word < 2 ^ count → bits_of count word ++ after ≡ bits → replicate others false ++ (replicate count true ++ rest) ≡ places
    → bits_of (others + count) (word * 2 ^ others % 2 ^ 64) ++ woven rest after ≡ woven places bits
run_written word others count rest places bits after few small given is =
    let s = shifts word others count few small in
    let more : word * 2 ^ others ≡ word * 2 ^ others + 0 = omega arith in
    ap (λ v. bits_of (others + count) v ++ woven rest after) (s.whole ∙ more)
    ∙ ap (λ q. q ++ woven rest after) (bits_of-cat others count 0 word (pow_pos others))
    ∙ append_assoc (bits_of others 0) (bits_of count word) (woven rest after)
    ∙ ap (λ q. bits_of others 0 ++ q) (own_written count word rest bits after given)
    ∙ other_written others (replicate count true ++ rest) places bits is

-- ---- a run of a read-out

chosen_own : (places bits more : List Bool) → chosen (replicate (length bits) true ++ places) (bits ++ more) ≡ bits ++ chosen places more
chosen_own places [] more = refl
chosen_own places (bit ∷ bits) more = ap (λ q. bit ∷ q) (chosen_own places bits more)

chosen_others : (places bits more : List Bool) → chosen (replicate (length bits) false ++ places) (bits ++ more) ≡ chosen places more
chosen_others places [] more = refl
chosen_others places (bit ∷ bits) more = chosen_others places bits more

pub own_taken : (count word : ℕ) (own : Bool) (rest places before after : List Bool) → own ≡ true → after ≡ before ++ bits_of count word → replicate count own ++ rest ≡ places
    → (more : List Bool) → after ++ chosen rest more ≡ before ++ chosen places (bits_of count word ++ more)
own_taken count word own rest places before after own_is after_is is more =
    let run : replicate (length (bits_of count word)) true ++ rest ≡ places
    = (λ i. replicate (length-bits_of count word i) (sym own_is i) ++ rest) ∙ is in
    ap (λ q. q ++ chosen rest more) after_is ∙ append_assoc before (bits_of count word) (chosen rest more)
    ∙ ap (λ q. before ++ q) (sym (chosen_own rest (bits_of count word) more) ∙ ap (λ q. chosen q (bits_of count word ++ more)) run)

pub other_taken : (count word : ℕ) (own : Bool) (rest places before : List Bool) → own ≡ false → replicate count own ++ rest ≡ places
    → (more : List Bool) → before ++ chosen rest more ≡ before ++ chosen places (bits_of count word ++ more)
other_taken count word own rest places before own_is is more =
    let run : replicate (length (bits_of count word)) false ++ rest ≡ places
    = (λ i. replicate (length-bits_of count word i) (sym own_is i) ++ rest) ∙ is in
    ap (λ q. before ++ q) (sym (chosen_others rest (bits_of count word) more) ∙ ap (λ q. chosen q (bits_of count word ++ more)) run)

-- there is room for a run
pub own_room : (count most room : ℕ) (own : Bool) (rest places : List Bool) → own ≡ true → count ≤ most → most ≤ length (woven places (replicate room false)) → replicate count own ++ rest ≡ places → count ≤ room
own_room count most room own rest places own_is le fits is =
    let run : replicate count true ++ rest ≡ places = ap (λ o. replicate count o ++ rest) (sym own_is) ∙ is in
    omega (arith, length-replicate room false, woven_fits count most rest (replicate room false) le (subst (λ q. most ≤ length (woven q (replicate room false))) (sym run) fits))

pub own_left : (count room left : ℕ) (own : Bool) (rest places : List Bool) → own ≡ true → count ≤ room → left ≡ room - count → replicate count own ++ rest ≡ places
    → length (woven rest (replicate left false)) + count ≡ length (woven places (replicate room false))
own_left count room left own rest places own_is fits left_is is =
    let run : replicate count true ++ rest ≡ places = ap (λ o. replicate count o ++ rest) (sym own_is) ∙ is in
    let long : count ≤ length (replicate room false) = omega (arith, fits, length-replicate room false) in
    let split : woven places (replicate room false) ≡ take count (replicate room false) ++ woven rest (replicate left false)
    = ap (λ q. woven q (replicate room false)) (sym run) ∙ woven_own count rest (replicate room false) long
    ∙ ap (λ q. take count (replicate room false) ++ woven rest q) (drop-replicate count room false ∙ ap (λ k. replicate k false) (sym left_is)) in
    omega (arith, ap length split, length-append (take count (replicate room false)) (woven rest (replicate left false)), length-take-le count (replicate room false) long)

pub other_left : (count room : ℕ) (own : Bool) (rest places : List Bool) → own ≡ false → replicate count own ++ rest ≡ places
    → length (woven rest (replicate room false)) + count ≡ length (woven places (replicate room false))
other_left count room own rest places own_is is =
    let split : woven places (replicate room false) ≡ replicate count false ++ woven rest (replicate room false)
    = ap (λ q. woven q (replicate room false)) (sym is ∙ ap (λ o. replicate count o ++ rest) own_is) ∙ woven_others count rest (replicate room false) in
    omega (arith, ap length split, length-append (replicate count false) (woven rest (replicate room false)), length-replicate count false)

-- the bits of a word after those that are done
pub word_split : (n done count word : ℕ) (more : List Bool) → count ≤ n - done → done ≤ n
    → bits_of (n - done) (word / 2 ^ done) ++ more ≡ bits_of count (word / 2 ^ done) ++ (bits_of (n - (done + count)) (word / 2 ^ (done + count)) ++ more)
word_split n done count word more le lt =
    let size : n - done ≡ count + (n - (done + count)) = omega (arith, le, lt) in
    let high : word / 2 ^ done / 2 ^ count ≡ word / 2 ^ (done + count) = shr-shr word done count in
    ap (λ k. bits_of k (word / 2 ^ done) ++ more) size
    ∙ ap (λ q. q ++ more) (bits_of-append count (n - (done + count)) (word / 2 ^ done))
    ∙ append_assoc (bits_of count (word / 2 ^ done)) (bits_of (n - (done + count)) (word / 2 ^ done / 2 ^ count)) more
    ∙ ap (λ v. bits_of count (word / 2 ^ done) ++ (bits_of (n - (done + count)) v ++ more)) high
