-- Places of devices as the bits of a word.
use Rattle.std.proofs.Common.{◌≡◌, ◌≢◌, ◌≤◌, ◌<◌, ◌+◌, ◌-◌, ◌*◌, ◌/◌, ◌%◌, ◌^◌, ◌==◌, bit_or, ℕ, zero, suc, Bool, true, false, List, [], ◌∷◌, ◌++◌, length, replicate, refl, ap, sym, ◌∙◌, arith, Some, append_assoc, length-append, subst}
use Rattle.std.specs.Prelude.{slice_get}
use Rattle.std.specs.List.{All, slice_index_or}
use Rattle.std.proofs.lemmas.List.{append-nil}
use Rattle.std.proofs.lemmas.Nat.{mul-le, pow-add, pow_pos}
use Rattle.std.proofs.Math.Nat.{pow-le-pow_right, mul_comm}
use Rattle.scan_bits.specs.Words.{bits_of}
use Rattle.scan_bits.proofs.WordLaws.{bits_of-cat, bits_of-zero, length-bits_of}
use Rattle.part_model.proofs.ResetLaws.{all_ones_are, all_ones_below}
use Rattle.grant_table.specs.Apart.{RisesFrom}
use Rattle.grant_table.specs.Faults.{places_from}
use Rattle.scan_share.specs.PlaceMasks.{places_of_ones, places_in}
use Rattle.scan_share.specs.Rows.{AreNeighbours}
use Rattle.scan_share.proofs.Adjacent.{rises_by}
use Rattle.scan_share.proofs.Places.{all_at, read_at}
use Rattle.scan_share.proofs.Splits.{Begun, all_begun, more_begun}
use Rattle.scan_share.proofs.Taking.{Taken, taken_more}

-- ---- rows of bits

ones_append : (at : ℕ) (xs ys : List Bool) → places_of_ones at (xs ++ ys) ≡ places_of_ones at xs ++ places_of_ones (at + length xs) ys
ones_append at [] ys = let e : at ≡ at + 0 = omega arith in ap (λ k. places_of_ones k ys) e
ones_append at (true ∷ xs) ys =
    let e : suc at + length xs ≡ at + suc (length xs) = omega arith in
    ap (λ rest. at ∷ rest) (ones_append (suc at) xs ys ∙ ap (λ k. places_of_ones (suc at) xs ++ places_of_ones k ys) e)
ones_append at (false ∷ xs) ys =
    let e : suc at + length xs ≡ at + suc (length xs) = omega arith in
    ones_append (suc at) xs ys ∙ ap (λ k. places_of_ones (suc at) xs ++ places_of_ones k ys) e

none_of : (at count : ℕ) → places_of_ones at (replicate count false) ≡ []
none_of at zero = refl
none_of at (suc count) = none_of (suc at) count

row_of : (at count : ℕ) → places_of_ones at (replicate count true) ≡ places_from at count
row_of at zero = refl
row_of at (suc count) = ap (λ rest. at ∷ rest) (row_of (suc at) count)

-- zeros behind the bits of a row have no places
zeros_behind : (at count : ℕ) (bits : List Bool) → places_of_ones at (bits ++ bits_of count 0) ≡ places_of_ones at bits
zeros_behind at count bits =
    ones_append at bits (bits_of count 0)
    ∙ ap (λ q. places_of_ones at bits ++ q) (ap (places_of_ones (at + length bits)) (bits_of-zero count) ∙ none_of (at + length bits) count)
    ∙ append-nil (places_of_ones at bits)

-- nor have those before it, but they count
zeros_before : (at count : ℕ) (bits : List Bool) → places_of_ones at (bits_of count 0 ++ bits) ≡ places_of_ones (at + count) bits
zeros_before at count bits =
    ones_append at (bits_of count 0) bits
    ∙ ap (λ q. q ++ places_of_ones (at + length (bits_of count 0)) bits) (ap (places_of_ones at) (bits_of-zero count) ∙ none_of at count)
    ∙ ap (λ k. places_of_ones (at + k) bits) (length-bits_of count 0)

-- ---- a mask of so many bits

in_low : (mask count : ℕ) → mask < 2 ^ count → count ≤ 32 → places_in mask ≡ places_of_ones 0 (bits_of count mask)
unfolding places_in
in_low mask count lt le =
    let all : 32 ≡ count + (32 - count) = omega (arith, le) in
    let same : mask ≡ 0 * 2 ^ count + mask = omega arith in
    (λ i. places_of_ones 0 (bits_of (all i) (same i)))
    ∙ ap (places_of_ones 0) (bits_of-cat count (32 - count) mask 0 lt)
    ∙ zeros_behind 0 (32 - count) (bits_of count mask)

-- the mask of a row of places
pub row_mask : (first count : ℕ) → first + count ≤ 32 → places_in ((2 ^ 64 - 1) / 2 ^ (64 - count) * 2 ^ first % 2 ^ 64) ≡ places_from first count
row_mask first count le =
    let ones = (2 ^ 64 - 1) / 2 ^ (64 - count) in
    let few : count ≤ 64 = omega (arith, le) in
    let below : ones < 2 ^ count = all_ones_below count few in
    let a : 2 ^ (first + count) ≤ 2 ^ 32 = pow-le-pow_right {n = 2} (omega arith) {i = first + count} {j = 32} le in
    let split : 2 ^ (first + count) ≡ 2 ^ first * 2 ^ count = pow-add 2 first count in
    let b : (ones + 1) * 2 ^ first ≤ 2 ^ count * 2 ^ first = mul-le (ones + 1) (2 ^ first) (2 ^ count) (2 ^ first) (omega (arith, below)) (omega arith) in
    let more : (ones + 1) * 2 ^ first ≡ ones * 2 ^ first + 2 ^ first = omega arith in
    let whole : ones * 2 ^ first % 2 ^ 64 ≡ ones * 2 ^ first + 0 = omega (arith, a, split, b, mul_comm (2 ^ first) (2 ^ count), more, pow_pos first) in
    let high : ones * 2 ^ first + 0 < 2 ^ (first + count) = omega (arith, split, b, mul_comm (2 ^ first) (2 ^ count), more, pow_pos first) in
    let none : 0 + first ≡ first = omega arith in
    ap places_in whole
    ∙ in_low (ones * 2 ^ first + 0) (first + count) high le
    ∙ ap (places_of_ones 0) (bits_of-cat first count 0 ones (pow_pos first))
    ∙ zeros_before 0 first (bits_of count ones)
    ∙ ap (places_of_ones (0 + first)) (all_ones_are count few)
    ∙ ap (λ k. places_of_ones k (replicate count true)) none
    ∙ row_of first count

-- a group of neighbours is such a row
row_at : (group : List ℕ) (first : ℕ) → ((i other : ℕ) → slice_get group i ≡ Some other → other ≡ first + i) → group ≡ places_from first (length group)
row_at [] first each = refl
row_at (place ∷ group) first each =
    let here : place ≡ first = let e : place ≡ first + 0 = each 0 place refl in omega (arith, e) in
    λ i. here i ∷ row_at group (suc first) (λ k other is. let e : other ≡ first + suc k = each (suc k) other is in omega (arith, e)) i

pub neighbour_row : (group : List ℕ) → AreNeighbours group → group ≡ places_from (slice_index_or group 0 0) (length group)
neighbour_row group are = row_at group (slice_index_or group 0 0) are.each

pub row_fits : (group : List ℕ) → AreNeighbours group → All (λ place. place < 32) group → slice_index_or group 0 0 + length group ≤ 32
row_fits group are low =
    let last = read_at group (length group - 1) 0 (omega (arith, are.some)) in
    omega (arith, are.some, are.each (length group - 1) (slice_index_or group (length group - 1) 0) last, all_at (λ k. k < 32) group low (length group - 1) (slice_index_or group (length group - 1) 0) last)

-- ---- place by place

-- the first places of a group are those of a mask, and those that follow are past its bits
pub record Marked (mask : ℕ) (group : List ℕ) (at : ℕ) : Type 0 where
  pub begun : Begun (places_in mask) group at
  pub above : (i other : ℕ) → at ≤ i → slice_get group i ≡ Some other → mask < 2 ^ other

pub none_marked : (group : List ℕ) → Marked 0 group 0
unfolding places_in
none_marked group = record { begun = record { is = refl; count = refl }; above = λ i other le is. pow_pos other }

with_place : (mask place : ℕ) → mask < 2 ^ place → place < 32 → Taken (bit_or mask (1 * 2 ^ place % 2 ^ 64)) (place + 1) [] (bits_of place mask ++ true ∷ [])
with_place mask place lt low =
    taken_more mask place 1 1 (place + 1) 64 (true ∷ []) [] (bits_of place mask ++ true ∷ []) (omega arith) (omega (arith, low)) (omega (arith, low)) refl (omega arith) refl
    (record { small = lt; is = refl })

placed : (mask place : ℕ) → mask < 2 ^ place → place < 32 → places_in (bit_or mask (1 * 2 ^ place % 2 ^ 64)) ≡ places_in mask ++ place ∷ []
placed mask place lt low =
    let next = bit_or mask (1 * 2 ^ place % 2 ^ 64) in
    let taken = with_place mask place lt low in
    in_low next (place + 1) taken.small (omega (arith, low))
    ∙ ap (places_of_ones 0) (sym (append-nil (bits_of (place + 1) next)) ∙ taken.is)
    ∙ ones_append 0 (bits_of place mask) (true ∷ [])
    ∙ ap (λ k. places_of_ones 0 (bits_of place mask) ++ k ∷ []) {x = 0 + length (bits_of place mask)} {y = place} (omega (arith, length-bits_of place mask))
    ∙ ap (λ q. q ++ place ∷ []) (sym (in_low mask place lt (omega (arith, low))))

pub more_marked : (mask place : ℕ) (group : List ℕ) (at : ℕ) → RisesFrom 0 group → All (λ place. place < 32) group → slice_get group at ≡ Some place → Marked mask group at
    → Marked (bit_or mask (1 * 2 ^ place % 2 ^ 64)) group (at + 1)
more_marked mask place group at rises low here was =
    let lt : mask < 2 ^ place = was.above at place (omega arith) here in
    let few : place < 32 = all_at (λ k. k < 32) group low at place here in
    record {
      begun = subst (λ done. Begun done group (at + 1)) (sym (placed mask place lt few)) (more_begun (places_in mask) group at place was.begun here);
      above = λ i other le is.
          let next : place + (i - at) ≤ other = rises_by 0 group at i place other rises (omega (arith, le)) here is in
          let wide : 2 ^ (place + 1) ≤ 2 ^ other = pow-le-pow_right {n = 2} (omega arith) {i = place + 1} {j = other} (omega (arith, next, le)) in
          omega (arith, wide, (with_place mask place lt few).small);
    }

pub all_marked : (mask : ℕ) (group : List ℕ) (at : ℕ) → length group ≤ at → Marked mask group at → places_in mask ≡ group
all_marked mask group at le was = all_begun (places_in mask) group at was.begun le

-- ---- the places of a mask, listed

-- the first places are there, and those of the bits that are left are to come
pub record Listed (done : List ℕ) (rest mask at : ℕ) : Type 0 where
  pub whole : done ++ places_of_ones at (bits_of (32 - at) rest) ≡ places_in mask
  pub few : length done ≤ at

pub begin_listed : (mask : ℕ) → Listed [] mask mask 0
unfolding places_in
begin_listed mask = record { whole = refl; few = omega arith }

next_bit : (rest at : ℕ) → at < 32 → bits_of (32 - at) rest ≡ (rest % 2 == 1) ∷ bits_of (32 - (at + 1)) (rest / 2)
next_bit rest at lt = let e : 32 - at ≡ suc (32 - (at + 1)) = omega (arith, lt) in ap (λ k. bits_of k rest) e

pub one_listed : (done : List ℕ) (rest mask at : ℕ) → at < 32 → rest % 2 ≡ 1 → Listed done rest mask at → Listed (done ++ at ∷ []) (rest / 2) mask (at + 1)
one_listed done rest mask at lt odd was = record {
  whole = append_assoc done (at ∷ []) (places_of_ones (at + 1) (bits_of (32 - (at + 1)) (rest / 2)))
      ∙ (λ i. done ++ at ∷ places_of_ones (next i) (bits_of (32 - (at + 1)) (rest / 2)))
      ∙ ap (λ bit. done ++ places_of_ones at (bit ∷ bits_of (32 - (at + 1)) (rest / 2))) (sym (ap (λ k. k == 1) odd))
      ∙ ap (λ bits. done ++ places_of_ones at bits) (sym (next_bit rest at lt)) ∙ was.whole;
  few = omega (arith, length-append done (at ∷ []), was.few);
}
  where
    next : at + 1 ≡ suc at
    next = omega arith

pub none_listed : (done : List ℕ) (rest mask at : ℕ) → at < 32 → rest % 2 ≢ 1 → Listed done rest mask at → Listed done (rest / 2) mask (at + 1)
none_listed done rest mask at lt even was =
    let zero_bit : rest % 2 ≡ 0 = omega (arith, even) in record {
      whole = (λ i. done ++ places_of_ones (next i) (bits_of (32 - (at + 1)) (rest / 2)))
          ∙ ap (λ bit. done ++ places_of_ones at (bit ∷ bits_of (32 - (at + 1)) (rest / 2))) (sym (ap (λ k. k == 1) zero_bit))
          ∙ ap (λ bits. done ++ places_of_ones at bits) (sym (next_bit rest at lt)) ∙ was.whole;
      few = omega (arith, was.few);
    }
  where
    next : at + 1 ≡ suc at
    next = omega arith

pub all_listed : (done : List ℕ) (rest mask at : ℕ) → 32 ≤ at → Listed done rest mask at → done ≡ places_in mask
all_listed done rest mask at le was =
    let none : 0 ≡ 32 - at = omega (arith, le) in
    sym (append-nil done) ∙ ap (λ k. done ++ places_of_ones at (bits_of k rest)) none ∙ was.whole
