-- Patterns of digits in words, and their words again.
use Rattle.std.proofs.Common.{◌≡◌, ℕ, zero, suc, ◌+◌, ◌*◌, ◌/◌, ◌%◌, ◌^◌, ◌-◌, ◌<◌, ◌≤◌, ◌==◌, Bool, List, [], ◌∷◌, ◌++◌, length, map, append_assoc, subst, refl, sym, ap, ◌∙◌, arith}
use Rattle.std.proofs.Math.Nat.{pow-suc, pow-le-pow_right}
use Rattle.std.proofs.lemmas.Nat.{and_block, and_le_l, and_le_r}
use Rattle.std.specs.Int.RustNames.{bit_and}
use Rattle.scan_bits.specs.Words.{bits_of, bit_value}
use Rattle.scan_bits.proofs.WordLaws.{odd-bit, bit_value-lt}
use Rattle.part_model.specs.declared.Digit.{Digit}
use Rattle.part_model.specs.declared.Digit.TheVariants.{Zero, One, Any}
use Rattle.part_model.specs.Digits.{digit_of, digits_of, is_stated, is_one, IsPacked}

-- ---- two words bit by bit

-- the lowest bit of a word and what is above
pub split : (word : ℕ) → word ≡ (word / 2) * 2 ^ 1 + word % 2
split word = omega arith

pub and_split : (left right : ℕ) → bit_and left right ≡ bit_and (left / 2) (right / 2) * 2 + bit_and (left % 2) (right % 2)
and_split left right = (λ i. bit_and (split left i) (split right i)) ∙ and_block 1 (left / 2) (right / 2) (left % 2) (right % 2) (omega arith) (omega arith)

pub half_fits : (count word : ℕ) → word < 2 ^ suc count → word / 2 < 2 ^ count
half_fits count word lt = let twice : 2 ^ suc count ≡ 2 * 2 ^ count = rw pow-suc (omega arith) in omega (arith, lt, twice)

-- ---- the words of the digits that two words keep

pub count_is : (count cares ones : ℕ) → length (digits_of count cares ones) ≡ count
count_is zero cares ones = refl
count_is (suc count) cares ones = ap suc (count_is count (cares / 2) (ones / 2))

-- where the ones of a word are in another, so are its lowest bit and those above it
inside : (ones cares : ℕ) → bit_and ones cares ≡ ones → (bit_and (ones / 2) (cares / 2) ≡ ones / 2) × (bit_and (ones % 2) (cares % 2) ≡ ones % 2)
inside ones cares within =
    let parts = and_split ones cares in
    let low : bit_and (ones % 2) (cares % 2) ≤ ones % 2 = and_le_l (ones % 2) (cares % 2) in
    let high : bit_and (ones / 2) (cares / 2) ≤ ones / 2 = and_le_l (ones / 2) (cares / 2) in
    (omega (arith, parts, within, low, high), omega (arith, parts, within, low, high))

lowest_one : (one care : ℕ) → one < 2 → care < 2 → bit_and one care ≡ one → is_one (digit_of (care == 1) (one == 1)) ≡ (one == 1)
lowest_one zero zero small less within = refl
lowest_one zero (suc zero) small less within = refl
lowest_one (suc zero) zero small less within = absurd (omega (arith, within))
lowest_one (suc zero) (suc zero) small less within = refl
lowest_one (suc (suc one)) care small less within = absurd (omega (arith, small))
lowest_one one (suc (suc care)) small less within = absurd (omega (arith, less))

pub ones_of : (count cares ones : ℕ) → bit_and ones cares ≡ ones → map is_one (digits_of count cares ones) ≡ bits_of count ones
ones_of zero cares ones within = refl
ones_of (suc count) cares ones within =
    let both = inside ones cares within in
    λ i. lowest_one (ones % 2) (cares % 2) (omega arith) (omega arith) both.1 i ∷ ones_of count (cares / 2) (ones / 2) both.0 i

pub ones_fit : (count cares ones : ℕ) → IsPacked count cares ones → ones < 2 ^ count
ones_fit count cares ones packed = omega (arith, packed.cares_fit, packed.ones_care, and_le_r ones cares)

-- ---- one more digit below the others

digit_again : (digit : Digit) → digit_of (is_stated digit) (is_one digit) ≡ digit
digit_again Zero = refl
digit_again One = refl
digit_again Any = refl

halved : (bit : Bool) (word : ℕ) → (bit_value bit + 2 * word) / 2 ≡ word
halved bit word = omega (arith, bit_value-lt bit)

pub one_below : (digit : Digit) (count cares ones : ℕ) → digits_of (suc count) (bit_value (is_stated digit) + 2 * cares) (bit_value (is_one digit) + 2 * ones) ≡ digit ∷ digits_of count cares ones
one_below digit count cares ones =
    (λ i. digit_of (odd-bit (is_stated digit) cares i) (odd-bit (is_one digit) ones i) ∷ digits_of count (halved (is_stated digit) cares i) (halved (is_one digit) ones i))
    ∙ ap (λ d. d ∷ digits_of count cares ones) (digit_again digit)

lowest_cares : (digit : Digit) → bit_and (bit_value (is_one digit)) (bit_value (is_stated digit)) ≡ bit_value (is_one digit)
lowest_cares Zero = refl
lowest_cares One = refl
lowest_cares Any = refl

pub care_below : (digit : Digit) (count cares ones : ℕ) → IsPacked count cares ones → IsPacked (suc count) (bit_value (is_stated digit) + 2 * cares) (bit_value (is_one digit) + 2 * ones)
care_below digit count cares ones packed = record {
  cares_fit = rw pow-suc (omega (arith, packed.cares_fit, bit_value-lt (is_stated digit)));
  ones_care =
      let low : (bit : Bool) (word : ℕ) → bit_value bit + 2 * word ≡ word * 2 ^ 1 + bit_value bit = λ bit word. omega arith in
      (λ i. bit_and (low (is_one digit) ones i) (low (is_stated digit) cares i))
      ∙ and_block 1 ones cares (bit_value (is_one digit)) (bit_value (is_stated digit)) (bit_value-lt (is_one digit)) (bit_value-lt (is_stated digit))
      ∙ (λ i. packed.ones_care i * 2 ^ 1 + lowest_cares digit i)
      ∙ sym (low (is_one digit) ones);
}

-- one more bit below those of a word of less than 64
pub more_fits : (count word bit : ℕ) → count < 64 → word < 2 ^ count → bit < 2 → bit + 2 * word < 2 ^ 64
more_fits count word bit few fits lowest =
    let most : 2 ^ count ≤ 2 ^ 63 = pow-le-pow_right {n = 2} (omega arith) {i = count} {j = 63} (omega (arith, few)) in
    omega (arith, fits, most, lowest)

-- a pattern of less than 64 digits keeps so few
pub few_are : (count cares ones : ℕ) (digits : List Digit) → digits_of count cares ones ≡ digits → length digits < 64 → count < 64
few_are count cares ones digits are few = omega (arith, count_is count cares ones, ap length are, few)

-- ---- from the highest digit to the lowest

-- the digits that are left, and behind them those that two words keep
pub record Packing (digits rest : List Digit) (cares ones : ℕ) : Type 0 where
  pub most : length rest ≤ length digits
  pub whole : rest ++ digits_of (length digits - length rest) cares ones ≡ digits
  pub packed : IsPacked (length digits - length rest) cares ones

pub one_packed : (digits rest : List Digit) (cares ones : ℕ) (digit : Digit) (lower : List Digit) → Packing digits rest cares ones → rest ≡ lower ++ digit ∷ [] → length lower + 1 ≡ length rest
    → Packing digits lower (bit_value (is_stated digit) + 2 * cares) (bit_value (is_one digit) + 2 * ones)
one_packed digits rest cares ones digit lower packing last longer =
    let more : length digits - length lower ≡ suc (length digits - length rest) = omega (arith, longer, packing.most) in
    let kept = digits_of (length digits - length rest) cares ones in
    record {
      most = omega (arith, longer, packing.most);
      whole = ap (λ count. lower ++ digits_of count (bit_value (is_stated digit) + 2 * cares) (bit_value (is_one digit) + 2 * ones)) more
          ∙ ap (λ above. lower ++ above) (one_below digit (length digits - length rest) cares ones)
          ∙ sym (append_assoc lower (digit ∷ []) kept) ∙ ap (λ front. front ++ kept) (sym last) ∙ packing.whole;
      packed = subst (λ count. IsPacked count (bit_value (is_stated digit) + 2 * cares) (bit_value (is_one digit) + 2 * ones)) (sym more) (care_below digit (length digits - length rest) cares ones packing.packed);
    }
