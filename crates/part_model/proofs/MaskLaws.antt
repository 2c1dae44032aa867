-- Patterns in words match codes as the patterns of digits do.
use Rattle.std.proofs.Common.{◌≡◌, ℕ, zero, suc, ◌+◌, ◌*◌, ◌/◌, ◌%◌, ◌^◌, ◌<◌, ◌==◌, ◌&&◌, Bool, true, false, inl, inr, List, [], ◌∷◌, length, map, replicate, subst, refl, sym, ap, ◌∙◌, arith}
use Rattle.std.specs.List.{list_all}
use Rattle.std.proofs.lemmas.Nat.{xor_block, xor_lt}
use Rattle.std.proofs.lemmas.Bool.{and_right, eqb-true}
use Rattle.std.proofs.lemmas.Bool.Decides.{eqb_tells}
use Rattle.std.specs.Int.Bits.{and_zero_r}
use Rattle.std.specs.Int.RustNames.{bit_and, bit_xor}
use Rattle.scan_bits.specs.Words.{bits_of}
use Rattle.scan_bits.proofs.WordLaws.{length-bits_of}
use Rattle.part_model.specs.declared.Digit.{Digit}
use Rattle.part_model.specs.declared.Digit.TheVariants.{Zero, One, Any}
use Rattle.part_model.specs.Digits.{digit_of, digits_of, is_one, IsPacked}
use Rattle.part_model.specs.Parts.{matches, digit_matches}
use Rattle.part_model.specs.Plans.{bits_of_pattern}
use Rattle.part_model.proofs.PackLaws.{split, and_split, half_fits, count_is, ones_of, ones_fit}

-- ---- tests of numbers

same_tests : (a b c d : ℕ) → (a ≡ b → c ≡ d) → (c ≡ d → a ≡ b) → (a == b) ≡ (c == d)
same_tests a b c d there back = elim (eqb_tells a b) [
  | inl equal ↦ elim (eqb_tells c d) [
    | inl others ↦ equal.0 ∙ sym others.0
    | inr others ↦ absurd (others.1 (there equal.1))
  ]
  | inr unequal ↦ elim (eqb_tells c d) [
    | inl others ↦ absurd (unequal.1 (back others.1))
    | inr others ↦ unequal.0 ∙ sym others.0
  ]
]

unequal : (a b : ℕ) → (a ≡ b → ⊥) → false ≡ (a == b)
unequal a b others = elim (eqb_tells a b) [
  | inl equal ↦ absurd (others equal.1)
  | inr differing ↦ sym differing.0
]

-- ---- words that match

xor_split : (left right : ℕ) → bit_xor left right ≡ bit_xor (left / 2) (right / 2) * 2 + bit_xor (left % 2) (right % 2)
xor_split left right = (λ i. bit_xor (split left i) (split right i)) ∙ xor_block 1 (left / 2) (right / 2) (left % 2) (right % 2) (omega arith) (omega arith)

even : (above : ℕ) → (above == 0) ≡ (above * 2 + 0 == 0)
even above = same_tests above 0 (above * 2 + 0) 0 (λ e. omega (arith, e)) (λ e. omega (arith, e))

odd : (above : ℕ) → false ≡ (above * 2 + 1 == 0)
odd above = unequal (above * 2 + 1) 0 (λ e. omega (arith, e))

-- the lowest digit and all above it
lowest_matches : (care one bit above : ℕ) → care < 2 → one < 2 → bit < 2 → (digit_matches (digit_of (care == 1) (one == 1)) (bit == 1) && (above == 0)) ≡ (above * 2 + bit_and (bit_xor bit one) care == 0)
lowest_matches zero zero zero above less small short = even above
lowest_matches zero zero (suc zero) above less small short = even above
lowest_matches zero (suc zero) zero above less small short = even above
lowest_matches zero (suc zero) (suc zero) above less small short = even above
lowest_matches (suc zero) zero zero above less small short = even above
lowest_matches (suc zero) zero (suc zero) above less small short = odd above
lowest_matches (suc zero) (suc zero) zero above less small short = odd above
lowest_matches (suc zero) (suc zero) (suc zero) above less small short = even above
lowest_matches (suc (suc care)) one bit above less small short = absurd (omega (arith, less))
lowest_matches care (suc (suc one)) bit above less small short = absurd (omega (arith, small))
lowest_matches care one (suc (suc bit)) above less small short = absurd (omega (arith, short))

-- a code matches where it differs from the ones in no digit that is stated
pub masked : (count cares ones code : ℕ) → cares < 2 ^ count → matches (digits_of count cares ones) (bits_of count code) ≡ (bit_and (bit_xor code ones) cares == 0)
masked zero cares ones code fits =
    let none : cares ≡ 0 = omega (arith, fits) in
    sym (ap (λ n. bit_and (bit_xor code ones) n == 0) none ∙ ap (λ n. n == 0) (and_zero_r (bit_xor code ones)))
masked (suc count) cares ones code fits =
    let differences = bit_xor code ones in
    let halves : differences / 2 ≡ bit_xor (code / 2) (ones / 2) = omega (arith, xor_split code ones, xor_bit code ones) in
    let lowest : differences % 2 ≡ bit_xor (code % 2) (ones % 2) = omega (arith, xor_split code ones, xor_bit code ones) in
    let above = bit_and (bit_xor (code / 2) (ones / 2)) (cares / 2) in
    let all : bit_and differences cares ≡ above * 2 + bit_and (bit_xor (code % 2) (ones % 2)) (cares % 2) = and_split differences cares ∙ (λ i. bit_and (halves i) (cares / 2) * 2 + bit_and (lowest i) (cares % 2)) in
    ap (λ b. digit_matches (digit_of (cares % 2 == 1) (ones % 2 == 1)) (code % 2 == 1) && b) (masked count (cares / 2) (ones / 2) (code / 2) (half_fits count cares fits))
    ∙ lowest_matches (cares % 2) (ones % 2) (code % 2) above (omega arith) (omega arith) (omega arith)
    ∙ ap (λ n. n == 0) (sym all)
  where
    xor_bit : (left right : ℕ) → bit_xor (left % 2) (right % 2) < 2
    xor_bit left right = xor_lt 1 (left % 2) (right % 2) (omega arith) (omega arith)

-- ---- patterns in words

words_match : (count cares ones : ℕ) (digits : List Digit) (wanted code : ℕ) → IsPacked count cares ones → digits_of count cares ones ≡ digits → count ≡ wanted → (bit_and (bit_xor code ones) cares == 0) ≡ matches digits (bits_of wanted code)
words_match count cares ones digits wanted code packed are same = sym (masked count cares ones code packed.cares_fit) ∙ (λ i. matches (are i) (bits_of (same i) code))

differ : (pattern : List Digit) (bits : List Bool) → (length pattern ≡ length bits → ⊥) → matches pattern bits ≡ false
differ [] [] others = absurd (others refl)
differ [] (bit ∷ bits) others = refl
differ (digit ∷ digits) [] others = refl
differ (digit ∷ digits) (bit ∷ bits) others = and_right (digit_matches digit bit) (matches digits bits) (differ digits bits (λ e. others (ap suc e)))

-- a pattern of another length matches no code
lengths_differ : (count cares ones : ℕ) (digits : List Digit) (wanted code : ℕ) → digits_of count cares ones ≡ digits → (count ≡ wanted → ⊥) → (count == wanted) ≡ matches digits (bits_of wanted code)
lengths_differ count cares ones digits wanted code are others =
    let long : length digits ≡ count = ap length (sym are) ∙ count_is count cares ones in
    let none : matches digits (bits_of wanted code) ≡ false = differ digits (bits_of wanted code) (λ e. others (sym long ∙ e ∙ length-bits_of wanted code)) in
    elim (eqb_tells count wanted) [
      | inl both ↦ absurd (others both.1)
      | inr both ↦ both.0 ∙ sym none
    ]

-- where the words agree the lengths decide
pub agreeing_words : (count cares ones : ℕ) (digits : List Digit) (wanted code : ℕ) → IsPacked count cares ones → digits_of count cares ones ≡ digits → bit_and (bit_xor code ones) cares ≡ 0 → (count == wanted) ≡ matches digits (bits_of wanted code)
agreeing_words count cares ones digits wanted code packed are agree = elim (eqb_tells count wanted) [
  | inl same ↦ same.0 ∙ sym (ap (λ n. n == 0) agree) ∙ words_match count cares ones digits wanted code packed are same.1
  | inr other ↦ lengths_differ count cares ones digits wanted code are other.1
]

pub differing_words : (count cares ones : ℕ) (digits : List Digit) (wanted code : ℕ) → IsPacked count cares ones → digits_of count cares ones ≡ digits → (bit_and (bit_xor code ones) cares ≡ 0 → ⊥) → (bit_and (bit_xor code ones) cares == 0) ≡ matches digits (bits_of wanted code)
differing_words count cares ones digits wanted code packed are others = elim (eqb_tells count wanted) [
  | inl same ↦ words_match count cares ones digits wanted code packed are same.1
  | inr other ↦ sym (unequal (bit_and (bit_xor code ones) cares) 0 others) ∙ sym other.0 ∙ lengths_differ count cares ones digits wanted code are other.1
]

pattern_ones : (digits : List Digit) → map is_one digits ≡ bits_of_pattern digits
pattern_ones [] = refl
pattern_ones (Zero ∷ digits) = ap (λ bits. false ∷ bits) (pattern_ones digits)
pattern_ones (One ∷ digits) = ap (λ bits. true ∷ bits) (pattern_ones digits)
pattern_ones (Any ∷ digits) = ap (λ bits. false ∷ bits) (pattern_ones digits)

-- the ones of a pattern are its code, X read as 0
pub ones_code : (count cares ones : ℕ) (digits : List Digit) → IsPacked count cares ones → digits_of count cares ones ≡ digits → bits_of (length digits) ones ≡ bits_of_pattern digits
ones_code count cares ones digits packed are =
    let long : length digits ≡ count = ap length (sym are) ∙ count_is count cares ones in
    ap (λ n. bits_of n ones) long ∙ sym (ones_of count cares ones packed.ones_care) ∙ ap (map is_one) are ∙ pattern_ones digits

pub ones_bound : (count cares ones : ℕ) (digits : List Digit) → IsPacked count cares ones → digits_of count cares ones ≡ digits → ones < 2 ^ length digits
ones_bound count cares ones digits packed are = subst (λ n. ones < 2 ^ n) (sym (ap length (sym are) ∙ count_is count cares ones)) (ones_fit count cares ones packed)

-- ---- codes of ones

lowest_set : (bit above mask : ℕ) → bit < 2 → ((bit == 1) && (above == mask)) ≡ (above * 2 + bit_and bit 1 == mask * 2 + 1)
lowest_set zero above mask less = unequal (above * 2 + 0) (mask * 2 + 1) (λ e. omega (arith, e))
lowest_set (suc zero) above mask less = same_tests above mask (above * 2 + 1) (mask * 2 + 1) (λ e. omega (arith, e)) (λ e. omega (arith, e))
lowest_set (suc (suc bit)) above mask less = absurd (omega (arith, less))

-- all bits of a code are 1 where a mask of ones is in it
pub all_set : (count code mask : ℕ) → bits_of count mask ≡ replicate count true → mask < 2 ^ count → (bit_and code mask == mask) ≡ list_all (λ bit. bit) (bits_of count code)
all_set zero code mask are fits =
    let none : mask ≡ 0 = omega (arith, fits) in
    (λ i. bit_and code (none i) == none i) ∙ ap (λ n. n == 0) (and_zero_r code)
all_set (suc count) code mask are fits =
    let highest : bits_of count (mask / 2) ≡ replicate count true = cc are in
    let lowest : (mask % 2 == 1) ≡ true = cc are in
    let set : mask % 2 ≡ 1 = eqb-true (mask % 2) 1 lowest in
    let whole : mask ≡ (mask / 2) * 2 + 1 = omega (arith, set) in
    let both : bit_and code mask ≡ bit_and (code / 2) (mask / 2) * 2 + bit_and (code % 2) 1 = and_split code mask ∙ ap (λ n. bit_and (code / 2) (mask / 2) * 2 + bit_and (code % 2) n) set in
    (λ i. both i == whole i)
    ∙ sym (lowest_set (code % 2) (bit_and (code / 2) (mask / 2)) (mask / 2) (omega arith))
    ∙ ap (λ b. (code % 2 == 1) && b) (all_set count (code / 2) (mask / 2) highest (half_fits count mask fits))
