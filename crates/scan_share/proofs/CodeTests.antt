-- Words tested one by one for whether they are codes of a group's devices.
use Rattle.std.proofs.Common.{◌≡◌, ◌≤◌, ◌<◌, ◌+◌, ◌^◌, ℕ, zero, suc, true, List, [], ◌∷◌, length, drop, replicate, refl, ap, sym, subst, ◌∙◌, arith, leb, ltb, eqb, inl, inr, Some}
use Rattle.std.specs.declared.option.Option.{Option}
use Rattle.std.specs.Prelude.{slice_get}
use Rattle.std.specs.List.{cons_option, slice_index_or}
use Rattle.std.proofs.Math.Nat.{pow-suc}
use Rattle.std.proofs.lemmas.Bool.{cases_lt, eq-eqb, le-leb, lt-leb, le-ltb, lt-ltb}
use Rattle.scan_share.proofs.Ready.{coded}
use Rattle.scan_share.specs.Laws.{IsGroup}
use Rattle.grant_table.specs.Layouts.{LayoutShape}
use Rattle.scan_bits.specs.Words.{number_of}
use Rattle.part_model.specs.Parts.{DeviceType}
use Rattle.scan_share.specs.PrivateChains.{entries_at}
use Rattle.scan_share.specs.Codes.{AreCodes}

-- so many ones are one less than a power of two
pub ones_are : (n : ℕ) → number_of (replicate n true) + 1 ≡ 2 ^ n
ones_are zero = refl
ones_are (suc n) = omega (arith, ones_are n, pow-suc 2 n)

-- at most so much is below one more
pub below_next : (a b n : ℕ) → b + 1 ≡ n → leb a b ≡ ltb a n
below_next a b n is =
    elim (cases_lt a n) [
      | inl lt ↦ le-leb a b (omega (arith, is, lt)) ∙ sym (lt-ltb a n lt)
      | inr ge ↦ lt-leb a b (omega (arith, is, ge)) ∙ sym (le-ltb a n ge)
    ]

-- codes are as many as the group's devices
pub counted_codes : (layout : LayoutShape) (group codes members : List ℕ) → IsGroup layout group → members ≡ group → AreCodes (entries_at layout.parts group) codes → eqb (length members) (length codes) ≡ true
counted_codes layout group codes members is same all = eq-eqb (length members) (length codes) (omega (arith, ap length same, coded layout group codes is all))

-- the words from a place on are codes exactly where all are
pub record Tested (parts : List DeviceType) (group codes : List ℕ) (at : ℕ) : Type 0 where
  pub forth : AreCodes (entries_at parts (drop at group)) (drop at codes) → AreCodes (entries_at parts group) codes
  pub back : AreCodes (entries_at parts group) codes → AreCodes (entries_at parts (drop at group)) (drop at codes)

one_tested : (parts : List DeviceType) (group codes : List ℕ) (at place code d e : ℕ) (part : DeviceType) → at < length group → at < length codes → place ≡ slice_index_or group at d → code ≡ slice_index_or codes at e
    → slice_get parts place ≡ Some part
    → AreCodes (entries_at parts (drop at group)) (drop at codes) ≡ ((code < 2 ^ part.ir_length) × AreCodes (entries_at parts (drop (suc at) group)) (drop (suc at) codes))
one_tested parts [] codes at place code d e part lt lt2 place_is code_is is = absurd (omega (arith, lt))
one_tested parts (g ∷ group) [] at place code d e part lt lt2 place_is code_is is = absurd (omega (arith, lt2))
one_tested parts (g ∷ group) (k ∷ codes) zero place code d e part lt lt2 place_is code_is is =
    (λ i. AreCodes (entries_at parts (sym place_is i ∷ group)) (sym code_is i ∷ codes)) ∙ ap (λ (o : Option DeviceType). AreCodes (cons_option o (entries_at parts group)) (code ∷ codes)) is
one_tested parts (g ∷ group) (k ∷ codes) (suc at) place code d e part lt lt2 place_is code_is is =
    one_tested parts group codes at place code d e part (omega (arith, lt)) (omega (arith, lt2)) place_is code_is is

pub none_tested : (parts : List DeviceType) (group codes : List ℕ) → Tested parts group codes 0
none_tested parts group codes = record { forth = λ a. a; back = λ a. a }

pub more_tested : (parts : List DeviceType) (group codes : List ℕ) (at place code d e : ℕ) (part : DeviceType) → Tested parts group codes at → at < length group → length codes ≡ length group
    → place ≡ slice_index_or group at d → code ≡ slice_index_or codes at e → slice_get parts place ≡ Some part → code < 2 ^ part.ir_length → Tested parts group codes (at + 1)
more_tested parts group codes at place code d e part tested lt long place_is code_is is small =
    let one = one_tested parts group codes at place code d e part lt (omega (arith, lt, long)) place_is code_is is in
    let next : suc at ≡ at + 1 = omega arith in
    subst (Tested parts group codes) next (record { forth = λ rest. tested.forth (subst (λ t. t) (sym one) (small, rest)); back = λ all. (subst (λ t. t) one (tested.back all)).1 })

pub fails_one : (parts : List DeviceType) (group codes : List ℕ) (at place code d e : ℕ) (part : DeviceType) → Tested parts group codes at → at < length group → length codes ≡ length group
    → place ≡ slice_index_or group at d → code ≡ slice_index_or codes at e → slice_get parts place ≡ Some part → AreCodes (entries_at parts group) codes → code < 2 ^ part.ir_length
fails_one parts group codes at place code d e part tested lt long place_is code_is is all =
    (subst (λ t. t) (one_tested parts group codes at place code d e part lt (omega (arith, lt, long)) place_is code_is is) (tested.back all)).0

drop_past : (xs : List ℕ) (at : ℕ) → length xs ≤ at → drop at xs ≡ []
drop_past [] zero le = refl
drop_past [] (suc at) le = refl
drop_past (x ∷ xs) zero le = absurd (omega (arith, le))
drop_past (x ∷ xs) (suc at) le = drop_past xs at (omega (arith, le))

pub all_tested : (parts : List DeviceType) (group codes : List ℕ) (at : ℕ) → Tested parts group codes at → length group ≤ at → length codes ≡ length group → AreCodes (entries_at parts group) codes
all_tested parts group codes at tested le long =
    tested.forth (subst (λ g. AreCodes (entries_at parts g) (drop at codes)) (sym (drop_past group at le)) (subst (AreCodes []) (sym (drop_past codes at (omega (arith, le, long)))) tt))
