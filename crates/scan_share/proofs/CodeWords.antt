-- Instruction codes as words, and as bits.
use Rattle.std.proofs.Common.{◌≡◌, ◌≤◌, ◌<◌, ◌+◌, ◌-◌, ◌/◌, ◌%◌, ◌^◌, ℕ, zero, suc, Bool, true, false, not, ◌||◌, List, [], ◌∷◌, ◌++◌, length, map, replicate, drop, get_or, refl, ap, sym, ◌∙◌, arith, Some, None, append_assoc}
use Rattle.std.specs.Prelude.{slice_get}
use Rattle.std.proofs.lemmas.Option.{same_Some}
use Rattle.std.proofs.lemmas.List.{length-replicate}
use Rattle.std.proofs.Math.Nat.{mod-eq_of_lt}
use Rattle.scan_bits.specs.Words.{bits_of, number_of}
use Rattle.scan_bits.proofs.WordLaws.{number_of-bits_of}
use Rattle.scan_share.proofs.Lookups.{some_none}

-- the words of the first parts are there
pub record Filled {X : Type 0} (word : X → ℕ) (done : List ℕ) (xs : List X) (at : ℕ) : Type 0 where
  pub words : done ++ map word (drop at xs) ≡ map word xs
  pub count : length done ≡ at

pub drop_at : {X : Type 0} (xs : List X) (at : ℕ) (x : X) → slice_get xs at ≡ Some x → drop at xs ≡ x ∷ drop (suc at) xs
drop_at [] at x is = some_none x (sym is)
drop_at (y ∷ xs) zero x is = ap (λ z. z ∷ xs) (same_Some y x is)
drop_at (y ∷ xs) (suc at) x is = drop_at xs at x is

pub one_filled : {X : Type 0} (word : X → ℕ) (done : List ℕ) (xs : List X) (at : ℕ) (x : X) (w : ℕ) → Filled word done xs at → slice_get xs at ≡ Some x → w ≡ word x
    → Filled word (done ++ w ∷ []) xs (at + 1)
one_filled word done xs at x w filled is w_is = record {
  words = ap (λ q. (done ++ q ∷ []) ++ map word (drop (at + 1) xs)) w_is
      ∙ append_assoc done (word x ∷ []) (map word (drop (at + 1) xs))
      ∙ ap (λ n. done ++ word x ∷ map word (drop n xs)) next
      ∙ ap (λ r. done ++ map word r) (sym (drop_at xs at x is)) ∙ filled.words;
  count = Rattle.std.proofs.Common.length-append done (w ∷ []) ∙ ap (λ n. n + 1) filled.count;
}
  where
    next : at + 1 ≡ suc at
    next = omega arith

pub drop_past : {X : Type 0} (xs : List X) (at : ℕ) → length xs ≤ at → drop at xs ≡ []
drop_past [] zero le = refl
drop_past [] (suc at) le = refl
drop_past (x ∷ xs) zero le = absurd (omega (arith, le))
drop_past (x ∷ xs) (suc at) le = drop_past xs at (omega (arith, le))

pub all_filled : {X : Type 0} (word : X → ℕ) (done : List ℕ) (xs : List X) (at : ℕ) → Filled word done xs at → length xs ≤ at → done ≡ map word xs
all_filled word done xs at filled le =
    sym (Rattle.std.proofs.lemmas.List.append-nil done) ∙ ap (λ r. done ++ map word r) (sym (drop_past xs at le)) ∙ filled.words

-- a word of so many bits is the number of them
pub number_small : (n value : ℕ) → value < 2 ^ n → number_of (bits_of n value) ≡ value
number_small n value lt = number_of-bits_of n value ∙ mod-eq_of_lt {n = value} {m = 2 ^ n} lt
