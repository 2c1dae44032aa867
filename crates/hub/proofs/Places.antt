-- The first place of a list that passes a test.
use Rattle.std.proofs.Common.{◌≡◌, ℕ, zero, suc, ◌+◌, ◌<◌, ◌≤◌, ◌==◌, Bool, true, false, cond, List, [], ◌∷◌, length, take, refl, ap, sym, subst, ◌∙◌, arith}
use Rattle.std.specs.List.{slice_index_or}
use Rattle.std.specs.Option.{option_map}
use Rattle.std.specs.declared.option.Option.{Option}
use Rattle.std.specs.declared.option.Option.TheVariants.{None, Some}
use Rattle.grant_table.specs.Layouts.{LayoutShape, first_place, grant_of}
use Rattle.client_session.specs.Sessions.{is_taken}
use Rattle.plays.specs.Stands.{HubView}
use Rattle.session_table.specs.Tables.{stand_at}
use Rattle.hub.specs.Served.{admitted_at, where_free}

some_none : {A B : Type 0} (a : A) → Some a ≡ None → B
some_none a is = absurd (let q : Some a ≡ None = is in cc)

none_before : {A B : Type 0} (f : A → B) (o : Option A) → option_map f o ≡ None → o ≡ None
none_before f None is = refl
none_before f (Some a) is = some_none (f a) is

pub place_found : {A : Type 0} (test : A → Bool) (xs : List A) (at : ℕ) (d : A) → at < length xs → first_place test (take at xs) ≡ None → test (slice_index_or xs at d) ≡ true → first_place test xs ≡ Some at
place_found test [] at d lt none passes = absurd (omega arith)
place_found test (x ∷ xs) zero d lt none passes = rw passes refl
place_found test (x ∷ xs) (suc at) d lt none passes = by (test x) none (λ before. place_found test xs at d (omega arith) before passes)
  where
    by : (b : Bool) → cond b (Some 0) (option_map suc (first_place test (take at xs))) ≡ None → (first_place test (take at xs) ≡ None → first_place test xs ≡ Some at)
        → cond b (Some 0) (option_map suc (first_place test xs)) ≡ Some (suc at)
    by true is later = some_none 0 is
    by false is later = ap (option_map suc) (later (none_before suc (first_place test (take at xs)) is))

place_next : {A : Type 0} (test : A → Bool) (xs : List A) (at : ℕ) (d : A) → at < length xs → first_place test (take at xs) ≡ None → test (slice_index_or xs at d) ≡ false → first_place test (take (suc at) xs) ≡ None
place_next test [] at d lt none fails = absurd (omega arith)
place_next test (x ∷ xs) zero d lt none fails = rw fails refl
place_next test (x ∷ xs) (suc at) d lt none fails = by (test x) none (λ before. place_next test xs at d (omega arith) before fails)
  where
    by : (b : Bool) → cond b (Some 0) (option_map suc (first_place test (take at xs))) ≡ None → (first_place test (take at xs) ≡ None → first_place test (take (suc at) xs) ≡ None)
        → cond b (Some 0) (option_map suc (first_place test (take (suc at) xs))) ≡ None
    by true is later = is
    by false is later = ap (option_map suc) (later (none_before suc (first_place test (take at xs)) is))

next_one : (at : ℕ) → suc at ≡ at + 1
next_one at = omega arith

pub place_more : {A : Type 0} (test : A → Bool) (xs : List A) (at : ℕ) (d : A) → at < length xs → first_place test (take at xs) ≡ None → test (slice_index_or xs at d) ≡ false → first_place test (take (at + 1) xs) ≡ None
place_more test xs at d lt none fails = subst (λ n. first_place test (take n xs) ≡ None) (next_one at) (place_next test xs at d lt none fails)

take_whole : {A : Type 0} (xs : List A) (at : ℕ) → length xs ≤ at → take at xs ≡ xs
take_whole [] zero h = refl
take_whole [] (suc at) h = refl
take_whole (x ∷ xs) zero h = absurd (omega arith)
take_whole (x ∷ xs) (suc at) h = ap (λ l. x ∷ l) (take_whole xs at (omega arith))

pub place_none : {A : Type 0} (test : A → Bool) (xs : List A) (at : ℕ) → length xs ≤ at → first_place test (take at xs) ≡ None → first_place test xs ≡ None
place_none test xs at le none = ap (first_place test) (sym (take_whole xs at le)) ∙ none

some_same : (a b : ℕ) → Some a ≡ Some b → a ≡ b
some_same a b is = let q : Some a ≡ Some b = is in cc

pub place_below : {A : Type 0} (test : A → Bool) (xs : List A) (at : ℕ) → first_place test xs ≡ Some at → at < length xs
place_below test [] at is = some_none at (sym is)
place_below test (x ∷ xs) at is = by (test x) (λ n. place_below test xs n) is
  where
    under : (o : Option ℕ) → ((n : ℕ) → o ≡ Some n → n < length xs) → option_map suc o ≡ Some at → at < suc (length xs)
    under None each is = some_none at (sym is)
    under (Some n) each is = let same : suc n ≡ at = some_same (suc n) at is in let less : n < length xs = each n refl in omega arith

    by : (b : Bool) → ((n : ℕ) → first_place test xs ≡ Some n → n < length xs) → cond b (Some 0) (option_map suc (first_place test xs)) ≡ Some at → at < suc (length xs)
    by true each is = let same : 0 ≡ at = some_same 0 at is in omega arith
    by false each is = under (first_place test xs) each is

-- what stands at the first place passes, and where there is none nothing passes
pub place_passes : {A : Type 0} (test : A → Bool) (xs : List A) (at : ℕ) (d : A) → first_place test xs ≡ Some at → test (slice_index_or xs at d) ≡ true
place_passes test [] at d is = some_none at (sym is)
place_passes test (x ∷ xs) at d is = by (test x) refl (λ n. place_passes test xs n d) is
  where
    under : (o : Option ℕ) → ((n : ℕ) → o ≡ Some n → test (slice_index_or xs n d) ≡ true) → option_map suc o ≡ Some at → test (slice_index_or (x ∷ xs) at d) ≡ true
    under None each is = some_none at (sym is)
    under (Some n) each is = subst (λ place. test (slice_index_or (x ∷ xs) place d) ≡ true) (some_same (suc n) at is) (each n refl)

    by : (b : Bool) → test x ≡ b → ((n : ℕ) → first_place test xs ≡ Some n → test (slice_index_or xs n d) ≡ true) → cond b (Some 0) (option_map suc (first_place test xs)) ≡ Some at → test (slice_index_or (x ∷ xs) at d) ≡ true
    by true passes each is = subst (λ place. test (slice_index_or (x ∷ xs) place d) ≡ true) (some_same 0 at is) passes
    by false passes each is = under (first_place test xs) each is

pub place_fails : {A : Type 0} (test : A → Bool) (xs : List A) (at : ℕ) (d : A) → test d ≡ false → first_place test xs ≡ None → test (slice_index_or xs at d) ≡ false
place_fails test [] at d is none = is
place_fails test (x ∷ xs) at d is none = by at (test x) refl none (λ place later. place_fails test xs place d is later)
  where
    by : (place : ℕ) (b : Bool) → test x ≡ b → cond b (Some 0) (option_map suc (first_place test xs)) ≡ None → ((place : ℕ) → first_place test xs ≡ None → test (slice_index_or xs place d) ≡ false) → test (slice_index_or (x ∷ xs) place d) ≡ false
    by place true passes none each = some_none 0 none
    by zero false fails none each = fails
    by (suc place) false fails none each = each place (none_before suc (first_place test xs) none)

pub granted_below : (layout : LayoutShape) (port grant : ℕ) → grant_of layout port ≡ Some grant → grant < length layout.grants
granted_below layout port grant is = place_below (λ shape. shape.port == port) layout.grants grant is

pub admitted_below : (hub : HubView) (port grant : ℕ) → admitted_at hub port ≡ Some grant → grant < length hub.layout.grants
admitted_below hub port grant is = by (grant_of hub.layout port) refl is
  where
    inside : (g : ℕ) (b : Bool) → grant_of hub.layout port ≡ Some g → cond b None (Some g) ≡ Some grant → grant < length hub.layout.grants
    inside g true at is = some_none grant (sym is)
    inside g false at is = granted_below hub.layout port grant (at ∙ is)

    by : (o : Option ℕ) → grant_of hub.layout port ≡ o → where_free hub o ≡ Some grant → grant < length hub.layout.grants
    by None at is = some_none grant (sym is)
    by (Some g) at is = inside g (is_taken (stand_at hub g)) at is
