-- Lists of seats and of grants that wait.
use Rattle.std.proofs.Common.{◌≡◌, ◌≢◌, ℕ, zero, suc, ◌≤◌, Bool, true, false, not, ◌||◌, cond, List, [], ◌∷◌, ◌++◌, length, refl, ap, sym, ◌∙◌, arith, inl, inr, ◌⊎◌, nat_eq}
use Rattle.std.specs.List.{slice_index_or, slice_set}
use Rattle.std.proofs.lemmas.Bool.{eqb-true, eq-eqb}
use Rattle.plays.specs.Plays.{is_among, with_waiting, without}

-- the entry at a place that was set, in range or not
pub own_or_same : {A : Type 0} (l : List A) (i : ℕ) (a d : A) → (slice_index_or (slice_set l i a) i d ≡ a) ⊎ (slice_index_or (slice_set l i a) i d ≡ slice_index_or l i d)
own_or_same [] i a d = inr refl
own_or_same (x ∷ l) zero a d = inl refl
own_or_same (x ∷ l) (suc i) a d = own_or_same l i a d

-- past the end there is the default
pub past_end : {A : Type 0} (l : List A) (i : ℕ) (d : A) → length l ≤ i → slice_index_or l i d ≡ d
past_end [] i d h = refl
past_end (x ∷ l) zero d h = absurd (omega arith)
past_end (x ∷ l) (suc i) d h = past_end l i d (omega arith)

pub not_eq : (a b : ℕ) → a ≢ b → nat_eq a b ≡ false
not_eq a b h = go (nat_eq a b) refl
  where
    go : (t : Bool) → nat_eq a b ≡ t → t ≡ false
    go true e = absurd (h (eqb-true a b e))
    go false e = refl

pub false_true : {A : Type 0} → false ≡ true → A
false_true e = absurd (let q : false ≡ true = e in cc)

or_assoc : (a b c : Bool) → (a || (b || c)) ≡ ((a || b) || c)
or_assoc true b c = refl
or_assoc false b c = refl

pub among-append : (g : ℕ) (xs ys : List ℕ) → is_among g (xs ++ ys) ≡ (is_among g xs || is_among g ys)
among-append g [] ys = refl
among-append g (x ∷ xs) ys = ap (λ t. nat_eq x g || t) (among-append g xs ys) ∙ or_assoc (nat_eq x g) (is_among g xs) (is_among g ys)

pub among-without_same : (g : ℕ) (w : List ℕ) → is_among g (without g w) ≡ false
among-without_same g [] = refl
among-without_same g (x ∷ w) = go (nat_eq x g) refl (among-without_same g w)
  where
    go : (t : Bool) → nat_eq x g ≡ t → is_among g (without g w) ≡ false → is_among g (cond (not t) (x ∷ without g w) (without g w)) ≡ false
    go true e rest = rest
    go false e rest = rw e rest

pub among-without_other : (g g0 : ℕ) (w : List ℕ) → g ≢ g0 → is_among g (without g0 w) ≡ is_among g w
among-without_other g g0 [] h = refl
among-without_other g g0 (x ∷ w) h = go (nat_eq x g0) refl (among-without_other g g0 w h)
  where
    go : (t : Bool) → nat_eq x g0 ≡ t → is_among g (without g0 w) ≡ is_among g w → is_among g (cond (not t) (x ∷ without g0 w) (without g0 w)) ≡ (nat_eq x g || is_among g w)
    go true e rest = rw (not_eq x g (λ k. h (sym k ∙ eqb-true x g0 e))) rest
    go false e rest = ap (λ t. nat_eq x g || t) rest

pub among-with_same : (g : ℕ) (w : List ℕ) → is_among g (with_waiting g w) ≡ true
among-with_same g w = go (is_among g w) refl
  where
    go : (t : Bool) → is_among g w ≡ t → is_among g (cond t w (w ++ g ∷ [])) ≡ true
    go true e = e
    go false e = among-append g w (g ∷ []) ∙ rw (e, eq-eqb g g refl) refl

pub among-with_other : (g g0 : ℕ) (w : List ℕ) → g ≢ g0 → is_among g (with_waiting g0 w) ≡ is_among g w
among-with_other g g0 w h = go (is_among g0 w)
  where
    or_false : (t : Bool) → (t || false) ≡ t
    or_false true = refl
    or_false false = refl

    go : (t : Bool) → is_among g (cond t w (w ++ g0 ∷ [])) ≡ is_among g w
    go true = refl
    go false = among-append g w (g0 ∷ []) ∙ rw (not_eq g0 g (λ k. h (sym k))) (or_false (is_among g w))
