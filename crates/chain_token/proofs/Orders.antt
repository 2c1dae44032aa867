-- A queue of grants has room for each that is not in it, and serves its first.
use Rattle.std.proofs.Common.{◌≡◌, ◌<◌, ℕ, Bool, true, false, ◌||◌, nat_eq, List, [], ◌∷◌, ◌++◌, length, refl, sym, ap, ◌∙◌, arith, None}
use Rattle.std.proofs.Math.Dec.{eqb}
use Rattle.std.proofs.lemmas.Bool.{eqb-true, eq-eqb}
use Rattle.std.proofs.lemmas.Map.Steps.{length-le_from_distinct_below}
use Rattle.std.specs.List.{IsDistinct, AllByRecursion, list_any, remove}
use Rattle.chain_token.specs.Waiting.{IsQueue, is_among, with_waiting, without, may_open}

not_equal : (x y : ℕ) → nat_eq y x ≡ false → eqb x y ≡ false
not_equal x y h = go (eqb x y) refl
  where
    go : (t : Bool) → eqb x y ≡ t → t ≡ false
    go true e = absurd (let same : true ≡ false = sym (eq-eqb y x (sym (eqb-true x y e))) ∙ h in cc)
    go false e = refl

either_false : (a b : Bool) → (a || b) ≡ false → (a ≡ false) × (b ≡ false)
either_false true b h = absurd (let e : true ≡ false = h in cc)
either_false false b h = (refl, h)

none_equal : (x : ℕ) (ys : List ℕ) → is_among x ys ≡ false → AllByRecursion (λ y. eqb x y ≡ false) ys
none_equal x [] h = tt
none_equal x (y ∷ ys) h =
    let parts = either_false (nat_eq y x) (is_among x ys) h in
    (not_equal x y parts.0, none_equal x ys parts.1)

distinct : (xs : List ℕ) → IsQueue xs → IsDistinct eqb xs
unfolding IsDistinct
distinct [] q = tt
distinct (x ∷ xs) q = (none_equal x xs q.1, distinct xs q.2)

below : (xs : List ℕ) → IsQueue xs → (g : ℕ) → list_any (eqb g) xs ≡ true → g < 16
below [] q g h = absurd (let e : false ≡ true = h in cc)
below (x ∷ xs) q g h = go (eqb g x) refl h (below xs q.2 g)
  where
    go : (t : Bool) → eqb g x ≡ t → (t || list_any (eqb g) xs) ≡ true → (list_any (eqb g) xs ≡ true → g < 16) → g < 16
    go true e k rest = let same : g ≡ x = eqb-true g x e in omega (arith, q.0, same)
    go false e k rest = rest k

-- a grant that does not wait finds room
pub has_room : (xs : List ℕ) (g : ℕ) → IsQueue xs → g < 16 → is_among g xs ≡ false → length xs < 16
has_room xs g q lt apart =
    let more : IsQueue (g ∷ xs) = (lt, apart, q) in
    omega (arith, length-le_from_distinct_below (g ∷ xs) 16 (distinct (g ∷ xs) more) (below (g ∷ xs) more))

others_apart : (x g : ℕ) (xs : List ℕ) → is_among x xs ≡ false → nat_eq g x ≡ false → is_among x (xs ++ g ∷ []) ≡ false
others_apart x g [] h k = rw k refl
others_apart x g (y ∷ ys) h k =
    let parts = either_false (nat_eq y x) (is_among x ys) h in
    rw parts.0 (others_apart x g ys parts.1 k)

equal_flip : (x g : ℕ) → nat_eq x g ≡ false → nat_eq g x ≡ false
equal_flip x g h = not_equal g x h

-- and is a queue's last then
pub joined : (xs : List ℕ) (g : ℕ) → IsQueue xs → g < 16 → is_among g xs ≡ false → IsQueue (xs ++ g ∷ [])
joined [] g q lt apart = (lt, refl, tt)
joined (x ∷ xs) g q lt apart =
    let parts = either_false (nat_eq x g) (is_among g xs) apart in
    (q.0, others_apart x g xs q.1 (equal_flip x g parts.0), joined xs g q.2 lt parts.1)

pub joined_is : (xs : List ℕ) (g : ℕ) → is_among g xs ≡ false → xs ++ g ∷ [] ≡ with_waiting g xs
joined_is xs g apart = rw apart refl

all_stay : (g : ℕ) (xs : List ℕ) → is_among g xs ≡ false → without g xs ≡ xs
all_stay g [] h = refl
all_stay g (x ∷ xs) h =
    let parts = either_false (nat_eq x g) (is_among g xs) h in
    rw parts.0 (ap (λ rest. x ∷ rest) (all_stay g xs parts.1))

-- the first to be served leaves the rest
pub served : (xs ys : List ℕ) (g : ℕ) → IsQueue xs → may_open None xs g ≡ true → 0 < length xs → ys ≡ remove xs 0 → ys ≡ without g xs
served [] ys g q may some is = absurd (omega arith)
served (x ∷ xs) ys g q may some is =
    let same : x ≡ g = eqb-true x g may in
    rw may (is ∙ sym (all_stay g xs (ap (λ k. is_among k xs) (sym same) ∙ q.1)))
