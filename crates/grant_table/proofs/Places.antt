-- The places of a grant's devices, found one after another.
use Rattle.std.proofs.Common.{◌≡◌, ℕ, suc, ◌+◌, ◌-◌, ◌<◌, Bool, true, false, cond, List, [], ◌∷◌, ◌++◌, refl, ap, sym, ◌∙◌, arith, append_assoc}
use Rattle.std.specs.List.{filter}
use Rattle.grant_table.specs.Faults.{is_one_of, places_from}

-- the places from one on that are devices of these
abbrev pub places_of : List ℕ → ℕ → ℕ → List ℕ
places_of devices count at = filter (λ place. is_one_of (suc place) devices) (places_from at (count - at))

-- the places so far, with one more where it passes
abbrev kept : Bool → List ℕ → ℕ → List ℕ
kept t before at = cond t (before ++ at ∷ []) before

splits : (t : Bool) (before rest : List ℕ) (at : ℕ) → kept t before at ++ rest ≡ before ++ cond t (at ∷ rest) rest
splits true before rest at = append_assoc before (at ∷ []) rest
splits false before rest at = refl

pub place_passes : (devices before after : List ℕ) (at count : ℕ) (t : Bool) (all : List ℕ) → at < count → t ≡ is_one_of (at + 1) devices → after ≡ kept t before at
    → before ++ places_of devices count at ≡ all → after ++ places_of devices count (at + 1) ≡ all
place_passes devices before after at count t all lt test is so =
    let left : count - at ≡ suc (count - (at + 1)) = omega (arith, lt) in
    let next : at + 1 ≡ suc at = omega arith in
    let same : places_of devices count at ≡ cond t (at ∷ places_of devices count (at + 1)) (places_of devices count (at + 1)) =
    ap (λ n. filter (λ place. is_one_of (suc place) devices) (places_from at n)) left
    ∙ (λ i. cond (sym (test ∙ ap (λ n. is_one_of n devices) next) i) (at ∷ filter (λ place. is_one_of (suc place) devices) (places_from (sym next i) (count - (at + 1)))) (filter (λ place. is_one_of (suc place) devices) (places_from (sym next i) (count - (at + 1))))) in
    ap (λ list. list ++ places_of devices count (at + 1)) is ∙ splits t before (places_of devices count (at + 1)) at ∙ ap (λ rest. before ++ rest) (sym same) ∙ so
