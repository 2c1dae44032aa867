-- The stages of a chain under a row of shifts that replaces them all.
use Rattle.std.proofs.Common.{◌≡◌, ℕ, Bool, List, [], ◌∷◌, ◌++◌, length, take, drop, map, refl, ap, sym, ◌∙◌, arith, length-append}
use Rattle.scan_bits.specs.Registers.{lowest_or, shifted_all, joined, shifted_stages}
use Rattle.scan_bits.proofs.Queue.{joined-shifted, length-shifted, queue_rest}

-- the stages after a row of shifts
abbrev pub stages_after : List Bool → List (List Bool) → List (List Bool)
stages_after [] stages = stages
stages_after (bit ∷ bits) stages = stages_after bits (shifted_stages bit stages)

pub lengths-shifted : (stages : List (List Bool)) (tdi : Bool) → map length (shifted_stages tdi stages) ≡ map length stages
lengths-shifted [] tdi = refl
lengths-shifted (stage ∷ stages) tdi = λ i. length-shifted stage tdi i ∷ lengths-shifted stages (lowest_or tdi stage) i

pub lengths-after : (bits : List Bool) (stages : List (List Bool)) → map length (stages_after bits stages) ≡ map length stages
lengths-after [] stages = refl
lengths-after (bit ∷ bits) stages = lengths-after bits (shifted_stages bit stages) ∙ lengths-shifted stages bit

pub joined-after : (bits : List Bool) (stages : List (List Bool)) → joined (stages_after bits stages) ≡ shifted_all (joined stages) bits
joined-after [] stages = refl
joined-after (bit ∷ bits) stages = joined-after bits (shifted_stages bit stages) ∙ ap (λ r. shifted_all r bits) (joined-shifted stages bit)

abbrev head_of : List ℕ → ℕ
head_of [] = 0
head_of (n ∷ ns) = n

abbrev tail_of : List ℕ → List ℕ
tail_of [] = []
tail_of (n ∷ ns) = ns

-- stages of the same lengths are as long together
pub length-joined : (xs ys : List (List Bool)) → map length xs ≡ map length ys → length (joined xs) ≡ length (joined ys)
length-joined [] [] same = refl
length-joined [] (y ∷ ys) same = absurd (omega (arith, ap length same))
length-joined (x ∷ xs) [] same = absurd (omega (arith, ap length same))
length-joined (x ∷ xs) (y ∷ ys) same =
    let first : length x ≡ length y = ap head_of same in
    omega (arith, length-joined xs ys (ap tail_of same), length-append (joined xs) x, length-append (joined ys) y)

pub same_joined : (xs ys : List (List Bool)) → map length xs ≡ map length ys → joined xs ≡ joined ys → xs ≡ ys
same_joined [] [] same is = refl
same_joined [] (y ∷ ys) same is = absurd (omega (arith, ap length same))
same_joined (x ∷ xs) [] same is = absurd (omega (arith, ap length same))
same_joined (x ∷ xs) (y ∷ ys) same is =
    let short : length (joined xs) ≡ length (joined ys) = length-joined xs ys (ap tail_of same) in
    let fronts : joined xs ≡ joined ys = sym (take-front (joined xs) x) ∙ (λ i. take (short i) (is i)) ∙ take-front (joined ys) y in
    let backs : x ≡ y = sym (drop-front (joined xs) x) ∙ (λ i. drop (short i) (is i)) ∙ drop-front (joined ys) y in
    λ i. backs i ∷ same_joined xs ys (ap tail_of same) fronts i
  where
    take-front : (a b : List Bool) → take (length a) (a ++ b) ≡ a
    take-front [] b = refl
    take-front (e ∷ a) b = ap (λ q. e ∷ q) (take-front a b)

    drop-front : (a b : List Bool) → drop (length a) (a ++ b) ≡ b
    drop-front [] b = refl
    drop-front (e ∷ a) b = drop-front a b

-- as many bits as the stages hold replace them
pub refilled : (stages goal : List (List Bool)) → map length goal ≡ map length stages → stages_after (joined goal) stages ≡ goal
refilled stages goal same =
    let size : length (joined goal) ≡ length (joined stages) = length-joined goal stages same in
    same_joined (stages_after (joined goal) stages) goal (lengths-after (joined goal) stages ∙ sym same)
    (joined-after (joined goal) stages ∙ queue_rest (joined stages) (joined goal) (omega (arith, size)) ∙ ap (λ q. q ++ joined goal) (ap (λ n. drop n (joined stages)) size ∙ drop_all (joined stages)))
  where
    drop_all : (a : List Bool) → drop (length a) a ≡ []
    drop_all [] = refl
    drop_all (e ∷ a) = drop_all a
