-- Codes that are the same.
use Rattle.std.proofs.Common.{◌≡◌, Bool, true, false, List, [], ◌∷◌, refl, ap}
use Rattle.scan_share.specs.Scans.{same_bits, same_codes}

never : {A : Type 0} → false ≡ true → A
never e = absurd (let q : false ≡ true = e in cc)

pub same_bits_true : (xs ys : List Bool) → same_bits xs ys ≡ true → xs ≡ ys
same_bits_true [] [] is = refl
same_bits_true [] (true ∷ ys) is = never is
same_bits_true [] (false ∷ ys) is = never is
same_bits_true (true ∷ xs) [] is = never is
same_bits_true (false ∷ xs) [] is = never is
same_bits_true (true ∷ xs) (true ∷ ys) is = ap (λ q. true ∷ q) (same_bits_true xs ys is)
same_bits_true (true ∷ xs) (false ∷ ys) is = never is
same_bits_true (false ∷ xs) (true ∷ ys) is = never is
same_bits_true (false ∷ xs) (false ∷ ys) is = ap (λ q. false ∷ q) (same_bits_true xs ys is)

pub same_bits_self : (xs : List Bool) → same_bits xs xs ≡ true
same_bits_self [] = refl
same_bits_self (true ∷ xs) = same_bits_self xs
same_bits_self (false ∷ xs) = same_bits_self xs

pub same_codes_true : (xs ys : List (List Bool)) → same_codes xs ys ≡ true → xs ≡ ys
same_codes_true [] [] is = refl
same_codes_true [] (y ∷ ys) is = never is
same_codes_true (x ∷ xs) [] is = never is
same_codes_true (x ∷ xs) (y ∷ ys) is = by (same_codes_true xs ys) (same_bits x y) refl
  where
    by : (same_codes xs ys ≡ true → xs ≡ ys) → (t : Bool) → same_bits x y ≡ t → (x ∷ xs) ≡ (y ∷ ys)
    by rest true h =
        let more : same_codes xs ys ≡ true = (let e = rw h at is in e) in
        λ i. same_bits_true x y h i ∷ rest more i
    by rest false h = never (let e = rw h at is in e)

pub same_codes_self : (xs : List (List Bool)) → same_codes xs xs ≡ true
same_codes_self [] = refl
same_codes_self (x ∷ xs) = rw (same_bits_self x) (same_codes_self xs)
