-- Capitals of sixteen bytes, computed lane by lane.
use Rattle.std.proofs.Common.{◌≡◌, ℕ, ◌+◌, ◌-◌, ◌%◌, true, List, [], ◌∷◌, map, length, refl, ap₂, ◌∙◌, w8, Fits, eqb, cond, replicate, nat_lt}
use Rattle.std.proofs.lemmas.Bool.{agree_below, agree_below_at, eqb-true}
use Rattle.std.proofs.lemmas.Simd.{zip2_splat, zip2_of_maps, splat_is_map}
use Rattle.std.specs.Char.{to_ascii_uppercase}
use Rattle.std.specs.Simd.Lanes.{Each1, zip2, sel_l, top}

abbrev pub less : ℕ → ℕ → ℕ
less a b = (a + (256 - b)) % 256

abbrev pub below : ℕ → ℕ → ℕ
below a b = cond (nat_lt a b) 255 0

-- whether a byte is a small letter, as its lane says
abbrev is_small : ℕ → ℕ
is_small byte = below (less byte 97) 26

-- the lanes that are chosen between, each computed from its byte
chosen : (test f : ℕ → ℕ) (bytes : List ℕ) → sel_l (map (top 7) (map test bytes)) (map f bytes) bytes ≡ map (λ byte. cond (top 7 (test byte)) (f byte) byte) bytes
chosen test f [] = refl
chosen test f (byte ∷ bytes) = ap₂ (λ b bs. b ∷ bs) refl (chosen test f bytes)

-- functions that agree at every byte
agree : (f g : ℕ → ℕ) (bytes : List ℕ) → Each1 (Fits w8) bytes → agree_below (λ byte. eqb (f byte) (g byte)) (λ _. true) 256 ≡ true → map f bytes ≡ map g bytes
agree f g [] fits all = refl
agree f g (byte ∷ bytes) fits all = ap₂ (λ b bs. b ∷ bs) (eqb-true _ _ (agree_below_at (λ byte. eqb (f byte) (g byte)) (λ _. true) 256 byte all fits.0.fits)) (agree f g bytes fits.1 all)

pub capital_lanes : (bytes : List ℕ) → length bytes ≡ 16 → Each1 (Fits w8) bytes
    → sel_l (map (top 7) (zip2 below (zip2 less bytes (replicate 16 97)) (replicate 16 26))) (zip2 less bytes (replicate 16 32)) bytes ≡ map to_ascii_uppercase bytes
capital_lanes bytes long fits =
    let from_letter = zip2_splat less bytes 16 97 long in
    let small = zip2_of_maps below (λ byte. less byte 97) (λ _. 26) bytes from_letter (splat_is_map bytes 16 26 long) in
    let capital = zip2_splat less bytes 16 32 long in
    ap₂ (λ tests capitals. sel_l (map (top 7) tests) capitals bytes) small capital ∙ chosen is_small (λ byte. less byte 32) bytes
    ∙ agree (λ byte. cond (top 7 (is_small byte)) (less byte 32) byte) to_ascii_uppercase bytes fits refl
