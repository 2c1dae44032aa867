-- From a mask of lanes to the run of bytes at their front.
use Rattle.std.proofs.Common.{◌≡◌, ℕ, ◌+◌, ◌-◌, ◌%◌, ◌^◌, ◌≤◌, ◌<◌, Bool, true, not, List, [], ◌∷◌, map, length, take, drop, refl, sym, ap, ap₂, ◌∙◌, arith, w8, Fits, eqb, leb, cond, replicate, length-take, length-drop}
use Rattle.std.proofs.Math.Bool.{not-not}
use Rattle.std.proofs.lemmas.Bool.{agree_below, agree_below_at, eq-eqb, ne_eqb, cond-true, cond-false}
use Rattle.std.proofs.lemmas.Simd.{zip2_of_maps, zip2_splat, splat_is_map, map-map, mask_l-mod, leading_from_mask_l, trailing_mask_l}
use Rattle.std.proofs.lemmas.List.{length-map, take-append-drop, drop-drop}
use Rattle.std.proofs.lemmas.List.Folds.{prefix_len-append}
use Rattle.std.proofs.lemmas.List.Sums.{prefix_len-le-length}
use Rattle.std.specs.List.{prefix_len}
use Rattle.std.specs.Int.Count.{count_trailing_zeros}
use Rattle.std.specs.Simd.Lanes.{Each1, zip2, mask_l, top}

-- What is computed lane by lane from sixteen bytes, each lane by a function of its byte.

pub joined : (h : ℕ → ℕ → ℕ) (f g : ℕ → ℕ) (bytes : List ℕ) {a b : List ℕ} → a ≡ map f bytes → b ≡ map g bytes → zip2 h a b ≡ map (λ byte. h (f byte) (g byte)) bytes
joined h f g bytes is_a is_b = zip2_of_maps h f g bytes is_a is_b

pub with_splat : (h : ℕ → ℕ → ℕ) (bytes : List ℕ) (y : ℕ) → length bytes ≡ 16 → zip2 h bytes (replicate 16 y) ≡ map (λ byte. h byte y) bytes
with_splat h bytes y long = zip2_splat h bytes 16 y long

pub splat : (bytes : List ℕ) (y : ℕ) → length bytes ≡ 16 → replicate 16 y ≡ map (λ _. y) bytes
splat bytes y long = splat_is_map bytes 16 y long

abbrev pub at_most : ℕ → ℕ → ℕ
at_most a b = cond (leb a b) 255 0

abbrev pub less : ℕ → ℕ → ℕ
less a b = (a + (256 - b)) % 256

-- tests that agree at every byte
agree : (f g : ℕ → Bool) (bytes : List ℕ) → Each1 (Fits w8) bytes → agree_below f g 256 ≡ true → map f bytes ≡ map g bytes
agree f g [] fits all = refl
agree f g (byte ∷ bytes) fits all = ap₂ (λ b bs. b ∷ bs) (agree_below_at f g 256 byte all fits.0.fits) (agree f g bytes fits.1 all)

-- the mask of lanes that were computed from bytes
pub mask_of : (f : ℕ → ℕ) (test : ℕ → Bool) (bytes lanes : List ℕ) → (length bytes ≡ 16) × Each1 (Fits w8) bytes → lanes ≡ map f bytes
    → agree_below (λ byte. top 7 (f byte)) test 256 ≡ true → mask_l (map (top 7) lanes) % 2 ^ 64 ≡ mask_l (map test bytes)
mask_of f test bytes lanes fits are all =
    let tests : map (top 7) lanes ≡ map test bytes = ap (map (top 7)) are ∙ map-map (top 7) f bytes ∙ agree (λ byte. top 7 (f byte)) test bytes fits.1 all in
    ap (λ ms. mask_l ms % 2 ^ 64) tests ∙ mask_l-mod (map test bytes) 64 (omega (arith, length-map bytes test, fits.0))

twice : (test : ℕ → Bool) (bytes : List ℕ) → prefix_len (λ byte. not (not (test byte))) bytes ≡ prefix_len test bytes
twice test [] = refl
twice test (byte ∷ bytes) = ap₂ (λ b n. cond b (1 + n) 0) (not-not (test byte)) (twice test bytes)

-- no byte ends the run
pub all_lead : (test : ℕ → Bool) (bytes : List ℕ) (mask : ℕ) → length bytes ≡ 16 → mask ≡ mask_l (map (λ byte. not (test byte)) bytes) → mask ≡ 0 → 16 ≡ prefix_len test bytes
all_lead test bytes mask long is none = sym long ∙ sym (leading_from_mask_l (λ byte. not (test byte)) bytes (sym is ∙ none)) ∙ twice test bytes

-- the lowest bit is the byte that ends it
pub some_lead : (test : ℕ → Bool) (bytes : List ℕ) (mask : ℕ) → length bytes ≡ 16 → mask ≡ mask_l (map (λ byte. not (test byte)) bytes) → 0 < mask → count_trailing_zeros 64 mask ≡ prefix_len test bytes
some_lead test bytes mask long is some =
    rw is (trailing_mask_l (λ byte. not (test byte)) 64 bytes (omega (arith, long)) (omega (arith, is, some)) ∙ twice test bytes)

-- Sixteen bytes of a text from `count` on, of which the first `more` go on with a run.
module _ (test : ℕ → Bool) (text rest : List ℕ) (count more : ℕ) (is_rest : rest ≡ drop count text) (room : 16 ≤ length text - count) (is : more ≡ prefix_len test (take 16 rest)) where
  long : length (take 16 rest) ≡ 16
  long = omega (arith, length-take 16 rest, ap length is_rest, length-drop count text)

  few : more ≤ 16
  few = omega (arith, is, long, prefix_len-le-length test (take 16 rest))

  run_is : prefix_len test (drop count text) ≡ cond (eqb more 16) (16 + prefix_len test (drop 16 rest)) more
  run_is =
      ap (prefix_len test) (sym is_rest ∙ sym (take-append-drop 16 rest)) ∙ prefix_len-append test (take 16 rest) (drop 16 rest)
      ∙ (λ i. cond (eqb (sym is i) (long i)) (long i + prefix_len test (drop 16 rest)) (sym is i))

  pub step_within : count + more ≤ length text
  step_within = omega (arith, few)

  -- the run ends among them
  pub step_ends : (total : ℕ) → count + prefix_len test (drop count text) ≡ total → more < 16 → count + more ≡ total
  step_ends total so_far lt =
      let ends : prefix_len test (drop count text) ≡ more = run_is ∙ cond-false (eqb more 16) _ _ (ne_eqb more 16 (λ e. omega (arith, lt, e))) in
      omega (arith, ends, so_far)

  -- or goes on behind them
  pub step_goes_on : (total : ℕ) → count + prefix_len test (drop count text) ≡ total → 16 ≤ more → count + more + prefix_len test (drop (count + more) text) ≡ total
  step_goes_on total so_far ge =
      let all : more ≡ 16 = omega (arith, few, ge) in
      let behind : drop 16 rest ≡ drop (count + 16) text = ap (drop 16) is_rest ∙ drop-drop 16 count text in
      let goes_on : prefix_len test (drop count text) ≡ 16 + prefix_len test (drop 16 rest) = run_is ∙ cond-true (eqb more 16) _ _ (eq-eqb more 16 all) in
      rw (all, sym behind) (omega (arith, goes_on, so_far))
