-- A scan of the shared chain is the group's own bits, and one for each other device.
use Rattle.std.proofs.Common.{◌≡◌, ◌≢◌, ℕ, suc, ◌+◌, ◌-◌, ◌≤◌, ◌<◌, Bool, true, false, cond, ◌||◌, List, [], ◌∷◌, length, replicate, refl, ap, subst, ◌∙◌, arith, inl, inr, nat_eq}
use Rattle.std.specs.Prelude.{slice_get}
use Rattle.std.specs.List.{sum_by, filter_map, cons_option}
use Rattle.std.proofs.lemmas.List.Sums.{sum_by-cons}
use Rattle.std.proofs.lemmas.Bool.{eq-eqb, ne_eqb}
use Rattle.std.proofs.lemmas.Bool.Decides.{eqb_tells}
use Rattle.part_model.specs.Parts.{DeviceType, width, length_of}
use Rattle.part_model.proofs.Bypass.{selected-ones}
use Rattle.grant_table.specs.Layouts.{LayoutShape}
use Rattle.grant_table.specs.Faults.{is_one_of}
use Rattle.grant_table.specs.Apart.{RisesFrom}
use Rattle.scan_share.specs.PrivateChains.{entries_at}
use Rattle.scan_share.specs.Scans.{widths_during, code_during, codes_from, scan_length}
use Rattle.scan_share.specs.Lengths.{HasCodes, own_length}

abbrev pub sum : List ℕ → ℕ
sum ws = sum_by (λ w. w) ws

pub sum_cons : (w : ℕ) (ws : List ℕ) → sum (w ∷ ws) ≡ w + sum ws
sum_cons w ws = sum_by-cons (λ n. n) w ws

-- the group's entries, where the list begins at a place
abbrev pub entries_from : {X : Type 0} → ℕ → List X → List ℕ → List X
entries_from place all group = filter_map (λ p. slice_get all (p - place)) group

-- all places are at least this, and below that
abbrev pub Above : ℕ → List ℕ → Type 0
Above low [] = Unit {0}
Above low (place ∷ group) = (low ≤ place) × Above low group

abbrev pub Below : ℕ → List ℕ → Type 0
Below high [] = Unit {0}
Below high (place ∷ group) = (place < high) × Below high group

pub lower : (low more : ℕ) (group : List ℕ) → low ≤ more → Above more group → Above low group
lower low more [] le above = _
lower low more (place ∷ group) le above = (let a : more ≤ place = above.0 in omega (arith, le, a), lower low more group le above.1)

pub rises_above : (low : ℕ) (group : List ℕ) → RisesFrom low group → Above low group
rises_above low [] rises = _
rises_above low (place ∷ group) rises = let a : low ≤ place = rises.0 in (a, lower low (suc place) group (omega (arith, a)) (rises_above (suc place) group rises.1))

pub below_all : (high : ℕ) (group : List ℕ) → ((place : ℕ) → is_one_of place group ≡ true → place < high) → Below high group
below_all high [] within = _
below_all high (first ∷ group) within =
    (within first (rw (eq-eqb first first refl) refl), below_all high group (λ place h. within place (second (nat_eq first place) (is_one_of place group) h)))
  where
    second : (a b : Bool) → b ≡ true → (a || b) ≡ true
    second true b h = refl
    second false b h = h

pub raised_below : (place count : ℕ) (group : List ℕ) → Below (place + suc count) group → Below (suc place + count) group
raised_below place count group below = subst (λ high. Below high group) (omega arith) below

-- a place that is passed makes no difference
pub shifted_entries : {X : Type 0} (place : ℕ) (part : X) (parts : List X) (group : List ℕ) → Above (suc place) group
    → entries_from place (part ∷ parts) group ≡ entries_from (suc place) parts group
shifted_entries place part parts [] above = refl
shifted_entries place part parts (first ∷ group) above =
    let a : suc place ≤ first = above.0 in
    let e : first - place ≡ suc (first - suc place) = omega (arith, a) in
    rw e (ap (cons_option (slice_get parts (first - suc place))) (shifted_entries place part parts group above.1))

pub passed_codes : (first : ℕ) (code : List Bool) (group : List ℕ) (codes : List (List Bool)) (from : ℕ) (parts : List DeviceType) → first < from
    → codes_from (first ∷ group) (code ∷ codes) from parts ≡ codes_from group codes from parts
passed_codes first code group codes from [] lt = refl
passed_codes first code group codes from (part ∷ parts) lt =
    let n : nat_eq first from ≡ false = ne_eqb first from (λ e. omega (arith, e, lt)) in
    rw n (ap (λ rest. code_during group codes from (replicate part.ir_length true) ∷ rest) (passed_codes first code group codes (suc from) parts (omega (arith, lt))))

pub others_are_ones : (group : List ℕ) (codes : List (List Bool)) (place : ℕ) (ones : List Bool) → Above (suc place) group → code_during group codes place ones ≡ ones
others_are_ones [] codes place ones above = refl
others_are_ones (first ∷ group) [] place ones above = refl
others_are_ones (first ∷ group) (code ∷ codes) place ones above =
    let a : suc place ≤ first = above.0 in
    let n : nat_eq first place ≡ false = ne_eqb first place (λ e. omega (arith, e, a)) in
    rw n (others_are_ones group codes place ones above.1)

pub one_bit : (part : DeviceType) (n : ℕ) → width part (replicate n true) ≡ 1
one_bit part n = ap (length_of part) (selected-ones part n)

abbrev all_bits : ℕ → List DeviceType → List ℕ → List (List Bool) → ℕ
all_bits place parts group codes = sum (widths_during parts (codes_from group codes place parts))

abbrev own_bits : ℕ → List DeviceType → List ℕ → List (List Bool) → ℕ
own_bits place parts group codes = sum (widths_during (entries_from place parts group) codes)

-- a device that is not in the group adds one bit
other_device : (place : ℕ) (part : DeviceType) (parts : List DeviceType) (group : List ℕ) (codes : List (List Bool)) → Above (suc place) group
    → all_bits (suc place) parts group codes + length group ≡ own_bits (suc place) parts group codes + length parts
    → all_bits place (part ∷ parts) group codes + length group ≡ own_bits place (part ∷ parts) group codes + suc (length parts)
other_device place part parts group codes above same =
    let bits : all_bits place (part ∷ parts) group codes ≡ 1 + all_bits (suc place) parts group codes =
    sum_cons (width part (code_during group codes place (replicate part.ir_length true))) (widths_during parts (codes_from group codes (suc place) parts))
    ∙ ap (λ code. width part code + all_bits (suc place) parts group codes) (others_are_ones group codes place (replicate part.ir_length true) above)
    ∙ ap (λ n. n + all_bits (suc place) parts group codes) (one_bit part part.ir_length) in
    let own : own_bits place (part ∷ parts) group codes ≡ own_bits (suc place) parts group codes =
    ap (λ entries. sum (widths_during entries codes)) (shifted_entries place part parts group above) in
    omega (arith, bits, own, same)

-- a device of the group adds its own bits
own_device : (place first : ℕ) (part : DeviceType) (parts : List DeviceType) (group : List ℕ) (code : List Bool) (codes : List (List Bool)) → first ≡ place → Above (suc place) group
    → all_bits (suc place) parts group codes + length group ≡ own_bits (suc place) parts group codes + length parts
    → all_bits place (part ∷ parts) (first ∷ group) (code ∷ codes) + suc (length group) ≡ own_bits place (part ∷ parts) (first ∷ group) (code ∷ codes) + suc (length parts)
own_device place first part parts group code codes is above same =
    let here : nat_eq first place ≡ true = eq-eqb first place is in
    let bits : all_bits place (part ∷ parts) (first ∷ group) (code ∷ codes) ≡ width part code + all_bits (suc place) parts group codes =
    sum_cons (width part (code_during (first ∷ group) (code ∷ codes) place (replicate part.ir_length true))) (widths_during parts (codes_from (first ∷ group) (code ∷ codes) (suc place) parts))
    ∙ ap (λ t. width part (cond t code (code_during group codes place (replicate part.ir_length true))) + all_bits (suc place) parts (first ∷ group) (code ∷ codes)) here
    ∙ ap (λ cs. width part code + sum (widths_during parts cs)) (passed_codes first code group codes (suc place) parts (omega (arith, is))) in
    let zero_is : first - place ≡ 0 = omega (arith, is) in
    let own : own_bits place (part ∷ parts) (first ∷ group) (code ∷ codes) ≡ width part code + own_bits (suc place) parts group codes =
    ap (λ at. sum (widths_during (cons_option (slice_get (part ∷ parts) at) (entries_from place (part ∷ parts) group)) (code ∷ codes))) zero_is
    ∙ ap (λ entries. sum (widths_during (part ∷ entries) (code ∷ codes))) (shifted_entries place part parts group above)
    ∙ sum_cons (width part code) (widths_during (entries_from (suc place) parts group) codes) in
    omega (arith, bits, own, same)

own_and_others : (parts : List DeviceType) (place : ℕ) (group : List ℕ) (codes : List (List Bool)) → RisesFrom place group → Below (place + length parts) group → length codes ≡ length group
    → all_bits place parts group codes + length group ≡ own_bits place parts group codes + length parts
own_and_others [] place [] codes rises below size = refl
own_and_others [] place (first ∷ group) codes rises below size = let a : place ≤ first = rises.0 in let b : first < place + 0 = below.0 in absurd (omega (arith, a, b))
own_and_others (part ∷ parts) place [] codes rises below size = other_device place part parts [] codes _ (own_and_others parts (suc place) [] codes _ _ size)
own_and_others (part ∷ parts) place (first ∷ group) [] rises below size = absurd (let s : 0 ≡ suc (length group) = size in omega arith)
own_and_others (part ∷ parts) place (first ∷ group) (code ∷ codes) rises below size =
    elim (eqb_tells first place) [
      | inl same ↦
          let is : first ≡ place = same.1 in
          let later : RisesFrom (suc place) group = subst (λ n. RisesFrom (suc n) group) is rises.1 in
          own_device place first part parts group code codes is (rises_above (suc place) group later)
          (own_and_others parts (suc place) group codes later (raised_below place (length parts) group below.1) (omega (arith, size)))
      | inr apart ↦
          let a : place ≤ first = rises.0 in
          let n : first ≢ place = apart.1 in
          let lt : suc place ≤ first = omega (arith, a, n) in
          let later : RisesFrom (suc place) (first ∷ group) = (lt, rises.1) in
          other_device place part parts (first ∷ group) (code ∷ codes) (rises_above (suc place) (first ∷ group) later)
          (own_and_others parts (suc place) (first ∷ group) (code ∷ codes) later (raised_below place (length parts) (first ∷ group) below) size)
    ]

pub from_front : {X : Type 0} (all : List X) (group : List ℕ) → entries_from 0 all group ≡ entries_at all group
from_front all [] = refl
from_front all (first ∷ group) =
    let e : first - 0 ≡ first = omega arith in
    rw e (ap (cons_option (slice_get all first)) (from_front all group))

pub own_and_others_scan : (layout : LayoutShape) (group : List ℕ) (codes : List (List Bool)) → HasCodes (length layout.parts) group codes
    → scan_length layout group codes + length group ≡ own_length layout group codes + length layout.parts
own_and_others_scan layout group codes has =
    own_and_others layout.parts 0 group codes has.rising (subst (λ high. Below high group) (omega arith) (below_all (length layout.parts) group has.within)) has.coded
    ∙ ap (λ entries. sum (widths_during entries codes) + length layout.parts) (from_front layout.parts group)
