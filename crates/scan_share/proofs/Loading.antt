-- The bits that load the codes of a scan.
use Rattle.std.proofs.Common.{◌≡◌, ◌<◌, ◌^◌, ◌∙◌, ◌≤◌, ℕ, Bool, List, [], ◌∷◌, length, map, ap, sym, subst, refl, arith}
use Rattle.std.specs.List.{All}
use Rattle.scan_bits.specs.Words.{bits_of, number_of}
use Rattle.scan_bits.specs.Registers.{joined}
use Rattle.scan_bits.proofs.WordLaws.{bits_of-number_of, number_of-lt}
use Rattle.part_model.specs.Parts.{DeviceType}
use Rattle.grant_table.specs.Layouts.{LayoutShape, group_of}
use Rattle.grant_table.specs.Kept.{AllParts}
use Rattle.grant_table.specs.Apart.{RisesFrom}
use Rattle.scan_share.specs.PrivateChains.{entries_at}
use Rattle.scan_share.specs.Codes.{AreCodes}
use Rattle.scan_share.specs.Scans.{codes_of, codes_during}
use Rattle.scan_share.specs.Laws.{IsScan}
use Rattle.scan_share.specs.Views.{IsLoadedFor, codes_for, words_of}
use Rattle.scan_share.proofs.Groups.{group_of_laws}
use Rattle.scan_share.proofs.Loads.{codes_lengths}
use Rattle.scan_share.proofs.Splits.{own_back}

abbrev head_of : List ℕ → ℕ
head_of [] = 0
head_of (n ∷ ns) = n

abbrev tail_of : List ℕ → List ℕ
tail_of [] = []
tail_of (n ∷ ns) = ns

-- codes of the right lengths are had back from their words
codes_back : (parts : List DeviceType) (codes : List (List Bool)) → map length codes ≡ map (λ part. part.ir_length) parts → codes_of parts (words_of codes) ≡ codes
codes_back [] [] long = refl
codes_back [] (code ∷ codes) long = absurd (omega (arith, ap length long))
codes_back (part ∷ parts) [] long = absurd (omega (arith, ap length long))
codes_back (part ∷ parts) (code ∷ codes) long =
    let first : length code ≡ part.ir_length = ap head_of long in
    let rest : map length codes ≡ map (λ part. part.ir_length) parts = ap tail_of long in
    λ i. (ap (λ n. bits_of n (number_of code)) (sym first) ∙ bits_of-number_of code) i ∷ codes_back parts codes rest i

are_codes_back : (parts : List DeviceType) (codes : List (List Bool)) → map length codes ≡ map (λ part. part.ir_length) parts → AreCodes parts (words_of codes)
are_codes_back [] [] long = tt
are_codes_back [] (code ∷ codes) long = absurd (omega (arith, ap length long))
are_codes_back (part ∷ parts) [] long = absurd (omega (arith, ap length long))
are_codes_back (part ∷ parts) (code ∷ codes) long =
    let first : length code ≡ part.ir_length = ap head_of long in
    let rest : map length codes ≡ map (λ part. part.ir_length) parts = ap tail_of long in
    (subst (λ n. number_of code < 2 ^ n) first (number_of-lt code), are_codes_back parts codes rest)

lengths_are : (layout : LayoutShape) (grant : ℕ) (words : List ℕ) → IsScan layout (group_of layout.grants grant) (codes_for layout grant words)
    → map length (codes_during layout (group_of layout.grants grant) (codes_for layout grant words)) ≡ map (λ part. part.ir_length) layout.parts
lengths_are layout grant words scan =
    codes_lengths layout.parts (group_of layout.grants grant) (codes_for layout grant words) (group_of_laws layout (group_of layout.grants grant) scan.group_is) scan.codes_fit

-- the words that are loaded are codes
pub loaded_are_codes : (layout : LayoutShape) (grant : ℕ) (words loaded : List ℕ) → IsScan layout (group_of layout.grants grant) (codes_for layout grant words) → IsLoadedFor layout grant words loaded → AreCodes layout.parts loaded
loaded_are_codes layout grant words loaded scan is =
    subst (AreCodes layout.parts) (sym is) (are_codes_back layout.parts (codes_during layout (group_of layout.grants grant) (codes_for layout grant words)) (lengths_are layout grant words scan))

-- and their bits are those of the codes during the scan
pub source_is : (layout : LayoutShape) (grant : ℕ) (words loaded : List ℕ) (bits : List Bool) → IsScan layout (group_of layout.grants grant) (codes_for layout grant words) → IsLoadedFor layout grant words loaded
    → bits ≡ joined (codes_of layout.parts loaded) → bits ≡ joined (codes_during layout (group_of layout.grants grant) (codes_for layout grant words))
source_is layout grant words loaded bits scan is bits_are =
    bits_are ∙ ap (λ ws. joined (codes_of layout.parts ws)) is
    ∙ ap joined (codes_back layout.parts (codes_during layout (group_of layout.grants grant) (codes_for layout grant words)) (lengths_are layout grant words scan))

-- at the places of the grant stand its own codes
pub own_loaded : (layout : LayoutShape) (grant : ℕ) (words group loaded places : List ℕ) → AllParts layout.parts → group ≡ group_of layout.grants grant → RisesFrom 0 group → All (λ place. place < length layout.parts) group
    → length group ≤ 32 → AreCodes (entries_at layout.parts (group_of layout.grants grant)) words → IsLoadedFor layout grant words loaded → places ≡ group → entries_at loaded places ≡ words
own_loaded layout grant words group loaded places parts group_is rising within few are loaded_is places_are =
    (λ i. entries_at (loaded_is i) (places_are i))
    ∙ ap (λ (g : List ℕ). entries_at (words_of (codes_during layout g (codes_of (entries_at layout.parts g) words))) group) (sym group_is)
    ∙ own_back (record { layout = layout; group = group; codes = words }) (record {
      parts = parts;
      rising = rising;
      within = within;
      few = few;
      coded = subst (λ g. AreCodes (entries_at layout.parts g) words) (sym group_is) are;
    })
