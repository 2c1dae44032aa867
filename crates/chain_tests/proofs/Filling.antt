-- The data registers of a group together, bit by bit.
use Rattle.std.proofs.Common.{◌≡◌, ◌<◌, ◌≤◌, ◌+◌, ℕ, zero, suc, Bool, List, [], ◌∷◌, ◌++◌, length, drop, get_or, replicate, refl, ap, ◌∙◌, arith, Some}
use Rattle.std.specs.List.{sum_by, slice_get, cons_option}
use Rattle.std.proofs.lemmas.List.{drop_more, drop_all}
use Rattle.std.proofs.lemmas.List.Sums.{sum_by-cons}
use Rattle.scan_bits.specs.Words.{bits_of}
use Rattle.part_model.specs.Parts.{DeviceType, width}
use Rattle.scan_share.specs.PrivateChains.{entries_at}
use Rattle.scan_share.specs.Scans.{codes_of, widths_during}

-- the bits of the registers that these words select at these places
abbrev pub bits_from : List DeviceType → List ℕ → List ℕ → ℕ
bits_from parts group words = sum_by (λ width. width) (widths_during (entries_at parts group) (codes_of (entries_at parts group) words))

-- one more device
pub next_bits : (parts : List DeviceType) (group words : List ℕ) (i d w sum now count : ℕ) (part : DeviceType) → i < length group → i < length words → slice_get parts (get_or group i d) ≡ Some part
    → count ≡ width part (bits_of part.ir_length (get_or words i w)) → now ≡ sum + count → now + bits_from parts (drop (i + 1) group) (drop (i + 1) words) ≡ sum + bits_from parts (drop i group) (drop i words)
next_bits parts group words i d w sum now count part lt in_words found is now_is =
    let rest = entries_at parts (drop (i + 1) group) in
    let here : entries_at parts (drop i group) ≡ part ∷ rest = ap (entries_at parts) (drop_more group i d lt) ∙ ap (λ o. cons_option o rest) found in
    let word = get_or words i w in
    let more = drop (i + 1) words in
    let both : bits_from parts (drop i group) (drop i words) ≡ width part (bits_of part.ir_length word) + bits_from parts (drop (i + 1) group) more =
    (λ k. sum_by (λ width. width) (widths_during (here k) (codes_of (here k) (drop_more words i w in_words k))))
    ∙ sum_by-cons (λ width. width) (width part (bits_of part.ir_length word)) (widths_during rest (codes_of rest more)) in
    omega (arith, both, is, now_is)

-- no word is left
no_bits : (parts : List DeviceType) (words : List ℕ) (i : ℕ) (group : List ℕ) → length words ≤ i → bits_from parts group (drop i words) ≡ 0
no_bits parts words i group le = ap (bits_from parts group) (drop_all i words le) ∙ none (entries_at parts group)
  where
    none : (entries : List DeviceType) → sum_by (λ width. width) (widths_during entries (codes_of entries [])) ≡ 0
    none [] = refl
    none (part ∷ parts) = refl

pub past_words : (parts : List DeviceType) (group words : List ℕ) (i sum now : ℕ) → length words ≤ i → now ≡ sum → now + bits_from parts (drop (i + 1) group) (drop (i + 1) words) ≡ sum + bits_from parts (drop i group) (drop i words)
past_words parts group words i sum now le is = omega (arith, is, no_bits parts words i (drop i group) le, no_bits parts words (i + 1) (drop (i + 1) group) (omega (arith, le)))

-- one more of the same
pub one_more : (count : ℕ) (bit : Bool) → replicate count bit ++ bit ∷ [] ≡ replicate (suc count) bit
one_more zero bit = refl
one_more (suc count) bit = ap (λ bits. bit ∷ bits) (one_more count bit)
