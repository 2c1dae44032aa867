-- The codes of a scan as words: which are loaded, and whether they are those wanted.
use Rattle.std.proofs.Common.{◌≡◌, ◌≢◌, ℕ, suc, Bool, true, false, List, [], ◌∷◌, length, map, refl, ap, sym, ◌∙◌, arith}
use Rattle.scan_bits.specs.Words.{bits_of, number_of}
use Rattle.scan_bits.proofs.WordLaws.{length-bits_of, bits_of-number_of}
use Rattle.part_model.specs.Parts.{DeviceType}
use Rattle.chain_model.specs.Chains.{ChainState, DeviceState}
use Rattle.grant_table.specs.Layouts.{LayoutShape}
use Rattle.scan_share.specs.Scans.{EachFits, IsWhole, codes_of, code_list, codes_during, same_codes}
use Rattle.scan_share.specs.Codes.{AreCodes}
use Rattle.scan_share.specs.Views.{words_of}
use Rattle.scan_share.specs.Laws.{IsScan}
use Rattle.scan_share.proofs.Groups.{group_of_laws}
use Rattle.scan_share.proofs.Loads.{codes_lengths}
use Rattle.scan_share.proofs.Reloads.{same_codes_true, same_codes_self}

-- ---- words that are codes

pub codes_counted : (parts : List DeviceType) (words : List ℕ) → AreCodes parts words → length words ≡ length parts
codes_counted [] [] are = refl
codes_counted [] (word ∷ words) are = absurd are
codes_counted (part ∷ parts) [] are = absurd are
codes_counted (part ∷ parts) (word ∷ words) are = ap suc (codes_counted parts words are.1)

pub codes_fit : (parts : List DeviceType) (words : List ℕ) → AreCodes parts words → map length (codes_of parts words) ≡ map (λ part. part.ir_length) parts
codes_fit [] [] are = refl
codes_fit [] (word ∷ words) are = absurd are
codes_fit (part ∷ parts) [] are = absurd are
codes_fit (part ∷ parts) (word ∷ words) are = λ i. length-bits_of part.ir_length word i ∷ codes_fit parts words are.1 i

-- ---- equal words

abbrev head_of : List ℕ → ℕ
head_of [] = 0
head_of (n ∷ ns) = n

abbrev tail_of : List ℕ → List ℕ
tail_of [] = []
tail_of (n ∷ ns) = ns

same_number : (xs ys : List Bool) → length xs ≡ length ys → number_of xs ≡ number_of ys → xs ≡ ys
same_number xs ys long number = sym (bits_of-number_of xs) ∙ (λ i. bits_of (long i) (number i)) ∙ bits_of-number_of ys

pub same_words : (xs ys : List (List Bool)) → map length xs ≡ map length ys → words_of xs ≡ words_of ys → xs ≡ ys
same_words [] [] long words = refl
same_words [] (y ∷ ys) long words = absurd (omega (arith, ap length words))
same_words (x ∷ xs) [] long words = absurd (omega (arith, ap length words))
same_words (x ∷ xs) (y ∷ ys) long words =
    let first : length x ≡ length y = ap head_of long in
    let number : number_of x ≡ number_of y = ap head_of words in
    let lengths : map length xs ≡ map length ys = ap tail_of long in
    let rest : words_of xs ≡ words_of ys = ap tail_of words in
    λ i. same_number x y first number i ∷ same_words xs ys lengths rest i

pub codes_long : (s : Bool) (devices : List DeviceState) → EachFits s devices → map length (map (λ device. device.code) devices) ≡ map (λ part. part.ir_length) (map (λ device. device.part) devices)
codes_long s [] fits = refl
codes_long s (device ∷ devices) fits = λ i. fits.0.code i ∷ codes_long s devices fits.1 i

-- whether the loaded words are those wanted tells whether the codes are
pub is_loaded : (layout : LayoutShape) (group : List ℕ) (codes : List (List Bool)) (loaded wanted : List ℕ) (chain : ChainState) (same : Bool) → IsScan layout group codes → IsWhole layout chain
    → loaded ≡ words_of (code_list chain) → wanted ≡ words_of (codes_during layout group codes) → (same ≡ true → loaded ≡ wanted) → (same ≡ false → loaded ≢ wanted)
    → same ≡ same_codes (code_list chain) (codes_during layout group codes)
is_loaded layout group codes loaded wanted chain same scan whole loaded_are wanted_is equal_so other_so = by same refl
  where
    long : map length (code_list chain) ≡ map length (codes_during layout group codes)
    long = codes_long chain.scan_open chain.devices whole.fits ∙ ap (map (λ part. part.ir_length)) whole.parts_are
        ∙ sym (codes_lengths layout.parts group codes (group_of_laws layout group scan.group_is) scan.codes_fit)

    differ : (t : Bool) → same_codes (code_list chain) (codes_during layout group codes) ≡ t → loaded ≢ wanted → false ≡ t
    differ false e other = refl
    differ true e other = absurd (other (loaded_are ∙ ap words_of (same_codes_true (code_list chain) (codes_during layout group codes) e) ∙ sym wanted_is))

    by : (t : Bool) → same ≡ t → same ≡ same_codes (code_list chain) (codes_during layout group codes)
    by true e =
        let equal : code_list chain ≡ codes_during layout group codes = same_words (code_list chain) (codes_during layout group codes) long (sym loaded_are ∙ equal_so e ∙ wanted_is) in
        e ∙ sym (ap (λ q. same_codes q (codes_during layout group codes)) equal ∙ same_codes_self (codes_during layout group codes))
    by false e = e ∙ differ (same_codes (code_list chain) (codes_during layout group codes)) refl (other_so e)
