-- The codes that are loaded in a group of neighbours, and around it.
use Rattle.std.proofs.Common.{◌≡◌, ◌≢◌, ◌≤◌, ◌<◌, ◌+◌, ◌==◌, bit_or, ℕ, zero, suc, List, length, ap, sym, ◌∙◌, arith, Some, None, inl, inr, refl}
use Rattle.std.specs.Prelude.{slice_get}
use Rattle.std.specs.List.{slice_index_or}
use Rattle.std.specs.Int.Bits.{bit_xor, or_add_and, xor_add_and, xor_self}
use Rattle.std.proofs.lemmas.Bool.{cases_lt}
use Rattle.std.proofs.lemmas.Nat.{and_le_l, and_le_r}
use Rattle.std.proofs.lemmas.Option.{same_Some, slice_get_within}
use Rattle.grant_table.specs.Layouts.{first_place}
use Rattle.scan_share.specs.Rows.{AreNeighbours, IsScanOf, ScanView, scan_words}
use Rattle.scan_share.proofs.Lookups.{entry_past, some_none}
use Rattle.scan_share.proofs.Places.{all_at, read_at}
use Rattle.scan_share.proofs.Splits.{all_same, none_here, own_word, scan_coded, split_last}

-- ---- codes at a place

pub one_more : (xs ys : List ℕ) (from at : ℕ) → ((place : ℕ) → from ≤ place → place < at → slice_get xs place ≡ slice_get ys place) → slice_get xs at ≡ slice_get ys at
    → (place : ℕ) → from ≤ place → place < at + 1 → slice_get xs place ≡ slice_get ys place
one_more xs ys from at same here place low lt = elim (cases_lt place at) [
  | inl less ↦ same place low less
  | inr more ↦ let e : place ≡ at = omega (arith, lt, more) in ap (slice_get xs) e ∙ here ∙ sym (ap (slice_get ys) e)
]

pub code_here : (loaded words : List ℕ) (place word : ℕ) → place < length loaded → slice_get words place ≡ Some word → slice_index_or loaded place 0 ≡ word → slice_get loaded place ≡ slice_get words place
code_here loaded words place word lt word_is same = read_at loaded place 0 lt ∙ ap Some same ∙ sym word_is

pub code_differs : (loaded words : List ℕ) (place word : ℕ) → place < length loaded → slice_get words place ≡ Some word → slice_index_or loaded place 0 ≢ word → loaded ≢ words
code_differs loaded words place word lt word_is ne same = ne (same_Some (slice_index_or loaded place 0) word (sym (read_at loaded place 0 lt) ∙ ap (λ xs. slice_get xs place) same ∙ word_is))

-- ---- codes at many places

-- words that differ have bits in which they do
pub none_differ : (a b : ℕ) → bit_xor a b ≡ 0 → a ≡ b
none_differ a b none = omega (arith, none, xor_add_and a b, and_le_l a b, and_le_r a b)

no_bits : (a b : ℕ) → bit_or a b ≡ 0 → (a ≡ 0) × (b ≡ 0)
no_bits a b none = (omega (arith, none, or_add_and a b, and_le_r a b), omega (arith, none, or_add_and a b, and_le_l a b))

-- the bits in which codes differ from those of a scan, from one place up to another
pub record Differing (bits : ℕ) (loaded words : List ℕ) (from to : ℕ) : Type 0 where
  pub same : bits ≡ 0 → (place : ℕ) → from ≤ place → place < to → slice_get loaded place ≡ slice_get words place
  pub differ : bits ≢ 0 → loaded ≢ words

pub none_differing : (loaded words : List ℕ) (from to : ℕ) → to ≤ from → Differing 0 loaded words from to
none_differing loaded words from to none = record {
  same = λ zero_bits place low lt. absurd (omega (arith, none, low, lt));
  differ = λ some same. some refl;
}

pub more_differing : (bits : ℕ) (loaded words : List ℕ) (from at next word : ℕ) → at < length loaded → next ≡ at + 1 → slice_get words at ≡ Some word → Differing bits loaded words from at
    → Differing (bit_or bits (bit_xor (slice_index_or loaded at 0) word)) loaded words from next
more_differing bits loaded words from at next word lt next_is word_is was = record {
  same = λ none place low less.
      let both = no_bits bits (bit_xor (slice_index_or loaded at 0) word) none in
      one_more loaded words from at (was.same both.0) (code_here loaded words at word lt word_is (none_differ (slice_index_or loaded at 0) word both.1)) place low (omega (arith, less, next_is));
  differ = by bits was.differ;
}
  where
    by : (n : ℕ) → (n ≢ 0 → loaded ≢ words) → bit_or n (bit_xor (slice_index_or loaded at 0) word) ≢ 0 → loaded ≢ words
    by zero differ some = code_differs loaded words at word lt word_is (λ same. some (ap (λ w. bit_or 0 (bit_xor w word)) same ∙ ap (bit_or 0) (xor_self word)))
    by (suc n) differ some = differ (λ none. absurd (omega (arith, none)))

-- ---- the group's own codes

stands_at : (scan : ScanView) (first i : ℕ) → IsScanOf scan.layout scan.group scan.codes → AreNeighbours scan.group → first ≡ slice_index_or scan.group 0 0 → i < length scan.codes → slice_get scan.group i ≡ Some (first + i)
stands_at scan first i is are first_is lt =
    let here : slice_get scan.group i ≡ Some (slice_index_or scan.group i 0) = read_at scan.group i 0 (omega (arith, lt, scan_coded scan is)) in
    here ∙ ap Some (omega (arith, are.each i (slice_index_or scan.group i 0) here, first_is))

pub own_below : (scan : ScanView) (first i : ℕ) → IsScanOf scan.layout scan.group scan.codes → AreNeighbours scan.group → first ≡ slice_index_or scan.group 0 0 → i < length scan.codes → first + i < length scan.layout.parts
own_below scan first i is are first_is lt = all_at (λ place. place < length scan.layout.parts) scan.group is.within i (first + i) (stands_at scan first i is are first_is lt)

pub own_code_at : (scan : ScanView) (first i : ℕ) → IsScanOf scan.layout scan.group scan.codes → AreNeighbours scan.group → first ≡ slice_index_or scan.group 0 0 → i < length scan.codes
    → slice_get (scan_words scan) (first + i) ≡ Some (slice_index_or scan.codes i 0)
own_code_at scan first i is are first_is lt = own_word scan i (first + i) is (own_below scan first i is are first_is lt) (stands_at scan first i is are first_is lt)

-- ---- none of the group stands before it or behind it

pub none_before : (scan : ScanView) (place : ℕ) → IsScanOf scan.layout scan.group scan.codes → AreNeighbours scan.group → place < slice_index_or scan.group 0 0 → first_place (λ other. other == place) scan.group ≡ None
none_before scan place is are lt = none_here scan.group 0 place is.rising
    (record { below = λ i other less here. absurd (omega (arith, less)); above = λ i other le here. omega (arith, are.each i other here, lt) })
    (λ same. let equal : slice_index_or scan.group 0 0 ≡ place = same_Some (slice_index_or scan.group 0 0) place (sym (read_at scan.group 0 0 are.some) ∙ same) in absurd (omega (arith, equal, lt)))

pub none_behind : (scan : ScanView) (place : ℕ) → IsScanOf scan.layout scan.group scan.codes → AreNeighbours scan.group → slice_index_or scan.group 0 0 + length scan.group ≤ place → first_place (λ other. other == place) scan.group ≡ None
none_behind scan place is are le = none_here scan.group (length scan.group) place is.rising
    (split_last scan.group (length scan.group) place refl (λ i other here. omega (arith, are.each i other here, slice_get_within scan.group i other here, le)))
    (λ same. some_none place (sym same ∙ entry_past scan.group (length scan.group) (omega arith)))

-- ---- all codes

pub all_around : (loaded words : List ℕ) (first behind : ℕ) → length words ≡ length loaded → ((place : ℕ) → first ≤ place → place < behind → slice_get loaded place ≡ slice_get words place)
    → ((place : ℕ) → 0 ≤ place → place < first → slice_get loaded place ≡ slice_get words place) → ((place : ℕ) → behind ≤ place → place < length loaded → slice_get loaded place ≡ slice_get words place) → loaded ≡ words
all_around loaded words first behind long own before after = all_same loaded words (length loaded) at (omega arith) (omega (arith, long))
  where
    at : (place : ℕ) → place < length loaded → slice_get loaded place ≡ slice_get words place
    at place lt = elim (cases_lt place first) [
      | inl low ↦ before place (omega arith) low
      | inr from ↦ elim (cases_lt place behind) [ inl within ↦ own place from within | inr past ↦ after place past lt ]
    ]
