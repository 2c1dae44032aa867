-- The codes that are loaded from one device of a group to the next.
use Rattle.std.proofs.Common.{◌≡◌, ◌≤◌, ◌<◌, ◌+◌, ◌==◌, ℕ, List, length, ap, sym, subst, ◌∙◌, arith, Some, None, inl, inr}
use Rattle.std.specs.Prelude.{slice_get}
use Rattle.std.specs.List.{slice_index_or}
use Rattle.std.proofs.lemmas.Bool.{cases_lt}
use Rattle.grant_table.specs.Layouts.{first_place}
use Rattle.scan_share.specs.Rows.{ScanView, IsScanOf, IsSplit, scan_words}
use Rattle.scan_share.proofs.Places.{all_at, read_at}
use Rattle.scan_share.proofs.Splits.{own_word, scan_coded, split_own, split_until, none_until}

-- a device of the group, by its number in the group
module _ (scan view : ScanView) (same : view ≡ scan) (is : IsScanOf scan.layout scan.group scan.codes) (own : ℕ) (lt : own < length view.group) where
  abbrev next : ℕ
  next = slice_index_or view.group own 0

  stands : slice_get scan.group own ≡ Some next
  stands = subst (λ (v : ScanView). slice_get v.group own ≡ Some next) same (read_at view.group own 0 lt)

  pub next_coded : own < length view.codes
  next_coded = omega (arith, lt, scan_coded scan is, ap (λ (v : ScanView). length v.group) same, ap (λ (v : ScanView). length v.codes) same)

  pub next_within : next < length scan.layout.parts
  next_within = all_at (λ place. place < length scan.layout.parts) scan.group is.within own next stands

  pub next_word : slice_get (scan_words scan) next ≡ Some (slice_index_or view.codes own 0)
  next_word = own_word scan own next is next_within stands ∙ ap (λ (v : ScanView). Some (slice_index_or v.codes own 0)) (sym same)

  -- before it stand other devices only, from behind the device of the group before it on
  pub none_between : (from place : ℕ) → IsSplit scan.group own from → from ≤ place → place < next → first_place (λ other. other == place) scan.group ≡ None
  none_between from place split low below = none_until scan.group own from next place is.rising split stands low below

  pub split_behind : (from : ℕ) → IsSplit scan.group own from → IsSplit scan.group (own + 1) (next + 1)
  split_behind from split =
      let low : from ≤ next = split.above own next (omega arith) stands in
      split_own scan.group own next is.rising (split_until scan.group own from next next is.rising split stands low (omega arith)) stands

-- two rows of codes and one more
pub rows_same : (xs ys : List ℕ) (from next : ℕ) → ((place : ℕ) → place < from → slice_get xs place ≡ slice_get ys place) → ((place : ℕ) → from ≤ place → place < next → slice_get xs place ≡ slice_get ys place)
    → slice_get xs next ≡ slice_get ys next → (place : ℕ) → place < next + 1 → slice_get xs place ≡ slice_get ys place
rows_same xs ys from next before between here place lt = elim (cases_lt place from) [
  | inl less ↦ before place less
  | inr low ↦ elim (cases_lt place next) [
    | inl below ↦ between place low below
    | inr more ↦ let e : place ≡ next = omega (arith, lt, more) in ap (slice_get xs) e ∙ here ∙ sym (ap (slice_get ys) e)
  ]
]
