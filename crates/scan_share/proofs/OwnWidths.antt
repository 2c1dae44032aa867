-- A group's bits among those of a read-out are as many as its registers have.
use Rattle.std.proofs.Common.{◌≡◌, ◌≤◌, ◌<◌, ℕ, Bool, true, List, length, replicate, ap, sym, ◌∙◌, arith, Some, inl, inr}
use Rattle.std.specs.Option.{option_map}
use Rattle.std.specs.Prelude.{slice_get}
use Rattle.std.specs.List.{sum_by, slice_index_or}
use Rattle.std.proofs.lemmas.Bool.{cases_lt}
use Rattle.std.proofs.lemmas.List.{length-map}
use Rattle.std.proofs.lemmas.Option.{slice_get-get_or, slice_get_within}
use Rattle.part_model.specs.Parts.{width}
use Rattle.grant_table.specs.Layouts.{LayoutShape}
use Rattle.scan_share.specs.PrivateChains.{entries_at}
use Rattle.scan_share.specs.Scans.{codes_during, code_during, parted, scan_length, widths_during}
use Rattle.scan_share.specs.Written.{group_widths}
use Rattle.scan_share.specs.Laws.{IsScan, own_bits}
use Rattle.scan_share.proofs.Facts.{IsGroup}
use Rattle.scan_share.proofs.Groups.{group_of_laws}
use Rattle.scan_share.proofs.Kept.{entries_map}
use Rattle.scan_share.proofs.Lookups.{same_entries, entry_within, entry_past, length-entries_at, entry_at, found, code_or, code_during_is, codes_at}
use Rattle.scan_share.proofs.Loads.{length-codes_from}
use Rattle.scan_share.proofs.Updates.{parted_lengths, widths_zip_at, length-widths_during}
use Rattle.scan_share.proofs.Widths.{joined_length}

-- the widths of the whole chain at the group's places are the group's
own_entries : (layout : LayoutShape) (group : List ℕ) (codes : List (List Bool)) → IsGroup group (length layout.parts) → length codes ≡ length group
    → entries_at (widths_during layout.parts (codes_during layout group codes)) group ≡ group_widths layout group codes
own_entries layout group codes is size = same_entries (entries_at (widths_during layout.parts (codes_during layout group codes)) group) (group_widths layout group codes)
    (λ i. elim (cases_lt i (length group)) [ inl lt ↦ inside i (entry_within group i lt) | inr ge ↦ past i ge ])
  where
    all : List ℕ
    all = widths_during layout.parts (codes_during layout group codes)

    all_count : length (widths_during layout.parts (codes_during layout group codes)) ≡ length layout.parts
    all_count = length-widths_during layout.parts (codes_during layout group codes) (length-codes_from group codes 0 layout.parts)

    within : (g place : ℕ) → slice_get group g ≡ Some place → place < length (widths_during layout.parts (codes_during layout group codes))
    within g place at = omega (arith, is.within g place at, all_count)

    own_count : length (group_widths layout group codes) ≡ length group
    own_count = length-widths_during (entries_at layout.parts group) codes (size ∙ sym (length-entries_at layout.parts group is.within)) ∙ length-entries_at layout.parts group is.within

    inside : (i : ℕ) → (place : ℕ) × (slice_get group i ≡ Some place)
        → slice_get (entries_at (widths_during layout.parts (codes_during layout group codes)) group) i ≡ slice_get (group_widths layout group codes) i
    inside i at =
        let part = entry_within layout.parts (at.0) (is.within i (at.0) (at.1)) in
        let ones = replicate (part.0).ir_length true in
        let lt : i < length codes = omega (arith, size, slice_get_within group i (at.0) (at.1)) in
        let code : code_during group codes (at.0) (replicate (part.0).ir_length true) ≡ slice_index_or codes i (replicate (part.0).ir_length true) =
        code_during_is group codes (at.0) (replicate (part.0).ir_length true) size
        ∙ ap (λ o. code_or o codes (replicate (part.0).ir_length true)) (found group is.apart i (at.0) (at.1)) in
        entry_at (widths_during layout.parts (codes_during layout group codes)) group within i (at.0) (at.1)
        ∙ widths_zip_at layout.parts (codes_during layout group codes) (at.0) (part.0) (code_during group codes (at.0) (replicate (part.0).ir_length true)) (part.1)
        (codes_at group codes layout.parts (at.0) ∙ ap (option_map (λ p. code_during group codes (at.0) (replicate p.ir_length true))) (part.1))
        ∙ ap (λ c. Some (width (part.0) c)) code
        ∙ sym (widths_zip_at (entries_at layout.parts group) codes i (part.0) (slice_index_or codes i (replicate (part.0).ir_length true))
        (entry_at layout.parts group is.within i (at.0) (at.1) ∙ part.1) (slice_get-get_or codes i (replicate (part.0).ir_length true) lt))

    past : (i : ℕ) → length group ≤ i → slice_get (entries_at (widths_during layout.parts (codes_during layout group codes)) group) i ≡ slice_get (group_widths layout group codes) i
    past i ge = entry_past (entries_at (widths_during layout.parts (codes_during layout group codes)) group) i (omega (arith, ge, length-entries_at (widths_during layout.parts (codes_during layout group codes)) group within))
        ∙ sym (entry_past (group_widths layout group codes) i (omega (arith, ge, own_count)))

pub own_long : (layout : LayoutShape) (group : List ℕ) (codes : List (List Bool)) (out : List Bool) → IsScan layout group codes → length out ≡ scan_length layout group codes
    → length (own_bits layout group codes out) ≡ sum_by (λ w. w) (group_widths layout group codes)
own_long layout group codes out scan long =
    let is = group_of_laws layout group scan.group_is in
    let size : length codes ≡ length group =
    sym (length-map codes length) ∙ ap length scan.codes_fit ∙ length-map (entries_at layout.parts group) (λ part. part.ir_length) ∙ length-entries_at layout.parts group is.within in
    let widths = widths_during layout.parts (codes_during layout group codes) in
    joined_length (entries_at (parted (widths_during layout.parts (codes_during layout group codes)) out) group)
    ∙ ap (sum_by (λ w. w)) (entries_map length (parted (widths_during layout.parts (codes_during layout group codes)) out) group
    ∙ ap (λ l. entries_at l group) (parted_lengths (widths_during layout.parts (codes_during layout group codes)) out long)
    ∙ own_entries layout group codes is size)
