-- What a scan for a grant of a layout has.
use Rattle.std.proofs.Common.{◌≡◌, ◌≤◌, ◌+◌, ℕ, Bool, true, List, [], ◌∷◌, length, map, replicate, refl, ap, sym, ◌∙◌, arith, Some, None}
use Rattle.std.specs.declared.option.Option.{Option}
use Rattle.std.specs.List.{sum_by}
use Rattle.std.proofs.lemmas.List.{length-map}
use Rattle.std.proofs.lemmas.List.Sums.{sum-map, sum_by-cons}
use Rattle.base_types.specs.Tellings.{Told}
use Rattle.scan_bits.specs.Registers.{joined}
use Rattle.part_model.specs.Parts.{DeviceType, width}
use Rattle.chain_model.specs.Chains.{ChainState}
use Rattle.grant_table.specs.Kept.{AllParts}
use Rattle.grant_table.specs.Layouts.{LayoutShape, group_of, ir_total}
use Rattle.grant_table.specs.Apart.{KeepsApart}
use Rattle.scan_share.specs.PrivateChains.{entries_at}
use Rattle.scan_share.specs.Scans.{IsWhole, IsOpenFor, codes_of, code_list, codes_during, codes_from, code_during, scan_length, widths_during}
use Rattle.scan_share.specs.Codes.{AreCodes}
use Rattle.scan_share.specs.Lengths.{own_length}
use Rattle.scan_share.proofs.Lengths.{own_and_others_scan}
use Rattle.scan_share.specs.Written.{group_widths, written}
use Rattle.scan_share.specs.Views.{words_of, OpenWith}
use Rattle.scan_share.specs.Laws.{IsScan, IsGroup}
use Rattle.scan_share.proofs.Groups.{group_of_laws}
use Rattle.scan_share.proofs.Lookups.{length-entries_at}
use Rattle.scan_share.proofs.Places.{length-codes}
use Rattle.scan_share.proofs.Updates.{length-widths_during}
use Rattle.scan_share.proofs.Loads.{codes_lengths}
use Rattle.scan_share.proofs.Widths.{joined_length}
use Rattle.scan_share.proofs.Updates.{written_lengths}
use Rattle.scan_share.proofs.Wide.{instruction_some, width_some}
use Rattle.scan_share.proofs.Loaded.{codes_counted, codes_fit, codes_long, same_words}

pub grants_group : (layout : LayoutShape) (grant : ℕ) → KeepsApart layout → IsGroup layout (group_of layout.grants grant)
grants_group layout grant apart = record {
  rising = apart.rising grant;
  within = apart.within grant;
  nets = λ place at net is to own. apart.nets grant place at net is to own;
}

pub coded : (layout : LayoutShape) (group words : List ℕ) → IsGroup layout group → AreCodes (entries_at layout.parts group) words → length words ≡ length group
coded layout group words is are = codes_counted (entries_at layout.parts group) words are ∙ length-entries_at layout.parts group (group_of_laws layout group is).within

pub widths_counted : (layout : LayoutShape) (group words : List ℕ) → IsGroup layout group → AreCodes (entries_at layout.parts group) words
    → length (group_widths layout group (codes_of (entries_at layout.parts group) words)) ≡ length group
widths_counted layout group words is are =
    length-widths_during (entries_at layout.parts group) (codes_of (entries_at layout.parts group) words) (length-codes (entries_at layout.parts group) words are)
    ∙ length-entries_at layout.parts group (group_of_laws layout group is).within

pub scan_is : (layout : LayoutShape) (group words : List ℕ) → AllParts layout.parts → 1 ≤ length layout.parts → IsGroup layout group → AreCodes (entries_at layout.parts group) words
    → IsScan layout group (codes_of (entries_at layout.parts group) words)
scan_is layout group words parts some is are = record { parts = parts; some = some; group_is = is; codes_fit = codes_fit (entries_at layout.parts group) words are }

-- an instruction scan has a bit for each of the codes' bits
pub load_long : (layout : LayoutShape) (group : List ℕ) (codes : List (List Bool)) → IsScan layout group codes → length (joined (codes_during layout group codes)) ≡ ir_total layout
load_long layout group codes scan =
    joined_length (codes_during layout group codes) ∙ ap (sum_by (λ w. w)) (codes_lengths layout.parts group codes (group_of_laws layout group scan.group_is) scan.codes_fit) ∙ sum-map (λ part. part.ir_length) layout.parts

pub load_some : (layout : LayoutShape) → AllParts layout.parts → 1 ≤ length layout.parts → 1 ≤ ir_total layout
load_some layout parts some = by layout.parts parts some
  where
    by : (all : List DeviceType) → AllParts all → 1 ≤ length all → 1 ≤ sum_by (λ part. part.ir_length) all
    by [] each more = absurd (omega (arith, more))
    by (part ∷ rest) each more = omega (arith, instruction_some part (each 0 part refl), sum_by-cons (λ p. p.ir_length) part rest)

-- and a scan of data registers has one at least
pub scan_some : (layout : LayoutShape) (group : List ℕ) (codes : List (List Bool)) → AllParts layout.parts → 1 ≤ length layout.parts → 1 ≤ scan_length layout group codes
scan_some layout group codes parts some = by layout.parts parts some
  where
    by : (all : List DeviceType) → AllParts all → 1 ≤ length all → 1 ≤ sum_by (λ w. w) (widths_during all (codes_from group codes 0 all))
    by [] each more = absurd (omega (arith, more))
    by (part ∷ rest) each more =
        let code = code_during group codes 0 (replicate part.ir_length true) in
        omega (
          arith,
          width_some part (each 0 part refl) (code_during group codes 0 (replicate part.ir_length true)),
          sum_by-cons (λ w. w) (width part (code_during group codes 0 (replicate part.ir_length true))) (widths_during rest (codes_from group codes 1 rest)),
        )

pub write_long : (layout : LayoutShape) (group : List ℕ) (codes : List (List Bool)) (bits : List Bool) → IsScan layout group codes → length bits ≡ sum_by (λ w. w) (group_widths layout group codes)
    → length (joined (written layout group codes bits)) ≡ scan_length layout group codes
write_long layout group codes bits scan long =
    let is = group_of_laws layout group scan.group_is in
    let size : length codes ≡ length group =
    sym (length-map codes length) ∙ ap length scan.codes_fit ∙ length-map (entries_at layout.parts group) (λ part. part.ir_length) ∙ length-entries_at layout.parts group is.within in
    joined_length (written layout group codes bits) ∙ ap (sum_by (λ w. w)) (written_lengths layout group codes bits is size long)

-- an open chain with the codes of a scan is open for it
pub opened : (layout : LayoutShape) (group : List ℕ) (codes : List (List Bool)) (words : List ℕ) (chain : Option ChainState) → IsScan layout group codes → words ≡ words_of (codes_during layout group codes)
    → Told chain (IsWhole layout) → Told chain (OpenWith words) → Told chain (IsOpenFor layout group codes)
opened layout group codes words None scan are whole is = tt
opened layout group codes words (Some chain) scan are whole is =
    let long : map length (code_list chain) ≡ map length (codes_during layout group codes) =
    codes_long chain.scan_open chain.devices whole.fits ∙ ap (map (λ part. part.ir_length)) whole.parts_are
    ∙ sym (codes_lengths layout.parts group codes (group_of_laws layout group scan.group_is) scan.codes_fit) in
    (is.state, is.scan, same_words (code_list chain) (codes_during layout group codes) long (sym is.codes_are ∙ are))

-- the length of a scan, as the group's own bits and the number of other devices
pub count_is : (layout : LayoutShape) (group words : List ℕ) (own devices places : ℕ) → IsGroup layout group → AreCodes (entries_at layout.parts group) words
    → own ≡ sum_by (λ w. w) (group_widths layout group (codes_of (entries_at layout.parts group) words)) → devices ≡ length layout.parts → places ≡ length group
    → scan_length layout group (codes_of (entries_at layout.parts group) words) + places ≡ own + devices
count_is layout group words own devices places is are own_is devices_is places_is =
    let codes = codes_of (entries_at layout.parts group) words in
    let long : length (codes_of (entries_at layout.parts group) words) ≡ length group =
    sym (length-map (codes_of (entries_at layout.parts group) words) length) ∙ ap length (codes_fit (entries_at layout.parts group) words are)
    ∙ length-map (entries_at layout.parts group) (λ part. part.ir_length) ∙ length-entries_at layout.parts group (group_of_laws layout group is).within in
    let law : scan_length layout group (codes_of (entries_at layout.parts group) words) + length group ≡ own_length layout group (codes_of (entries_at layout.parts group) words) + length layout.parts =
    own_and_others_scan layout group (codes_of (entries_at layout.parts group) words) (record { rising = is.rising; within = is.within; coded = long }) in
    omega (arith, law, own_is, devices_is, places_is)
