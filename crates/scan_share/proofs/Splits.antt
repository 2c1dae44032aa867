-- A walk over the devices of a chain, beside the places of a group.
use Rattle.std.proofs.Common.{◌≡◌, ◌≢◌, ◌≤◌, ◌<◌, ◌+◌, ◌-◌, ◌==◌, ℕ, zero, suc, Bool, true, false, List, [], ◌∷◌, ◌++◌, length, map, replicate, drop, length-append, refl, ap, sym, subst, ◌∙◌, arith, Some, None, inl, inr, append_assoc}
use Rattle.std.specs.declared.option.Option.{Option}
use Rattle.std.specs.Prelude.{slice_get}
use Rattle.std.specs.Option.{option_map}
use Rattle.std.specs.List.{All, cons_option, slice_index_or, sum_by}
use Rattle.std.proofs.lemmas.Bool.{cases_lt}
use Rattle.std.proofs.lemmas.List.{length-map, append-nil, replicate-append-replicate}
use Rattle.std.proofs.lemmas.List.Sums.{sum_by-cons}
use Rattle.std.proofs.lemmas.Option.{same_Some, slice_get-map, slice_get_within}
use Rattle.grant_table.specs.Layouts.{first_place}
use Rattle.grant_table.specs.Apart.{RisesFrom}
use Rattle.part_model.specs.Parts.{DeviceType, width}
use Rattle.part_model.specs.Plans.{IsPart}
use Rattle.scan_bits.specs.Words.{bits_of}
use Rattle.scan_share.specs.Written.{group_widths}
use Rattle.scan_share.specs.Scans.{code_during, codes_of, widths_during}
use Rattle.scan_share.specs.Rows.{ScanView, IsScanOf, IsSplit, IsRow, IsNext, own_codes, scan_words, marks_below, marks_left}
use Rattle.scan_share.proofs.Groups.{rising_apart}
use Rattle.scan_share.specs.PrivateChains.{entries_at}
use Rattle.scan_share.proofs.CodeWords.{drop_at, drop_past}
use Rattle.scan_share.proofs.Lookups.{some_none, found, placed, code_or, code_during_is, entry_at, entry_past, entry_within, length-entries_at, same_entries}
use Rattle.scan_share.proofs.Wide.{width_some}
use Rattle.scan_share.proofs.Updates.{widths_zip_at}
use Rattle.scan_share.proofs.Places.{or_at, read_at, all_at, own_code, code_at, width_count, length-scan_words, length-words}

-- ---- groups whose places rise

rises_to : (low : ℕ) (group : List ℕ) (i place : ℕ) → RisesFrom low group → slice_get group i ≡ Some place → low ≤ place
rises_to low [] i place rises is = some_none place (sym is)
rises_to low (first ∷ group) zero place rises is = let le : low ≤ first = rises.0 in let same : first ≡ place = same_Some first place is in omega (arith, le, same)
rises_to low (first ∷ group) (suc i) place rises is = let le : low ≤ first = rises.0 in omega (arith, le, rises_to (suc first) group i place rises.1 is)

rises_more : (low : ℕ) (group : List ℕ) (i k one other : ℕ) → RisesFrom low group → i < k → slice_get group i ≡ Some one → slice_get group k ≡ Some other → one < other
rises_more low [] i k one other rises lt is next = some_none one (sym is)
rises_more low (first ∷ group) i zero one other rises lt is next = absurd (omega (arith, lt))
rises_more low (first ∷ group) zero (suc k) one other rises lt is next =
    let same : first ≡ one = same_Some first one is in omega (arith, same, rises_to (suc first) group k other rises.1 next)
rises_more low (first ∷ group) (suc i) (suc k) one other rises lt is next = rises_more (suc first) group i k one other rises.1 (omega (arith, lt)) is next

-- ---- from the first device on

pub split_first : (group : List ℕ) → IsSplit group 0 0
split_first group = record { below = λ i other lt is. absurd (omega (arith, lt)); above = λ i other le is. omega arith }

-- the next of the group stands here
pub split_own : (group : List ℕ) (own place : ℕ) → RisesFrom 0 group → IsSplit group own place → slice_get group own ≡ Some place → IsSplit group (own + 1) (place + 1)
split_own group own place rises split here = record {
  below = λ i other lt is. elim (cases_lt i own) [
    | inl less ↦ omega (arith, split.below i other less is)
    | inr more ↦
        let e : i ≡ own = omega (arith, lt, more) in
        let same : other ≡ place = same_Some other place (sym is ∙ ap (slice_get group) e ∙ here) in
        omega (arith, same)
  ];
  above = λ i other le is. omega (arith, rises_more 0 group own i place other rises (omega (arith, le)) here is);
}

-- where the next of the group stands elsewhere, no other stands here
pub none_here : (group : List ℕ) (own place : ℕ) → RisesFrom 0 group → IsSplit group own place → slice_get group own ≢ Some place → first_place (λ other. other == place) group ≡ None
none_here group own place rises split apart = by (first_place (λ other. other == place) group) refl
  where
    by : (o : Option ℕ) → first_place (λ other. other == place) group ≡ o → o ≡ None
    by None is = refl
    by (Some g) is =
        let here : slice_get group g ≡ Some place = placed group place g is in
        elim (cases_lt g own) [
          | inl less ↦ absurd (omega (arith, split.below g place less here))
          | inr more ↦
              elim (cases_lt own g) [
                | inl later ↦
                    let next = read_at group own 0 (omega (arith, later, slice_get_within group g place here)) in
                    let lt : slice_index_or group own 0 < place = rises_more 0 group own g (slice_index_or group own 0) place rises later next here in
                    absurd (omega (arith, lt, split.above own (slice_index_or group own 0) (omega arith) next))
                | inr same ↦ absurd (apart (ap (slice_get group) (omega (arith, same, more)) ∙ here))
              ]
        ]

-- up to the next of the group
pub split_until : (group : List ℕ) (own place next at : ℕ) → RisesFrom 0 group → IsSplit group own place → slice_get group own ≡ Some next → place ≤ at → at ≤ next → IsSplit group own at
split_until group own place next at rises split here low le = record {
  below = λ i other lt is. omega (arith, low, split.below i other lt is);
  above = λ i other from is. elim (cases_lt own i) [
    | inl later ↦ omega (arith, le, rises_more 0 group own i next other rises later here is)
    | inr more ↦
        let e : i ≡ own = omega (arith, from, more) in
        let same : other ≡ next = same_Some other next (sym is ∙ ap (slice_get group) e ∙ here) in
        omega (arith, le, same)
  ];
}

pub none_until : (group : List ℕ) (own place next at : ℕ) → RisesFrom 0 group → IsSplit group own place → slice_get group own ≡ Some next → place ≤ at → at < next → first_place (λ other. other == at) group ≡ None
none_until group own place next at rises split here low lt =
    none_here group own at rises (split_until group own place next at rises split here low (omega (arith, lt)))
    (λ same. let equal : next ≡ at = same_Some next at (sym here ∙ same) in absurd (omega (arith, equal, lt)))

-- past the last of the group
pub none_past : (group : List ℕ) (own place at : ℕ) → RisesFrom 0 group → IsSplit group own place → length group ≤ own → place ≤ at → first_place (λ other. other == at) group ≡ None
none_past group own place at rises split past low =
    none_here group own at rises
    (record { below = λ i other lt is. omega (arith, low, split.below i other lt is); above = λ i other le is. absurd (omega (arith, le, past, slice_get_within group i other is)) })
    (λ same. some_none at (sym same ∙ entry_past group own past))

-- ---- the codes of a walk

pub scan_coded : (scan : ScanView) → IsScanOf scan.layout scan.group scan.codes → length scan.codes ≡ length scan.group
scan_coded scan is =
    length-words (entries_at scan.layout.parts scan.group) scan.codes is.coded
    ∙ length-entries_at scan.layout.parts scan.group (λ g q e. all_at (λ k. k < length scan.layout.parts) scan.group is.within g q e)

own_counted : (scan : ScanView) (own place : ℕ) → IsScanOf scan.layout scan.group scan.codes → slice_get scan.group own ≡ Some place → own < length scan.codes
own_counted scan own place is here =
    omega (arith, slice_get_within scan.group own place here, scan_coded scan is)

pub own_word : (scan : ScanView) (own place : ℕ) → IsScanOf scan.layout scan.group scan.codes → place < length scan.layout.parts → slice_get scan.group own ≡ Some place
    → slice_get (scan_words scan) place ≡ Some (slice_index_or scan.codes own 0)
own_word scan own place is lt here =
    let part = entry_within scan.layout.parts place lt in
    own_code scan place own (slice_index_or scan.codes own 0) (part.0) is (part.1) (found scan.group (rising_apart 0 scan.group is.rising) own place here)
    (read_at scan.codes own 0 (own_counted scan own place is here))

-- at the group's places stand its own codes
pub own_back : (scan : ScanView) → IsScanOf scan.layout scan.group scan.codes → entries_at (scan_words scan) scan.group ≡ scan.codes
own_back scan is = same_entries (entries_at (scan_words scan) scan.group) scan.codes (λ i. elim (cases_lt i (length scan.group)) [ inl lt ↦ inside i lt (entry_within scan.group i lt) | inr ge ↦ past i ge ])
  where
    within : (g place : ℕ) → slice_get scan.group g ≡ Some place → place < length (scan_words scan)
    within g place here = omega (arith, all_at (λ k. k < length scan.layout.parts) scan.group is.within g place here, length-scan_words scan)

    inside : (i : ℕ) → i < length scan.group → (place : ℕ) × (slice_get scan.group i ≡ Some place) → slice_get (entries_at (scan_words scan) scan.group) i ≡ slice_get scan.codes i
    inside i lt at =
        entry_at (scan_words scan) scan.group within i (at.0) (at.1)
        ∙ own_word scan i (at.0) is (all_at (λ k. k < length scan.layout.parts) scan.group is.within i (at.0) (at.1)) (at.1)
        ∙ sym (read_at scan.codes i 0 (omega (arith, lt, scan_coded scan is)))

    past : (i : ℕ) → length scan.group ≤ i → slice_get (entries_at (scan_words scan) scan.group) i ≡ slice_get scan.codes i
    past i ge =
        entry_past (entries_at (scan_words scan) scan.group) i (omega (arith, ge, length-entries_at (scan_words scan) scan.group within))
        ∙ sym (entry_past scan.codes i (omega (arith, ge, scan_coded scan is)))

-- the words of the first devices are there
pub record Begun (done all : List ℕ) (at : ℕ) : Type 0 where
  pub is : done ++ drop at all ≡ all
  pub count : length done ≡ at

pub more_begun : (done all : List ℕ) (at x : ℕ) → Begun done all at → slice_get all at ≡ Some x → Begun (done ++ x ∷ []) all (at + 1)
more_begun done all at x begun here = record {
  is = append_assoc done (x ∷ []) (drop (at + 1) all) ∙ ap (λ n. done ++ x ∷ drop n all) next ∙ ap (λ r. done ++ r) (sym (drop_at all at x here)) ∙ begun.is;
  count = length-append done (x ∷ []) ∙ ap (λ n. n + 1) begun.count;
}
  where
    next : at + 1 ≡ suc at
    next = omega arith

pub all_begun : (done all : List ℕ) (at : ℕ) → Begun done all at → length all ≤ at → done ≡ all
all_begun done all at begun le = sym (append-nil done) ∙ ap (λ r. done ++ r) (sym (drop_past all at le)) ∙ begun.is

-- the entries at the first places are there
pub record Picked (done all places : List ℕ) (at : ℕ) : Type 0 where
  pub whole : done ++ entries_at all (drop at places) ≡ entries_at all places
  pub few : length done ≤ at

entries_next : (all places : List ℕ) (at place : ℕ) → slice_get places at ≡ Some place → entries_at all (drop at places) ≡ cons_option (slice_get all place) (entries_at all (drop (at + 1) places))
entries_next all places at place here = ap (entries_at all) (drop_at places at place here) ∙ ap (λ n. cons_option (slice_get all place) (entries_at all (drop n places))) next
  where
    next : suc at ≡ at + 1
    next = omega arith

pub one_picked : (done all places : List ℕ) (at place x : ℕ) → Picked done all places at → slice_get places at ≡ Some place → slice_get all place ≡ Some x → Picked (done ++ x ∷ []) all places (at + 1)
one_picked done all places at place x picked here is = record {
  whole = append_assoc done (x ∷ []) (entries_at all (drop (at + 1) places))
      ∙ ap (λ o. done ++ cons_option o (entries_at all (drop (at + 1) places))) (sym is) ∙ ap (λ q. done ++ q) (sym (entries_next all places at place here)) ∙ picked.whole;
  few = omega (arith, length-append done (x ∷ []), picked.few);
}

pub none_picked : (done all places : List ℕ) (at place : ℕ) → Picked done all places at → slice_get places at ≡ Some place → slice_get all place ≡ None → Picked done all places (at + 1)
none_picked done all places at place picked here is = record {
  whole = ap (λ o. done ++ cons_option o (entries_at all (drop (at + 1) places))) (sym is) ∙ ap (λ q. done ++ q) (sym (entries_next all places at place here)) ∙ picked.whole;
  few = omega (arith, picked.few);
}

-- ---- from the last device on

-- all of the group are left
pub split_last : (group : List ℕ) (own place : ℕ) → own ≡ length group → ((i other : ℕ) → slice_get group i ≡ Some other → other < place) → IsSplit group own place
split_last group own place size within = record {
  below = λ i other lt is. within i other is;
  above = λ i other le is. absurd (omega (arith, le, size, slice_get_within group i other is));
}

-- up to the last of those that are left there are only others
pub split_end : (group : List ℕ) (own place end : ℕ) → RisesFrom 0 group → IsSplit group own place → (own ≡ 0 → end ≡ 0) → (1 ≤ own → slice_get group (own - 1) ≡ Some (end - 1)) → (1 ≤ own → 1 ≤ end) → end ≤ place
    → IsSplit group own end
split_end group own place end rises split none some bound le = record {
  below = λ i other lt is. elim (cases_lt i (own - 1)) [
    | inl less ↦ omega (arith, bound (omega (arith, lt)), rises_more 0 group i (own - 1) other (end - 1) rises less is (some (omega (arith, lt))))
    | inr more ↦
        let e : i ≡ own - 1 = omega (arith, lt, more) in
        let same : other ≡ end - 1 = same_Some other (end - 1) (sym is ∙ ap (slice_get group) e ∙ some (omega (arith, lt))) in
        omega (arith, bound (omega (arith, lt)), same)
  ];
  above = λ i other from is. omega (arith, le, split.above i other from is);
}

pub end_low : (group : List ℕ) (own place end : ℕ) → IsSplit group own place → (own ≡ 0 → end ≡ 0) → (1 ≤ own → slice_get group (own - 1) ≡ Some (end - 1)) → (1 ≤ own → 1 ≤ end) → end ≤ place
end_low group own place end split none some bound = elim (cases_lt 0 own) [
  | inl lt ↦ omega (arith, bound (omega (arith, lt)), split.below (own - 1) (end - 1) (omega (arith, lt)) (some (omega (arith, lt))))
  | inr ge ↦ omega (arith, none (omega (arith, ge)))
]

-- where a device is left and no other one, it is one of the group
pub is_next : (group : List ℕ) (own place end : ℕ) → IsSplit group own place → (own ≡ 0 → end ≡ 0) → (1 ≤ own → slice_get group (own - 1) ≡ Some (end - 1)) → (1 ≤ own → 1 ≤ end)
    → 1 ≤ place → place ≤ end → IsNext group own place
is_next group own place end split none some bound left le = elim (cases_lt 0 own) [
  | inl lt ↦
      let same : end - 1 ≡ place - 1 = omega (arith, le, end_low group own place end split none some bound) in
      record { some = omega (arith, lt); left = left; here = some (omega (arith, lt)) ∙ ap Some same }
  | inr ge ↦ absurd (omega (arith, left, le, none (omega (arith, ge))))
]

-- and before it one less
pub split_before : (group : List ℕ) (own place : ℕ) → RisesFrom 0 group → 1 ≤ own → slice_get group (own - 1) ≡ Some (place - 1) → IsSplit group (own - 1) (place - 1)
split_before group own place rises some here = record {
  below = λ i other lt is. rises_more 0 group i (own - 1) other (place - 1) rises lt is here;
  above = λ i other le is. elim (cases_lt (own - 1) i) [
    | inl less ↦ omega (arith, rises_more 0 group (own - 1) i (place - 1) other rises less here is)
    | inr more ↦
        let e : i ≡ own - 1 = omega (arith, le, more) in
        let same : other ≡ place - 1 = same_Some other (place - 1) (sym is ∙ ap (slice_get group) e ∙ here) in
        omega (arith, same)
  ];
}

-- ---- the bits of a walk

abbrev ones_of : List ℕ → List (List Bool)
ones_of widths = map (λ width. replicate width true) widths

ones_counted : (group widths : List ℕ) → length widths ≡ length group → length (ones_of widths) ≡ length group
ones_counted group widths size = length-map widths (λ width. replicate width true) ∙ size

-- a device of the group
own_mark : (group widths : List ℕ) (own place width : ℕ) → RisesFrom 0 group → length widths ≡ length group → slice_get group own ≡ Some place → slice_get widths own ≡ Some width
    → code_during group (ones_of widths) place (false ∷ []) ≡ replicate width true
own_mark group widths own place width rises size here wide =
    code_during_is group (ones_of widths) place (false ∷ []) (ones_counted group widths size)
    ∙ ap (λ o. code_or o (ones_of widths) (false ∷ [])) (found group (rising_apart 0 group rises) own place here)
    ∙ or_at (ones_of widths) own (replicate width true) (false ∷ []) (slice_get-map (λ width. replicate width true) widths own ∙ ap (option_map (λ width. replicate width true)) wide)

other_mark : (group widths : List ℕ) (place : ℕ) → length widths ≡ length group → first_place (λ other. other == place) group ≡ None → code_during group (ones_of widths) place (false ∷ []) ≡ false ∷ []
other_mark group widths place size none =
    code_during_is group (ones_of widths) place (false ∷ []) (ones_counted group widths size) ∙ ap (λ o. code_or o (ones_of widths) (false ∷ [])) none

-- no device of the group stands between two places
none_between : (group : List ℕ) (own place end at : ℕ) → IsSplit group own place → IsSplit group own end → end ≤ at → at < place → first_place (λ other. other == at) group ≡ None
none_between group own place end at split low from to = by (first_place (λ other. other == at) group) refl
  where
    by : (o : Option ℕ) → first_place (λ other. other == at) group ≡ o → o ≡ None
    by None is = refl
    by (Some g) is =
        let here : slice_get group g ≡ Some at = placed group at g is in
        elim (cases_lt g own) [
          | inl less ↦ absurd (omega (arith, from, low.below g at less here))
          | inr more ↦ absurd (omega (arith, to, split.above g at more here))
        ]

others_from : (group widths : List ℕ) (end n : ℕ) → length widths ≡ length group → ((at : ℕ) → end ≤ at → at < n + end → first_place (λ other. other == at) group ≡ None)
    → marks_below group widths (n + end) ≡ replicate n false ++ marks_below group widths end
others_from group widths end zero size none = ap (marks_below group widths) (omega arith)
others_from group widths end (suc n) size none =
    ap (marks_below group widths) (add_next n end)
    ∙ (λ i. other_mark group widths (n + end) size (none (n + end) (omega arith) (omega arith)) i ++ others_from group widths end n size (λ at from to. none at from (omega (arith, to))) i)
  where
    add_next : (n end : ℕ) → suc n + end ≡ suc (n + end)
    add_next n end = omega arith

-- so many others
pub others_left : (group widths : List ℕ) (own place end count : ℕ) → length widths ≡ length group → IsSplit group own place → IsSplit group own end → count + end ≡ place
    → replicate count false ++ marks_below group widths end ≡ marks_below group widths place
others_left group widths own place end count size split low sum =
    sym (others_from group widths end count size (λ at from to. none_between group own place end at split low from (omega (arith, to, sum)))) ∙ ap (marks_below group widths) sum

-- one of the group
pub own_left : (group widths : List ℕ) (own place width : ℕ) → RisesFrom 0 group → length widths ≡ length group → 1 ≤ place → slice_get group own ≡ Some (place - 1) → slice_get widths own ≡ Some width
    → replicate width true ++ marks_below group widths (place - 1) ≡ marks_below group widths place
own_left group widths own place width rises size some here wide =
    let e : suc (place - 1) ≡ place = omega (arith, some) in
    ap (λ q. q ++ marks_below group widths (place - 1)) (sym (own_mark group widths own (place - 1) width rises size here wide)) ∙ ap (marks_below group widths) e

-- where something is left, a device is
pub place_left : (group widths : List ℕ) (place count : ℕ) → count ≡ 0 → 1 ≤ length (marks_left group widths place count) → 1 ≤ place
place_left group widths zero count none some = absurd (let e : 1 ≤ 0 = subst (λ n. 1 ≤ length (replicate n true ++ [])) none some in omega (arith, e))
place_left group widths (suc place) count none some = omega arith

-- a run that is used up
pub no_run : (count : ℕ) (own : Bool) (rest : List Bool) → count ≡ 0 → replicate count own ++ rest ≡ rest
no_run count own rest none = ap (λ n. replicate n own ++ rest) none

-- ---- the next run

-- the last of those that are left is before this place, or there is none
pub record IsEnd (group : List ℕ) (own end : ℕ) : Type 0 where
  pub none : own ≡ 0 → end ≡ 0
  pub some : 1 ≤ own → slice_get group (own - 1) ≡ Some (end - 1)
  pub bound : 1 ≤ own → 1 ≤ end

-- up to a place between there are only others
split_within : (group : List ℕ) (own place end at : ℕ) → RisesFrom 0 group → IsSplit group own place → IsEnd group own end → end ≤ at → at ≤ place → IsSplit group own at
split_within group own place end at rises split is low high = record {
  below = λ i other lt here. omega (arith, low, (split_end group own place end rises split is.none is.some is.bound (omega (arith, low, high))).below i other lt here);
  above = λ i other from here. omega (arith, high, split.above i other from here);
}

pub passed_row : (group widths : List ℕ) (own place end at : ℕ) → IsRow group widths own place → IsEnd group own end → end ≤ at → at ≤ place → IsRow group widths own at
passed_row group widths own place end at row is low high = record {
  rising = row.rising;
  counted = row.counted;
  wide = row.wide;
  low = row.low;
  few = omega (arith, row.few, high);
  within = row.within;
  split = split_within group own place end at row.rising row.split is low high;
}

pub passed_marks : (group widths : List ℕ) (own place end at others count : ℕ) → IsRow group widths own place → IsEnd group own end → end ≤ at → others + at ≡ place → count ≡ 0
    → replicate others false ++ marks_left group widths at count ≡ marks_left group widths place count
passed_marks group widths own place end at others count row is low sum used =
    ap (λ q. replicate others false ++ q) (no_run count true (marks_below group widths at) used)
    ∙ others_left group widths own place at others row.counted row.split (split_within group own place end at row.rising row.split is low (omega (arith, sum))) sum
    ∙ sym (no_run count true (marks_below group widths place) used)

pub next_at_end : (group : List ℕ) (own end : ℕ) → IsEnd group own end → 1 ≤ own → IsNext group own end
next_at_end group own end is some = record { some = some; left = is.bound some; here = is.some some }

pub before_row : (group widths : List ℕ) (own place : ℕ) → IsRow group widths own place → IsNext group own place → IsRow group widths (own - 1) (place - 1)
before_row group widths own place row next = record {
  rising = row.rising;
  counted = row.counted;
  wide = row.wide;
  low = row.low;
  few = omega (arith, row.few);
  within = omega (arith, row.within);
  split = split_before group own place row.rising next.some next.here;
}

pub next_width : (group widths : List ℕ) (own place : ℕ) → IsRow group widths own place → IsNext group own place → slice_get widths (own - 1) ≡ Some (slice_index_or widths (own - 1) 0)
next_width group widths own place row next = read_at widths (own - 1) 0 (omega (arith, row.counted, row.within, next.some))

-- bits of the group's own, and the next device's behind them
pub more_marks : (group widths : List ℕ) (own place count : ℕ) → IsRow group widths own place → IsNext group own place
    → marks_left group widths (place - 1) (count + slice_index_or widths (own - 1) 0) ≡ marks_left group widths place count
more_marks group widths own place count row next =
    ap (λ q. q ++ marks_below group widths (place - 1)) (sym (replicate-append-replicate count (slice_index_or widths (own - 1) 0) true))
    ∙ append_assoc (replicate count true) (replicate (slice_index_or widths (own - 1) 0) true) (marks_below group widths (place - 1))
    ∙ ap (λ q. replicate count true ++ q)
    (own_left group widths (own - 1) place (slice_index_or widths (own - 1) 0) row.rising row.counted next.left next.here (next_width group widths own place row next))

-- a run of the group's own, which is next among the marks
pub record OwnRun (group widths : List ℕ) (own place bits : ℕ) (all : List Bool) : Type 0 where
  pub same : marks_left group widths place bits ≡ all
  pub row : IsRow group widths own place
  pub some : 1 ≤ bits

pub first_run : (group widths : List ℕ) (own place bits : ℕ) → IsRow group widths own place → IsNext group own place → bits ≡ 0
    → OwnRun group widths (own - 1) (place - 1) (slice_index_or widths (own - 1) 0) (marks_left group widths place bits)
first_run group widths own place bits row next used =
    let all : slice_index_or widths (own - 1) 0 ≡ bits + slice_index_or widths (own - 1) 0 = omega (arith, used) in
    record {
      same = ap (marks_left group widths (place - 1)) all ∙ more_marks group widths own place bits row next;
      row = before_row group widths own place row next;
      some = let wide = row.wide _ _ (next_width group widths own place row next) in omega (arith, wide);
    }

-- the row of a scan
pub scan_row : (scan : ScanView) (widths group : List ℕ) (count : ℕ) → IsScanOf scan.layout scan.group scan.codes → widths ≡ group_widths scan.layout scan.group (own_codes scan) → group ≡ scan.group
    → count ≡ length scan.layout.parts → count ≤ 32 → IsRow group widths (length group) count
scan_row scan widths group count is widths_are group_is count_is few =
    subst (λ g. IsRow g widths (length g) count) (sym group_is) (record {
      rising = is.rising;
      counted = ap length widths_are ∙ width_count scan is;
      wide = λ i width here. wide_each (entries_at scan.layout.parts scan.group) (own_codes scan) (entries_parts scan is) i width (ap (λ ws. slice_get ws i) (sym widths_are) ∙ here);
      low = λ i other here. omega (arith, all_at (λ k. k < length scan.layout.parts) scan.group is.within i other here, count_is, few);
      few = few;
      within = omega arith;
      split = split_last scan.group (length scan.group) count refl (λ i other here. omega (arith, all_at (λ k. k < length scan.layout.parts) scan.group is.within i other here, count_is));
    })
  where
    entries_parts : (scan : ScanView) → IsScanOf scan.layout scan.group scan.codes → (i : ℕ) (part : DeviceType) → slice_get (entries_at scan.layout.parts scan.group) i ≡ Some part → IsPart part
    entries_parts scan is i part here =
        let within = λ (g : ℕ) (q : ℕ) (e : slice_get scan.group g ≡ Some q). all_at (λ k. k < length scan.layout.parts) scan.group is.within g q e in
        let lt : i < length scan.group = omega (arith, slice_get_within (entries_at scan.layout.parts scan.group) i part here, length-entries_at scan.layout.parts scan.group within) in
        let place = entry_within scan.group i lt in
        is.parts (place.0) part (sym (entry_at scan.layout.parts scan.group within i (place.0) (place.1)) ∙ here)

    wide_each : (parts : List DeviceType) (codes : List (List Bool)) → ((i : ℕ) (part : DeviceType) → slice_get parts i ≡ Some part → IsPart part) → (i w : ℕ) → slice_get (widths_during parts codes) i ≡ Some w → 1 ≤ w
    wide_each [] codes each i w here = some_none w (sym here)
    wide_each (part ∷ parts) [] each i w here = some_none w (sym here)
    wide_each (part ∷ parts) (code ∷ codes) each zero w here = let same : width part code ≡ w = same_Some (width part code) w here in omega (arith, same, width_some part (each 0 part refl) code)
    wide_each (part ∷ parts) (code ∷ codes) each (suc i) w here = wide_each parts codes (λ k. each (suc k)) i w here

-- ---- lists that are equal so far

pub all_same : (xs ys : List ℕ) (at : ℕ) → ((i : ℕ) → i < at → slice_get xs i ≡ slice_get ys i) → length xs ≤ at → length ys ≤ at → xs ≡ ys
all_same xs ys at same le le2 = same_entries xs ys (λ i. elim (cases_lt i at) [ inl lt ↦ same i lt | inr ge ↦ entry_past xs i (omega (arith, ge, le)) ∙ sym (entry_past ys i (omega (arith, ge, le2))) ])

-- the width of the register at a place of a group
pub group_width : (parts : List DeviceType) (group codes : List ℕ) (i place code d e : ℕ) (part : DeviceType) → All (λ place. place < length parts) group → length codes ≡ length group → i < length group
    → place ≡ slice_index_or group i d → code ≡ slice_index_or codes i e → slice_get parts place ≡ Some part
    → slice_get (widths_during (entries_at parts group) (codes_of (entries_at parts group) codes)) i ≡ Some (width part (bits_of part.ir_length code))
group_width parts group codes i place code d e part within coded lt place_is code_is is =
    let entry : slice_get (entries_at parts group) i ≡ Some part
    = entry_at parts group (λ g q h. all_at (λ k. k < length parts) group within g q h) i place (read_at group i d lt ∙ ap Some (sym place_is)) ∙ is in
    widths_zip_at (entries_at parts group) (codes_of (entries_at parts group) codes) i part (bits_of part.ir_length code) entry
    (code_at (entries_at parts group) codes i code part entry (read_at codes i e (omega (arith, lt, coded)) ∙ ap Some (sym code_is)))

pub group_widths_counted : (parts : List DeviceType) (group codes : List ℕ) → All (λ place. place < length parts) group → length codes ≡ length group
    → length (widths_during (entries_at parts group) (codes_of (entries_at parts group) codes)) ≡ length group
group_widths_counted parts group codes within coded =
    let size : length (entries_at parts group) ≡ length group = length-entries_at parts group (λ g q h. all_at (λ k. k < length parts) group within g q h) in
    by (entries_at parts group) codes (coded ∙ sym size) ∙ size
  where
    by : (entries : List DeviceType) (codes : List ℕ) → length codes ≡ length entries → length (widths_during entries (codes_of entries codes)) ≡ length entries
    by [] codes long = refl
    by (part ∷ entries) [] long = absurd (omega (arith, long))
    by (part ∷ entries) (code ∷ codes) long = ap suc (by entries codes (omega (arith, long)))

-- ---- sums of entries

pub more_summed : (all : List ℕ) (sum at x : ℕ) → sum + sum_by (λ w. w) (drop at all) ≡ sum_by (λ w. w) all → slice_get all at ≡ Some x → sum + x + sum_by (λ w. w) (drop (at + 1) all) ≡ sum_by (λ w. w) all
more_summed all sum at x whole here =
    let next : at + 1 ≡ suc at = omega arith in
    omega (arith, whole, ap (sum_by (λ (w : ℕ). w)) (drop_at all at x here), sum_by-cons (λ (w : ℕ). w) x (drop (suc at) all), ap (λ n. sum_by (λ (w : ℕ). w) (drop n all)) next)

pub all_summed : (all : List ℕ) (sum at : ℕ) → sum + sum_by (λ w. w) (drop at all) ≡ sum_by (λ w. w) all → length all ≤ at → sum ≡ sum_by (λ w. w) all
all_summed all sum at whole le = omega (arith, whole, ap (sum_by (λ (w : ℕ). w)) (drop_past all at le))
