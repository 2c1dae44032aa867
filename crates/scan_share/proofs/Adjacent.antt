-- A group of neighbours.
use Rattle.std.proofs.Common.{◌≡◌, ◌≤◌, ◌<◌, ◌+◌, ◌-◌, ℕ, zero, suc, Bool, true, false, List, [], ◌∷◌, ◌++◌, length, replicate, refl, ap, sym, ◌∙◌, arith, Some, append_assoc, nat_eq, subst, min, inl, inr}
use Rattle.std.specs.Prelude.{slice_get}
use Rattle.std.specs.List.{slice_index_or, sum_by}
use Rattle.std.proofs.lemmas.Bool.{cases_lt, eqb-true, eq-eqb}
use Rattle.std.proofs.lemmas.List.{append-nil, replicate-append-replicate}
use Rattle.std.proofs.lemmas.List.Sums.{sum_by-cons}
use Rattle.std.proofs.lemmas.Option.{same_Some, slice_get_within}
use Rattle.grant_table.specs.Apart.{RisesFrom}
use Rattle.scan_share.specs.Lengths.{own_length}
use Rattle.scan_share.specs.Written.{group_widths}
use Rattle.scan_share.specs.Rows.{AreNeighbours, IsScanOf, IsSplit, ScanView, marks_below, own_codes}
use Rattle.scan_share.proofs.Lookups.{some_none}
use Rattle.scan_share.proofs.Places.{or_at, read_at, all_at, run_split, width_count}
use Rattle.scan_share.proofs.Splits.{others_left, own_left, no_run, split_first, split_last}

-- ---- rising places

rises_at : (low : ℕ) (group : List ℕ) (i place : ℕ) → RisesFrom low group → slice_get group i ≡ Some place → low + i ≤ place
rises_at low [] i place rises is = some_none place (sym is)
rises_at low (first ∷ group) zero place rises is = let le : low ≤ first = rises.0 in let same : first ≡ place = same_Some first place is in omega (arith, le, same)
rises_at low (first ∷ group) (suc i) place rises is = let le : low ≤ first = rises.0 in omega (arith, le, rises_at (suc first) group i place rises.1 is)

pub rises_by : (low : ℕ) (group : List ℕ) (i k one other : ℕ) → RisesFrom low group → i ≤ k → slice_get group i ≡ Some one → slice_get group k ≡ Some other → one + (k - i) ≤ other
rises_by low [] i k one other rises le is next = some_none one (sym is)
rises_by low (first ∷ group) zero zero one other rises le is next = let same : one ≡ other = same_Some one other (sym is ∙ next) in omega (arith, same)
rises_by low (first ∷ group) zero (suc k) one other rises le is next = let same : first ≡ one = same_Some first one is in omega (arith, same, rises_at (suc first) group k other rises.1 next)
rises_by low (first ∷ group) (suc i) zero one other rises le is next = absurd (omega (arith, le))
rises_by low (first ∷ group) (suc i) (suc k) one other rises le is next = omega (arith, rises_by (suc first) group i k one other rises.1 (omega (arith, le)) is next)

-- where the last place is no higher than it has to be, no place is left out
pub neighbours : (group : List ℕ) (last : ℕ) → RisesFrom 0 group → 1 ≤ length group → slice_get group (length group - 1) ≡ Some last → last + 1 ≡ slice_index_or group 0 0 + length group → AreNeighbours group
neighbours group last rises some last_is same = record {
  some = some;
  each = λ i other here.
      let within = slice_get_within group i other here in
      let low = rises_by 0 group 0 i (slice_index_or group 0 0) other rises (omega arith) (read_at group 0 0 some) here in
      let high = rises_by 0 group i (length group - 1) other last rises (omega (arith, within)) here last_is in
      omega (arith, low, high, within, same);
}

pub neighbours_found : (group : List ℕ) (first last : ℕ) → RisesFrom 0 group → Some first ≡ slice_get group 0 → Some last ≡ slice_get group (length group - 1) → nat_eq (last + 1) (first + length group) ≡ true → AreNeighbours group
neighbours_found group first last rises first_is last_is equal =
    let low : slice_index_or group 0 0 ≡ first = or_at group 0 first 0 (sym first_is) in
    neighbours group last rises (omega (arith, slice_get_within group 0 first (sym first_is))) (sym last_is) (omega (arith, eqb-true (last + 1) (first + length group) equal, low))

pub neighbours_told : (group : List ℕ) (first last : ℕ) → Some first ≡ slice_get group 0 → Some last ≡ slice_get group (length group - 1) → AreNeighbours group → nat_eq (last + 1) (first + length group) ≡ true
neighbours_told group first last first_is last_is are =
    let low : slice_index_or group 0 0 ≡ first = or_at group 0 first 0 (sym first_is) in
    eq-eqb (last + 1) (first + length group) (omega (arith, are.some, low, are.each (length group - 1) last (sym last_is)))

-- ---- the sum of the first widths

abbrev first_sum : List ℕ → ℕ → ℕ
first_sum widths zero = 0
first_sum widths (suc k) = slice_index_or widths k 0 + first_sum widths k

first_sum-cons : (w : ℕ) (widths : List ℕ) (k : ℕ) → first_sum (w ∷ widths) (suc k) ≡ w + first_sum widths k
first_sum-cons w widths zero = refl
first_sum-cons w widths (suc k) = omega (arith, first_sum-cons w widths k)

first_sum_all : (widths : List ℕ) → first_sum widths (length widths) ≡ sum_by (λ w. w) widths
first_sum_all [] = refl
first_sum_all (w ∷ widths) = omega (arith, first_sum-cons w widths (length widths), first_sum_all widths, sum_by-cons (λ w. w) w widths)

-- ---- the bits of a scan

own_marks : (group widths : List ℕ) (k : ℕ) → RisesFrom 0 group → length widths ≡ length group → AreNeighbours group → k ≤ length group
    → replicate (first_sum widths k) true ++ marks_below group widths (slice_index_or group 0 0) ≡ marks_below group widths (slice_index_or group 0 0 + k)
own_marks group widths zero rises counted are le = ap (marks_below group widths) {x = slice_index_or group 0 0} {y = slice_index_or group 0 0 + 0} (omega arith)
own_marks group widths (suc k) rises counted are le =
    let first = slice_index_or group 0 0 in
    let width = slice_index_or widths k 0 in
    let here = read_at group k 0 (omega (arith, le)) in
    let place : slice_index_or group k 0 ≡ first + suc k - 1 = omega (arith, are.each k (slice_index_or group k 0) here) in
    let below : first + k ≡ first + suc k - 1 = omega arith in
    ap (λ q. q ++ marks_below group widths first) (sym (replicate-append-replicate width (first_sum widths k) true))
    ∙ append_assoc (replicate width true) (replicate (first_sum widths k) true) (marks_below group widths first)
    ∙ ap (λ q. replicate width true ++ q) (own_marks group widths k rises counted are (omega (arith, le)) ∙ ap (marks_below group widths) below)
    ∙ own_left group widths k (first + suc k) width rises counted (omega arith) (here ∙ ap Some place) (read_at widths k 0 (omega (arith, le, counted)))

-- the bits of the devices before the group, its own, and those of the devices behind it
pub neighbour_marks : (group widths : List ℕ) (devices before own behind : ℕ) → RisesFrom 0 group → length widths ≡ length group → AreNeighbours group
    → ((i other : ℕ) → slice_get group i ≡ Some other → other < devices) → behind ≡ slice_index_or group 0 0 → before + (behind + length group) ≡ devices → own ≡ sum_by (λ w. w) widths
    → replicate before false ++ (replicate own true ++ replicate behind false) ≡ marks_below group widths devices
neighbour_marks group widths devices before own behind rises counted are within behind_is all own_is =
    let first = slice_index_or group 0 0 in
    let size = length group in
    let own_sum : own ≡ first_sum widths size = own_is ∙ sym (first_sum_all widths) ∙ ap (first_sum widths) counted in
    let low : IsSplit group 0 first = record { below = λ i other lt is. absurd (omega (arith, lt)); above = λ i other le is. omega (arith, are.each i other is) } in
    let end : IsSplit group size (first + size) = split_last group size (first + size) refl (λ i other is. omega (arith, are.each i other is, slice_get_within group i other is)) in
    let tail : replicate behind false ≡ marks_below group widths first =
    sym (append-nil (replicate behind false)) ∙ ap (λ k. replicate k false ++ []) behind_is ∙ others_left group widths 0 first 0 first counted low (split_first group) (omega arith) in
    ap (λ q. replicate before false ++ (replicate own true ++ q)) tail
    ∙ ap (λ k. replicate before false ++ (replicate k true ++ marks_below group widths first)) own_sum
    ∙ ap (λ q. replicate before false ++ q) (own_marks group widths size rises counted are (omega arith))
    ∙ others_left group widths size devices (first + size) before counted (split_last group size devices refl within) end (omega (arith, all, behind_is))

pub scan_marks : (scan : ScanView) (group : List ℕ) (devices own : ℕ) → IsScanOf scan.layout scan.group scan.codes → group ≡ scan.group → devices ≡ length scan.layout.parts → AreNeighbours scan.group
    → own ≡ own_length scan.layout scan.group (own_codes scan)
    → replicate (devices - (slice_index_or group 0 0 + length group)) false ++ (replicate own true ++ replicate (slice_index_or group 0 0) false)
    ≡ marks_below scan.group (group_widths scan.layout scan.group (own_codes scan)) devices
scan_marks scan group devices own is group_is devices_is are own_is =
    subst (λ g. replicate (devices - (slice_index_or g 0 0 + length g)) false ++ (replicate own true ++ replicate (slice_index_or g 0 0) false) ≡ marks_below scan.group (group_widths scan.layout scan.group (own_codes scan)) devices)
    (sym group_is)
    (neighbour_marks scan.group (group_widths scan.layout scan.group (own_codes scan)) devices (devices - (slice_index_or scan.group 0 0 + length scan.group)) own (slice_index_or scan.group 0 0) is.rising
    (width_count scan is) are within refl (omega (arith, fits)) own_is)
  where
    within : (i other : ℕ) → slice_get scan.group i ≡ Some other → other < devices
    within i other here = omega (arith, all_at (λ k. k < length scan.layout.parts) scan.group is.within i other here, devices_is)

    fits : slice_index_or scan.group 0 0 + length scan.group ≤ devices
    fits =
        let last = read_at scan.group (length scan.group - 1) 0 (omega (arith, are.some)) in
        omega (arith, are.some, are.each (length scan.group - 1) (slice_index_or scan.group (length scan.group - 1) 0) last, within (length scan.group - 1) (slice_index_or scan.group (length scan.group - 1) 0) last)

-- ---- a part of a run, where those before it are used up

pub run_from : (before count own : ℕ) (rest : List Bool) → before ≡ 0 → count ≤ own
    → replicate count true ++ (replicate before false ++ (replicate (own - count) true ++ rest)) ≡ replicate before false ++ (replicate own true ++ rest)
run_from before count own rest used le =
    ap (λ q. replicate count true ++ q) (no_run before false (replicate (own - count) true ++ rest) used) ∙ run_split count own true rest le ∙ sym (no_run before false (replicate own true ++ rest) used)

pub both_runs : (before others own count most : ℕ) (rest : List Bool) → others ≡ min before most → count ≤ own → count ≤ most - others
    → replicate others false ++ (replicate count true ++ (replicate (before - others) false ++ (replicate (own - count) true ++ rest))) ≡ replicate before false ++ (replicate own true ++ rest)
both_runs before others own count most rest is le few =
    ap (λ q. replicate others false ++ q) behind ∙ run_split others before false (replicate own true ++ rest) (omega (arith, is))
  where
    behind : replicate count true ++ (replicate (before - others) false ++ (replicate (own - count) true ++ rest)) ≡ replicate (before - others) false ++ (replicate own true ++ rest)
    behind = elim (cases_lt most before) [
      | inl lt ↦
          let none : count ≡ 0 = omega (arith, is, few, lt) in
          no_run count true (replicate (before - others) false ++ (replicate (own - count) true ++ rest)) none ∙ ap (λ k. replicate (before - others) false ++ (replicate k true ++ rest)) (omega (arith, none))
      | inr ge ↦ run_from (before - others) count own rest (omega (arith, is, ge)) le
    ]

pub last_run : (before own count behind : ℕ) → before ≡ 0 → own ≡ 0 → count ≤ behind
    → replicate count false ++ (replicate before false ++ (replicate own true ++ replicate (behind - count) false)) ≡ replicate before false ++ (replicate own true ++ replicate behind false)
last_run before own count behind used past le =
    ap (λ q. replicate count false ++ q) (none_left (replicate (behind - count) false))
    ∙ replicate-append-replicate count (behind - count) false ∙ ap (λ k. replicate k false) (omega (arith, le)) ∙ sym (none_left (replicate behind false))
  where
    none_left : (rest : List Bool) → replicate before false ++ (replicate own true ++ rest) ≡ rest
    none_left rest = no_run before false (replicate own true ++ rest) used ∙ no_run own true rest past
