-- The codes of a scan: those of BYPASS, and at the group's places its own.
use Rattle.std.proofs.Common.{◌≡◌, ◌≤◌, ◌<◌, ◌==◌, ℕ, suc, List, [], ◌∷◌, length, map, drop, ap, sym, ◌∙◌, refl, arith, Some, None, inl, inr}
use Rattle.std.specs.declared.option.Option.{Option}
use Rattle.std.specs.Prelude.{slice_get, slice_set}
use Rattle.std.specs.List.{refill}
use Rattle.std.proofs.lemmas.Bool.{cases_lt}
use Rattle.std.proofs.lemmas.List.{length-map, take_at}
use Rattle.std.proofs.lemmas.Option.{slice_get_within}
use Rattle.grant_table.specs.Layouts.{first_place, bypass_word}
use Rattle.scan_share.specs.Codes.{put_at}
use Rattle.scan_share.specs.Rows.{ScanView, IsScanOf, scan_words}
use Rattle.scan_share.proofs.CodeWords.{drop_at, drop_past}
use Rattle.scan_share.proofs.Groups.{rising_apart}
use Rattle.scan_share.proofs.Lookups.{same_entries, placed, picked, put_at_at, entry_past, length-slice_set}
use Rattle.scan_share.proofs.Places.{all_at, read_at, other_word, length-scan_words}
use Rattle.scan_share.proofs.Splits.{own_word, scan_coded}

-- one more of the group's codes is put
pub put_more : (group own all : List ℕ) (i next place word : ℕ) → next ≡ suc i → slice_get group i ≡ Some place → slice_get own i ≡ Some word
    → put_at (drop next group) (drop next own) (slice_set all place word) ≡ put_at (drop i group) (drop i own) all
put_more group own all i next place word next_is here code =
    (λ k. put_at (drop (next_is k) group) (drop (next_is k) own) (slice_set all place word))
    ∙ (λ k. put_at (sym (drop_at group i place here) k) (sym (drop_at own i word code) k) all)

pub put_all : (group own all : List ℕ) (i : ℕ) → length group ≤ i → put_at (drop i group) (drop i own) all ≡ all
put_all group own all i le = ap (λ g. put_at g (drop i own) all) (drop_past group i le)

-- all of a list is put in the place of another one
pub refill_all : (xs ws : List ℕ) → length ws ≡ length xs → refill (length xs) xs ws ≡ ws
refill_all xs ws long = take_at ws (drop (length ws) xs) (length xs) long

pub length-put : (group own all : List ℕ) → length (put_at group own all) ≡ length all
length-put [] own all = refl
length-put (place ∷ group) [] all = refl
length-put (place ∷ group) (word ∷ own) all = length-put group own (slice_set all place word) ∙ length-slice_set all place word

pub words_put : (scan : ScanView) → IsScanOf scan.layout scan.group scan.codes → put_at scan.group scan.codes (map bypass_word scan.layout.parts) ≡ scan_words scan
words_put scan is = same_entries (put_at scan.group scan.codes bypass) (scan_words scan) (λ i.
    put_at_at scan.group scan.codes bypass (rising_apart 0 scan.group is.rising) (scan_coded scan is)
    (λ g place here. omega (arith, all_at (λ k. k < length scan.layout.parts) scan.group is.within g place here, length-map scan.layout.parts bypass_word)) i
    ∙ by i (first_place (λ place. place == i) scan.group) refl)
  where
    bypass : List ℕ
    bypass = map bypass_word scan.layout.parts

    by : (i : ℕ) (o : Option ℕ) → first_place (λ place. place == i) scan.group ≡ o → picked o scan.codes (slice_get bypass i) ≡ slice_get (scan_words scan) i
    by i None none = elim (cases_lt i (length scan.layout.parts)) [
      | inl lt ↦ read_at bypass i 0 (omega (arith, lt, length-map scan.layout.parts bypass_word)) ∙ sym (other_word scan i is lt none)
      | inr ge ↦ entry_past bypass i (omega (arith, ge, length-map scan.layout.parts bypass_word)) ∙ sym (entry_past (scan_words scan) i (omega (arith, ge, length-scan_words scan)))
    ]
    by i (Some own) own_is =
        let here : slice_get scan.group own ≡ Some i = placed scan.group i own own_is in
        read_at scan.codes own 0 (omega (arith, slice_get_within scan.group own i here, scan_coded scan is))
        ∙ sym (own_word scan own i is (all_at (λ k. k < length scan.layout.parts) scan.group is.within own i here) here)
