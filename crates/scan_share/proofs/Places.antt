-- What stands at a place of a scan.
use Rattle.std.proofs.Common.{◌≡◌, ◌≤◌, ◌<◌, ◌-◌, ◌^◌, ◌==◌, ℕ, zero, suc, Bool, true, false, List, [], ◌∷◌, ◌++◌, length, map, take, replicate, refl, ap, sym, subst, ◌∙◌, arith, Some, None, append_assoc}
use Rattle.std.specs.Prelude.{slice_get}
use Rattle.std.specs.Option.{option_map}
use Rattle.std.specs.List.{All, slice_index_or}
use Rattle.std.proofs.lemmas.Option.{slice_get-map, slice_get_within, same_Some}
use Rattle.std.proofs.lemmas.List.{length-map, append-nil, take_all, replicate-append-replicate}
use Rattle.scan_bits.specs.Words.{bits_of, number_of}
use Rattle.scan_bits.specs.Registers.{joined}
use Rattle.part_model.specs.Parts.{DeviceType}
use Rattle.grant_table.specs.Layouts.{first_place, bypass_word}
use Rattle.scan_share.specs.PrivateChains.{entries_at}
use Rattle.scan_share.specs.Scans.{codes_of, code_during, widths_during}
use Rattle.scan_share.specs.Codes.{AreCodes}
use Rattle.scan_share.specs.Written.{group_widths}
use Rattle.scan_share.specs.Rows.{ScanView, IsScanOf, own_codes, scan_codes, scan_words, own_stages, marks_below}
use Rattle.scan_share.proofs.Lookups.{placed, entry_at, entry_within, length-entries_at, code_or, code_during_is, codes_at, some_none}
use Rattle.scan_share.proofs.CodeWords.{number_small}
use Rattle.scan_share.proofs.Loads.{length-codes_from}
use Rattle.scan_share.proofs.Updates.{length-widths_during, length-stages_from, stage_at}

-- ---- entries

pub or_at : {X : Type 0} (xs : List X) (i : ℕ) (x d : X) → slice_get xs i ≡ Some x → slice_index_or xs i d ≡ x
or_at [] i x d is = some_none x (sym is)
or_at (y ∷ xs) zero x d is = same_Some y x is
or_at (y ∷ xs) (suc i) x d is = or_at xs i x d is

pub read_at : {X : Type 0} (xs : List X) (i : ℕ) (d : X) → i < length xs → slice_get xs i ≡ Some (slice_index_or xs i d)
read_at [] i d lt = absurd (omega (arith, lt))
read_at (y ∷ xs) zero d lt = refl
read_at (y ∷ xs) (suc i) d lt = read_at xs i d (omega (arith, lt))

pub all_at : (P : ℕ → Type 0) (xs : List ℕ) → All P xs → (i x : ℕ) → slice_get xs i ≡ Some x → P x
all_at P xs all i x is = subst P (or_at xs i x 0 is) (all i 0 (slice_get_within xs i x is))

-- ---- codes

pub length-codes : (parts : List DeviceType) (words : List ℕ) → AreCodes parts words → length (codes_of parts words) ≡ length parts
length-codes [] [] are = refl
length-codes [] (word ∷ words) are = absurd are
length-codes (part ∷ parts) [] are = absurd are
length-codes (part ∷ parts) (word ∷ words) are = ap suc (length-codes parts words are.1)

pub length-words : (parts : List DeviceType) (words : List ℕ) → AreCodes parts words → length words ≡ length parts
length-words [] [] are = refl
length-words [] (word ∷ words) are = absurd are
length-words (part ∷ parts) [] are = absurd are
length-words (part ∷ parts) (word ∷ words) are = ap suc (length-words parts words are.1)

pub code_at : (parts : List DeviceType) (words : List ℕ) (i word : ℕ) (part : DeviceType) → slice_get parts i ≡ Some part → slice_get words i ≡ Some word
    → slice_get (codes_of parts words) i ≡ Some (bits_of part.ir_length word)
code_at [] words i word part p w = some_none part (sym p)
code_at (first ∷ parts) [] i word part p w = some_none word (sym w)
code_at (first ∷ parts) (code ∷ words) zero word part p w = λ k. Some (bits_of (same_Some first part p k).ir_length (same_Some code word w k))
code_at (first ∷ parts) (code ∷ words) (suc i) word part p w = code_at parts words i word part p w

pub code_below : (parts : List DeviceType) (words : List ℕ) (i word : ℕ) (part : DeviceType) → AreCodes parts words → slice_get parts i ≡ Some part → slice_get words i ≡ Some word → word < 2 ^ part.ir_length
code_below [] words i word part are p w = some_none part (sym p)
code_below (first ∷ parts) [] i word part are p w = absurd are
code_below (first ∷ parts) (code ∷ words) zero word part are p w = subst (λ q. word < 2 ^ q.ir_length) (same_Some first part p) (subst (λ v. v < 2 ^ first.ir_length) (same_Some code word w) are.0)
code_below (first ∷ parts) (code ∷ words) (suc i) word part are p w = code_below parts words i word part are.1 p w

-- ---- a scan

-- the device of the group at a place
pub record OwnAt (scan : ScanView) (place own word : ℕ) (part : DeviceType) : Type 0 where
  pub entry : slice_get (entries_at scan.layout.parts scan.group) own ≡ Some part
  pub code : slice_get (own_codes scan) own ≡ Some (bits_of part.ir_length word)

own_at : (scan : ScanView) (place own word : ℕ) (part : DeviceType) → IsScanOf scan.layout scan.group scan.codes → slice_get scan.layout.parts place ≡ Some part
    → first_place (λ other. other == place) scan.group ≡ Some own → slice_get scan.codes own ≡ Some word → OwnAt scan place own word part
own_at scan place own word part is p o w =
    let entry : slice_get (entries_at scan.layout.parts scan.group) own ≡ Some part
    = entry_at scan.layout.parts scan.group (λ g q e. all_at (λ k. k < length scan.layout.parts) scan.group is.within g q e) own place (placed scan.group place own o) ∙ p in
    record { entry = entry; code = code_at (entries_at scan.layout.parts scan.group) scan.codes own word part entry w }

pub own_size : (scan : ScanView) → IsScanOf scan.layout scan.group scan.codes → length (own_codes scan) ≡ length scan.group
own_size scan is =
    length-codes (entries_at scan.layout.parts scan.group) scan.codes is.coded
    ∙ length-entries_at scan.layout.parts scan.group (λ g q e. all_at (λ k. k < length scan.layout.parts) scan.group is.within g q e)

pub own_code : (scan : ScanView) (place own word : ℕ) (part : DeviceType) → IsScanOf scan.layout scan.group scan.codes → slice_get scan.layout.parts place ≡ Some part
    → first_place (λ other. other == place) scan.group ≡ Some own → slice_get scan.codes own ≡ Some word
    → slice_get (scan_words scan) place ≡ Some word
own_code scan place own word part is p here w =
    let at = own_at scan place own word part is p here w in
    let entries = entries_at scan.layout.parts scan.group in
    slice_get-map number_of (scan_codes scan) place
    ∙ ap (option_map number_of) (codes_at scan.group (own_codes scan) scan.layout.parts place ∙ ap (option_map (λ q. code_during scan.group (own_codes scan) place (replicate q.ir_length true))) p
    ∙ ap Some (code_during_is scan.group (own_codes scan) place (replicate part.ir_length true) (own_size scan is)
    ∙ ap (λ q. code_or q (own_codes scan) (replicate part.ir_length true)) here ∙ or_at (own_codes scan) own (bits_of part.ir_length word) (replicate part.ir_length true) at.code))
    ∙ ap Some (number_small part.ir_length word (code_below entries scan.codes own word part is.coded at.entry w))

other_code : (scan : ScanView) (place word : ℕ) (part : DeviceType) → IsScanOf scan.layout scan.group scan.codes → slice_get scan.layout.parts place ≡ Some part
    → first_place (λ other. other == place) scan.group ≡ None → word ≡ number_of (replicate part.ir_length true)
    → slice_get (scan_words scan) place ≡ Some word
other_code scan place word part is p none word_is =
    slice_get-map number_of (scan_codes scan) place
    ∙ ap (option_map number_of) (codes_at scan.group (own_codes scan) scan.layout.parts place ∙ ap (option_map (λ q. code_during scan.group (own_codes scan) place (replicate q.ir_length true))) p
    ∙ ap Some (code_during_is scan.group (own_codes scan) place (replicate part.ir_length true) (own_size scan is)
    ∙ ap (λ q. code_or q (own_codes scan) (replicate part.ir_length true)) none))
    ∙ ap Some (sym word_is)

-- the code of BYPASS in each other device
pub other_word : (scan : ScanView) (place : ℕ) → IsScanOf scan.layout scan.group scan.codes → place < length scan.layout.parts → first_place (λ other. other == place) scan.group ≡ None
    → slice_get (scan_words scan) place ≡ Some (slice_index_or (map bypass_word scan.layout.parts) place 0)
other_word scan place is lt none =
    let here = entry_within scan.layout.parts place lt in
    let word : slice_index_or (map bypass_word scan.layout.parts) place 0 ≡ bypass_word here.0 =
    or_at (map bypass_word scan.layout.parts) place (bypass_word here.0) 0 (slice_get-map bypass_word scan.layout.parts place ∙ ap (option_map bypass_word) here.1) in
    other_code scan place (slice_index_or (map bypass_word scan.layout.parts) place 0) here.0 is here.1 none word

pub length-scan_words : (scan : ScanView) → length (scan_words scan) ≡ length scan.layout.parts
length-scan_words scan = length-map (scan_codes scan) number_of ∙ length-codes_from scan.group (own_codes scan) 0 scan.layout.parts

-- the widths of the group's registers as ones
abbrev ones_of : List ℕ → List (List Bool)
ones_of widths = map (λ width. replicate width true) widths

pub width_count : (scan : ScanView) → IsScanOf scan.layout scan.group scan.codes → length (group_widths scan.layout scan.group (own_codes scan)) ≡ length scan.group
width_count scan is =
    let entries = entries_at scan.layout.parts scan.group in
    length-widths_during entries (own_codes scan) (length-codes entries scan.codes is.coded)
    ∙ length-entries_at scan.layout.parts scan.group (λ g q e. all_at (λ k. k < length scan.layout.parts) scan.group is.within g q e)

-- ---- stages from the last to the first

pub next_stage : (stages : List (List Bool)) (place : ℕ) (stage : List Bool) → slice_get stages place ≡ Some stage → joined (take (suc place) stages) ≡ stage ++ joined (take place stages)
next_stage [] place stage is = some_none stage (sym is)
next_stage (first ∷ stages) zero stage is = same_Some first stage is ∙ sym (append-nil stage)
next_stage (first ∷ stages) (suc place) stage is =
    ap (λ q. q ++ first) (next_stage stages place stage is) ∙ append_assoc stage (joined (take place stages)) first

pub some_left : (stages : List (List Bool)) (place : ℕ) → 1 ≤ length (joined (take place stages)) → 1 ≤ place
some_left stages zero some = absurd (omega (arith, some))
some_left stages (suc place) some = omega arith

-- the last of the stages below a place comes first
pub stage_before : (stages : List (List Bool)) (place : ℕ) (stage : List Bool) → 1 ≤ place → slice_get stages (place - 1) ≡ Some stage
    → stage ++ joined (take (place - 1) stages) ≡ joined (take place stages)
stage_before stages place stage some is =
    let e : suc (place - 1) ≡ place = omega (arith, some) in
    sym (next_stage stages (place - 1) stage is) ∙ ap (λ k. joined (take k stages)) e

-- a part of a run
pub run_split : (n count : ℕ) (own : Bool) (rest : List Bool) → n ≤ count → replicate n own ++ (replicate (count - n) own ++ rest) ≡ replicate count own ++ rest
run_split n count own rest le =
    sym (append_assoc (replicate n own) (replicate (count - n) own) rest)
    ∙ ap (λ q. q ++ rest) (replicate-append-replicate n (count - n) own ∙ ap (λ k. replicate k own) (omega (arith, le)))

-- a scan has a stage for each device
pub all_stages : (scan : ScanView) (count : ℕ) → count ≡ length scan.layout.parts → take count (own_stages scan) ≡ own_stages scan
all_stages scan count is =
    take_all count (own_stages scan) (omega (arith, is, length-stages_from scan.group (ones_of (widths_during (entries_at scan.layout.parts scan.group) (own_codes scan))) 0 scan.layout.parts))

-- and the bits of the first stages are those below a place
pub marks_are : (scan : ScanView) (place : ℕ) → place ≤ length scan.layout.parts
    → joined (take place (own_stages scan)) ≡ marks_below scan.group (group_widths scan.layout scan.group (own_codes scan)) place
marks_are scan zero le = refl
marks_are scan (suc place) le =
    let ones = ones_of (group_widths scan.layout scan.group (own_codes scan)) in
    let part = entry_within scan.layout.parts place (omega (arith, le)) in
    next_stage (own_stages scan) place (code_during scan.group ones place (false ∷ []))
    (stage_at scan.group ones scan.layout.parts place ∙ ap (option_map (λ part. code_during scan.group ones place (false ∷ []))) part.1)
    ∙ ap (λ q. code_during scan.group ones place (false ∷ []) ++ q) (marks_are scan place (omega (arith, le)))

pub all_marks : (scan : ScanView) (count : ℕ) (widths : List ℕ) → count ≡ length scan.layout.parts → widths ≡ group_widths scan.layout scan.group (own_codes scan)
    → marks_below scan.group widths count ≡ joined (own_stages scan)
all_marks scan count widths is widths_are =
    ap (λ ws. marks_below scan.group ws count) widths_are ∙ sym (marks_are scan count (omega (arith, is))) ∙ ap joined (all_stages scan count is)
