-- Texts that are loaded in front, pins, and the cells of nets.
use Rattle.std.proofs.Common.{◌≡◌, ◌≤◌, ◌<◌, ℕ, zero, suc, List, [], ◌∷◌, ◌++◌, length, take, drop, get_or, Option, Some, None, option_map, IfSome, Result, Ok, Err, append_assoc, length-append, inl, inr, refl, sym, ap, ◌∙◌, arith}
use Rattle.std.proofs.lemmas.Bool.{cases_lt, lt-ltb}
use Rattle.std.proofs.lemmas.List.{take_all, length-take-le}
use Rattle.std.proofs.lemmas.Option.{same_Some}
use Rattle.bsdl_lex.specs.Tokens.{lexed}
use Rattle.bsdl_read.specs.declared.read.Entity.{Entity}
use Rattle.bsdl_read.specs.Reading.{read_of, shape_of}
use Rattle.ports.specs.Shelves.{NamedBytes, named, GivesFront}
use Rattle.chain_model.specs.declared.cable.Board.{Board}
use Rattle.chain_model.specs.Boards.{cells_at, HasPins, EachHasPins}
use Rattle.setup_read.specs.declared.setup.SetupRefusal.{SetupRefusal}
use Rattle.setup_read.specs.declared.setup.SetupRefusal.TheVariants as refusal
use Rattle.setup_read.specs.Boards.{Files, Reads, RefusesAs, NamedBoard, and_then, entity_in, entity_of, named_board, AreDevices, device_of, devices_of, with_board}
use Rattle.ports.specs.declared.shelf.Load.{Load}
use Rattle.setup_read.specs.Loads.{AddsAllBut, AddsAll, bsdl_names}
use Rattle.setup_read.proofs.LoadLaws.{loaded_next}
use Rattle.setup_read.specs.declared.boards.Devices.{Devices}
use Rattle.setup_document.specs.declared.plan.DeviceEntry.{DeviceEntry}

-- ---- a text that is too long is refused by its front

abbrev too_long : List ℕ → Type 0
too_long text = lexed text ≡ Err (record { at = 4194304; cause = 4 })

long : (text : List ℕ) → 4194304 < length text → too_long text
long text lt = let e = lt-ltb 4194304 (length text) lt in rw e refl

refused : (text : List ℕ) → too_long text → read_of text ≡ Err (record { at = 4194304; cause = 4 })
refused text is = rw is refl

pub read_front : (text : List ℕ) → read_of (take 4194305 text) ≡ read_of text
read_front text = elim (cases_lt (length text) 4194305) [
  | inl lt ↦ ap read_of (take_all 4194305 text (omega (arith, lt)))
  | inr ge ↦
      let size = length-take-le 4194305 text (omega (arith, ge)) in
      refused (take 4194305 text) (long (take 4194305 text) (omega (arith, size))) ∙ sym (refused text (long text (omega (arith, ge))))
]

front_of : (device : ℕ) (found : Option (List ℕ)) (text : List ℕ) → option_map (take 4194305) found ≡ Some text → entity_of device found ≡ entity_in device (read_of text)
front_of device None text is = absurd (cc is)
front_of device (Some whole) text is = ap (λ read. entity_in device read) (sym (read_front whole) ∙ ap read_of (same_Some _ _ is))

pub read_told : (files : Option (List NamedBytes)) (device : ℕ) (name text : List ℕ) (result : Result Entity SetupRefusal) → GivesFront files name 4194305 text → Reads shape_of result (entity_in device (read_of text)) → IfSome files (λ told. Reads shape_of result (entity_of device (named told name)))
read_told None device name text result given read = tt
read_told (Some told) device name text result given read = rw (front_of device (named told name) text given) read

-- ---- cells

pub cells_found : (boards : List Board) (place : ℕ) (board : Board) → place < length boards → cells_at boards place ≡ (get_or boards place board).part.boundary_length
cells_found [] place board lt = absurd (omega (arith, lt))
cells_found (first ∷ boards) zero board lt = refl
cells_found (first ∷ boards) (suc place) board lt = cells_found boards place board (omega (arith, lt))

pub no_cells : (boards : List Board) (place : ℕ) → length boards ≤ place → cells_at boards place ≡ 0
no_cells [] place le = refl
no_cells (first ∷ boards) zero le = absurd (omega (arith, le))
no_cells (first ∷ boards) (suc place) le = no_cells boards place (omega (arith, le))

-- ---- devices one after the other

pub refused_first : {A B : Type 0} (refused : SetupRefusal) (read : Result A SetupRefusal) (more : A → Result B SetupRefusal) → RefusesAs refused read → RefusesAs refused (and_then read more)
refused_first (refusal.Plain cause place) read more is = rw is refl
refused_first (refusal.Layout layout) read more is = rw is refl
refused_first (refusal.Absent device) read more is = rw is refl
refused_first (refusal.Bsdl device at cause) read more is = rw is refl
refused_first (refusal.Pins device) read more is = rw is refl
refused_first (refusal.Cell net) read more is = rw is refl
refused_first refusal.Fault read more is = tt
refused_first refusal.Memory read more is = tt

-- the devices that were read stand before those that are left
abbrev pub behind : List (List ℕ) → List Board → Devices → Result Devices SetupRefusal
behind names boards devices = Ok (record { names = names ++ devices.names; boards = boards ++ devices.boards })

abbrev pub ReadsOn : Files → List DeviceEntry → ℕ → List DeviceEntry → List (List ℕ) → List Board → Type 0
ReadsOn files all index left names boards = devices_of files 1 all ≡ and_then (devices_of files (suc index) left) (behind names boards)

joined : (read : Result Devices SetupRefusal) (names : List (List ℕ)) (boards : List Board) (found : NamedBoard) → and_then (and_then read (λ devices. Ok (with_board found devices))) (behind names boards) ≡ and_then read (behind (names ++ found.name ∷ []) (boards ++ found.board ∷ []))
joined (Ok devices) names boards found = λ i. Ok (record { names = sym (append_assoc names (found.name ∷ []) devices.names) i; boards = sym (append_assoc boards (found.board ∷ []) devices.boards) i })
joined (Err refused) names boards found = refl

pub reads_next : (files : Files) (all : List DeviceEntry) (index : ℕ) (entry : DeviceEntry) (left : List DeviceEntry) (names : List (List ℕ)) (boards : List Board) (found : NamedBoard) → ReadsOn files all index (entry ∷ left) names boards → device_of files (suc index) entry ≡ Ok found → ReadsOn files all (suc index) left (names ++ found.name ∷ []) (boards ++ found.board ∷ [])
reads_next files all index entry left names boards found so_far is = so_far ∙ rw is (joined (devices_of files (suc (suc index)) left) names boards found)

pub reads_no_more : (files : Files) (all : List DeviceEntry) (index : ℕ) (entry : DeviceEntry) (left : List DeviceEntry) (names : List (List ℕ)) (boards : List Board) (refused : SetupRefusal) → ReadsOn files all index (entry ∷ left) names boards → RefusesAs refused (device_of files (suc index) entry) → RefusesAs refused (devices_of files 1 all)
reads_no_more files all index entry left names boards refused so_far is = rw so_far (refused_first refused (devices_of files (suc index) (entry ∷ left)) (behind names boards) (refused_first refused (device_of files (suc index) entry) _ is))

-- ---- the same where the files are told

-- how far the devices were read: the shelf's files and count are as they were, and the loads are those of the devices that were read
pub record Going (files_before files : Option (List NamedBytes)) (count_before count : ℕ) (loads_before loads : List Load) (all : List DeviceEntry) (index : ℕ) (names : List (List ℕ)) (boards : List Board) : Type 0 where
  pub files_kept : files ≡ files_before
  pub count_kept : count ≡ count_before
  pub loaded : AddsAllBut loads_before loads (bsdl_names all) (bsdl_names (drop index all))
  pub read : IfSome files_before (λ told. ReadsOn (named told) all index (drop index all) names boards)
  pub devices : AreDevices index (record { names = names; boards = boards })

pub item_left : {A : Type 0} (all : List A) (index : ℕ) (item : A) → index < length all → item ≡ get_or all index item → drop index all ≡ item ∷ drop (suc index) all
item_left [] index item lt is = absurd (omega (arith, lt))
item_left (first ∷ all) zero item lt is = ap (λ x. x ∷ all) (sym is)
item_left (first ∷ all) (suc index) item lt is = item_left all index item (omega (arith, lt)) is

pub told_failure : (before files : Option (List NamedBytes)) (all : List DeviceEntry) (index number : ℕ) (entry : DeviceEntry) (names : List (List ℕ)) (boards : List Board) (refused : SetupRefusal) (found : Result (List ℕ × Board) SetupRefusal) (result : Result Devices SetupRefusal) →
    files ≡ before → number ≡ suc index → drop index all ≡ entry ∷ drop (suc index) all → found ≡ Err refused → result ≡ Err refused →
    IfSome before (λ told. ReadsOn (named told) all index (drop index all) names boards) →
    IfSome files (λ told. Reads named_board found (device_of (named told) number entry)) →
    IfSome before (λ told. Reads (λ devices. devices) result (devices_of (named told) 1 all))
told_failure None files all index number entry names boards refused found result kept numbered left found_is result_is so_far is = tt
told_failure (Some told) files all index number entry names boards refused found result kept numbered left found_is result_is so_far is =
    let here = rw (kept, numbered, found_is) at is in
    let until = rw left at so_far in
    rw result_is (reads_no_more (named told) all index entry (drop (suc index) all) names boards refused until here)

pub told_next : (before files : Option (List NamedBytes)) (all : List DeviceEntry) (index number : ℕ) (entry : DeviceEntry) (names : List (List ℕ)) (boards : List Board) (name : List ℕ) (board : Board) (found : Result (List ℕ × Board) SetupRefusal) →
    files ≡ before → number ≡ suc index → drop index all ≡ entry ∷ drop (suc index) all → found ≡ Ok (name, board) →
    IfSome before (λ told. ReadsOn (named told) all index (drop index all) names boards) →
    IfSome files (λ told. Reads named_board found (device_of (named told) number entry)) →
    IfSome before (λ told. ReadsOn (named told) all (suc index) (drop (suc index) all) (names ++ name ∷ []) (boards ++ board ∷ []))
told_next None files all index number entry names boards name board found kept numbered left found_is so_far is = tt
told_next (Some told) files all index number entry names boards name board found kept numbered left found_is so_far is =
    let here = rw (kept, numbered, found_is) at is in
    let until = rw left at so_far in
    reads_next (named told) all index entry (drop (suc index) all) names boards (named_board (name, board)) until here

pins_on : (boards : List Board) (board : Board) → EachHasPins boards → HasPins board → EachHasPins (boards ++ board ∷ [])
pins_on [] board each has = (has, tt)
pins_on (first ∷ boards) board each has = (each.0, pins_on boards board each.1 has)

devices_on : (index : ℕ) (names : List (List ℕ)) (boards : List Board) (name : List ℕ) (board : Board) → AreDevices index (record { names = names; boards = boards }) → HasPins board → AreDevices (suc index) (record { names = names ++ name ∷ []; boards = boards ++ board ∷ [] })
devices_on index names boards name board are has = record {
  names = omega (arith, are.names, length-append names (name ∷ []));
  boards = omega (arith, are.boards, length-append boards (board ∷ []));
  pins = pins_on boards board are.pins has;
}

-- one device more was read
pub went_on : (files_before files files_now : Option (List NamedBytes)) (count_before count count_now : ℕ) (loads_before loads loads_now : List Load) (all : List DeviceEntry) (index next number : ℕ) (entry : DeviceEntry) (names names_now : List (List ℕ)) (boards boards_now : List Board) (name : List ℕ) (board : Board) (found : Result (List ℕ × Board) SetupRefusal) →
    Going files_before files count_before count loads_before loads all index names boards →
    drop index all ≡ entry ∷ drop (suc index) all → next ≡ suc index → number ≡ suc index → found ≡ Ok (name, board) →
    files_now ≡ files → count_now ≡ count → AddsAll loads loads_now (entry.bsdl ∷ []) →
    names_now ≡ names ++ name ∷ [] → boards_now ≡ boards ++ board ∷ [] → HasPins board →
    IfSome files (λ told. Reads named_board found (device_of (named told) number entry)) →
    Going files_before files_now count_before count_now loads_before loads_now all next names_now boards_now
went_on files_before files files_now count_before count count_now loads_before loads loads_now all index next number entry names names_now boards boards_now name board found going left next_is numbered found_is files_is count_is loaded names_is boards_is has read =
    rw (next_is, names_is, boards_is) record {
      files_kept = files_is ∙ going.files_kept;
      count_kept = count_is ∙ going.count_kept;
      loaded = loaded_next loads_before loads loads_now all index entry left going.loaded loaded;
      read = told_next files_before files all index number entry names boards name board found going.files_kept numbered left found_is going.read read;
      devices = devices_on index names boards name board going.devices has;
    }
