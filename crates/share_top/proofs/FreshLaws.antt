-- Before the first step of a play the shared devices hold what the private ones hold, which is what they hold at power-up.
use Rattle.std.proofs.Common.{◌≡◌, ◌+◌, ◌≤◌, ◌<◌, ◌||◌, ℕ, zero, suc, Bool, true, false, cond, nat_eq, List, [], ◌∷◌, map, length, slice_get, refl, ap, sym, subst, ◌∙◌, arith, Some}
use Rattle.std.specs.List.{cons_option}
use Rattle.std.proofs.lemmas.Bool.{eqb-true, eq-eqb}
use Rattle.chain_model.specs.Boards.{placed}
use Rattle.chain_model.specs.Chains.{ChainState, DeviceState, Placed, powered_content, powered_device}
use Rattle.grant_table.specs.Faults.{is_one_of}
use Rattle.grant_table.specs.Layouts.{GrantShape, group_of}
use Rattle.grant_table.proofs.Groups.{keeps_apart}
use Rattle.scan_share.specs.Laws.{EachIsBoard}
use Rattle.scan_share.specs.PrivateChains.{entries_at}
use Rattle.scan_share.specs.Scans.{Starts, contents_of}
use Rattle.plays.specs.Alone.{Holds, content_for, content_or, content_within, contents_from}
use Rattle.plays.specs.Laws.{PartsFit}
use Rattle.plays.specs.Plays.{Setting, seat_of, start}
use Rattle.plays.specs.Plays as plays
use Rattle.session_table.specs.Shown.{IsFresh}
use Rattle.setup_read.specs.declared.setup.Setup.{Setup}
use Rattle.setup_read.specs.Setups.{IsWhole as IsWholeSetup}
use Rattle.share_top.specs.Pipes.{uses_trst, whole_chain}
use Rattle.share_top.specs.Serves.{setting_of}
use Rattle.share_top.specs.Sessions.{IsSound}

-- ---- boards, by their types and their pins

again : (boards : List Placed) → plays.placed (map (λ (board : Placed). board.part) boards) (map (λ (board : Placed). board.pins) boards) ≡ boards
again [] = refl
again (board ∷ boards) = ap (λ rest. board ∷ rest) (again boards)

fit_each : (boards : List Placed) → EachIsBoard boards → PartsFit (map (λ (board : Placed). board.part) boards) (map (λ (board : Placed). board.pins) boards)
fit_each [] each = tt
fit_each (board ∷ boards) each = (each.0, fit_each boards each.1)

-- ---- what a grant's devices hold

there : (boards : List Placed) (place : ℕ) → place < length boards → (board : Placed) × (slice_get boards place ≡ Some board)
there [] place less = absurd (omega (arith, less))
there (board ∷ boards) zero less = (board, refl)
there (board ∷ boards) (suc place) less = there boards place (omega (arith, less))

abbrev AreWithin : List ℕ → ℕ → Type 0
AreWithin group count = (place : ℕ) → is_one_of place group ≡ true → place < count

first_within : (first : ℕ) (group : List ℕ) (count : ℕ) → AreWithin (first ∷ group) count → first < count
first_within first group count within = within first (rw (eq-eqb first first refl) refl)

rest_within : (first : ℕ) (group : List ℕ) (count : ℕ) → AreWithin (first ∷ group) count → AreWithin group count
rest_within first group count within place among = within place (second (nat_eq first place) (is_one_of place group) among)
  where
    second : (a b : Bool) → b ≡ true → (a || b) ≡ true
    second true b h = refl
    second false b h = h

-- at the place of a board, a group's devices at power-up hold what it holds, or nothing
own_or_none : (boards : List Placed) (place : ℕ) (board : Placed) → slice_get boards place ≡ Some board → (group : List ℕ) → AreWithin group (length boards)
    → content_or (content_within group (map powered_device (entries_at boards group)) place) (powered_content board) ≡ powered_content board
own_or_none boards place board found [] within = refl
own_or_none boards place board found (first ∷ group) within =
    let at : (one : Placed) × (slice_get boards first ≡ Some one) = there boards first (first_within first group (length boards) within) in
    subst (λ o. content_or (content_within (first ∷ group) (map powered_device (cons_option o (entries_at boards group))) place) (powered_content board) ≡ powered_content board) (sym at.1)
    (by at.0 at.1 (nat_eq first place) refl (own_or_none boards place board found group (rest_within first group (length boards) within)))
  where
    by : (one : Placed) → slice_get boards first ≡ Some one → (t : Bool) → nat_eq first place ≡ t
        → content_or (content_within group (map powered_device (entries_at boards group)) place) (powered_content board) ≡ powered_content board
        → content_or (cond t (Some (powered_content one)) (content_within group (map powered_device (entries_at boards group)) place)) (powered_content board) ≡ powered_content board
    by one is true same rest =
        let both : Some one ≡ Some board = sym is ∙ ap (slice_get boards) (eqb-true first place same) ∙ found in
        let same_board : one ≡ board = cc in
        ap powered_content same_board
    by one is false other rest = rest

-- ---- what all devices hold

module _ (setting : Setting) (boards : List Placed) (are : plays.boards_of setting ≡ boards) where
  seats_hold : (place : ℕ) (board : Placed) → slice_get boards place ≡ Some board → (grants : List GrantShape) → ((grant : ℕ) → AreWithin (group_of grants grant) (length boards))
      → content_for grants (map (seat_of setting) grants) place (powered_content board) ≡ powered_content board
  seats_hold place board found [] within = refl
  seats_hold place board found (shape ∷ grants) within =
      ap (content_or (content_within shape.group (map powered_device (entries_at (plays.boards_of setting) shape.group)) place)) (seats_hold place board found grants (λ grant. within (suc grant)))
      ∙ ap (λ all. content_or (content_within shape.group (map powered_device (entries_at all shape.group)) place) (powered_content board)) are
      ∙ own_or_none boards place board found shape.group (within zero)

  from_place : (from : ℕ) (rest : List Placed) → ((at place : ℕ) (board : Placed) → place ≡ at + from → slice_get rest at ≡ Some board → content_for setting.layout.grants (start setting).seats place (powered_content board) ≡ powered_content board)
      → contents_from setting (start setting) from rest ≡ map powered_content rest
  from_place from [] each = refl
  from_place from (board ∷ rest) each = λ i. each 0 from board (omega arith) refl i ∷ from_place (suc from) rest (λ at place other is found. each (suc at) place other (omega (arith, is)) found) i

  powered_contents : ((grant : ℕ) → AreWithin (group_of setting.layout.grants grant) (length boards)) → contents_from setting (start setting) 0 (plays.boards_of setting) ≡ map powered_content boards
  powered_contents within =
      ap (contents_from setting (start setting) 0) are
      ∙ from_place 0 boards (λ at place board is found. seats_hold place board (subst (λ p. slice_get boards p ≡ Some board) (omega (arith, is)) found) setting.layout.grants within)

devices_hold : (boards : List Placed) → map (λ (d : DeviceState). d.content) (map powered_device boards) ≡ map powered_content boards
devices_hold [] = refl
devices_hold (board ∷ boards) = ap (λ rest. powered_content board ∷ rest) (devices_hold boards)

length-types : (boards : List Placed) → length (map (λ (board : Placed). board.part) boards) ≡ length boards
length-types [] = refl
length-types (board ∷ boards) = ap suc (length-types boards)

-- ---- a setup's chain at rest

module _ (setup : Setup) (whole : IsWholeSetup setup) (sound : IsSound setup) where
  abbrev boards : List Placed
  boards = map placed setup.boards

  boards_are : plays.boards_of (setting_of setup) ≡ boards
  boards_are = ap (λ parts. plays.placed parts (map (λ (board : Placed). board.pins) boards)) (sym sound.parts_are) ∙ again boards

  groups_within : (grant : ℕ) → AreWithin (group_of setup.layout.grants grant) (length boards)
  groups_within grant place among =
      let less : place < length setup.layout.parts = (keeps_apart setup.layout whole.layout).within grant place among in
      let count : length setup.layout.parts ≡ length boards = ap length (sym sound.parts_are) ∙ length-types boards in
      omega (arith, less, count)

  parts_fit : PartsFit (setting_of setup).layout.parts (setting_of setup).pins
  parts_fit = subst (λ parts. PartsFit parts (map (λ (board : Placed). board.pins) boards)) sound.parts_are (fit_each boards sound.boards)

  holds_first : (chain : ChainState) → contents_of chain ≡ contents_of (whole_chain setup) → Holds (setting_of setup) chain (start (setting_of setup))
  holds_first chain contents = contents ∙ devices_hold boards ∙ sym (powered_contents (setting_of setup) boards boards_are groups_within)

  pub is_fresh : (trst : Bool) → trst ≡ uses_trst setup → (chain : ChainState) → Starts setup.layout (whole_chain setup) chain → IsFresh (setting_of setup) setup.layout setup.vector trst chain
  is_fresh trst trst_is chain started = record {
    layout_is = refl;
    vector_is = refl;
    trst_is = trst_is;
    fit = parts_fit;
    parked = started.parked;
    holds = holds_first chain started.contents;
    made = subst (λ made. made ≤ 6) (sym started.made) (omega arith);
  }
