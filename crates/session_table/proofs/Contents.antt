-- What the devices of the shared chain hold, beside what the seats' chains hold.
use Rattle.std.proofs.Common.{◌≡◌, ◌≢◌, ◌<◌, ◌+◌, ◌==◌, ◌||◌, ℕ, zero, suc, Bool, true, false, cond, List, [], ◌∷◌, map, length, refl, ap, sym, ◌∙◌, arith, inl, inr, Some, None, slice_get}
use Rattle.std.specs.declared.option.Option.{Option}
use Rattle.std.specs.Option.{option_map}
use Rattle.std.specs.List.{slice_index_or, slice_set}
use Rattle.std.proofs.lemmas.Bool.{cases_lt, eq-eqb}
use Rattle.std.proofs.lemmas.List.{get_or-set_same, length-map, length-set}
use Rattle.part_model.specs.Parts.{DeviceType}
use Rattle.grant_table.specs.Apart.{KeepsApart}
use Rattle.grant_table.specs.Faults.{is_one_of}
use Rattle.grant_table.specs.Layouts.{GrantShape, first_place, group_of}
use Rattle.chain_model.specs.Chains.{ChainState, Content, DeviceState, Placed, powered_content}
use Rattle.scan_share.specs.PrivateChains.{entries_at, nets_within}
use Rattle.scan_share.specs.Scans.{IsMadeOf, IsWhole, contents_of, with_contents}
use Rattle.scan_share.proofs.Facts.{IsGroup}
use Rattle.scan_share.proofs.Groups.{group_of_laws}
use Rattle.scan_share.proofs.Lookups.{content_at, entry_at, entry_past, entry_within, found, length-entries_at, picked, placed as placed_at, same_entries}
use Rattle.scan_share.proofs.Ready.{grants_group}
use Rattle.client_session.specs.Seats.{Seat}
use Rattle.plays.specs.Plays.{Setting, Play, boards_of, no_seat, placed, seat_at, with_seat}
use Rattle.plays.specs.Alone.{Holds, content_for, content_or, content_within, contents, contents_from}
use Rattle.plays.proofs.Lists.{false_true}

-- the place is not in the group
abbrev NotIn : ℕ → List ℕ → Type 0
NotIn place group = first_place (λ p. p == place) group ≡ None

mapped_none : (o : Option ℕ) → o ≡ None → option_map suc o ≡ None
mapped_none None e = refl
mapped_none (Some k) e = absurd (let q : Some k ≡ None = e in cc)

not_in : (place : ℕ) (group : List ℕ) → is_one_of place group ≡ false → NotIn place group
not_in place [] h = refl
not_in place (x ∷ group) h = by (x == place) refl (not_in place group)
  where
    by : (t : Bool) → (x == place) ≡ t → (is_one_of place group ≡ false → NotIn place group) → NotIn place (x ∷ group)
    by true e more = false_true (sym h ∙ rw e refl)
    by false e more = rw e (mapped_none (first_place (λ p. p == place) group) (more (rw e at h)))

is_in : (place : ℕ) (group : List ℕ) (k : ℕ) → slice_get group k ≡ Some place → is_one_of place group ≡ true
is_in place [] k is = absurd (let q : None ≡ Some place = is in cc)
is_in place (x ∷ group) zero is = let same : x ≡ place = cc is in rw (eq-eqb x place same) refl
is_in place (x ∷ group) (suc k) is = or_true (x == place) (is_one_of place group) (is_in place group k is)
  where
    or_true : (a b : Bool) → b ≡ true → (a || b) ≡ true
    or_true true b h = refl
    or_true false b h = h

-- what the seat's chain holds for a place
within_at : (group : List ℕ) (devices : List DeviceState) (place : ℕ) → content_within group devices place ≡ picked (first_place (λ p. p == place) group) (map (λ (d : DeviceState). d.content) devices) None
within_at [] devices place = refl
within_at (x ∷ group) [] place = by (first_place (λ p. p == place) (x ∷ group))
  where
    by : (o : Option ℕ) → None ≡ picked {X = Content} o [] None
    by None = refl
    by (Some k) = refl
within_at (x ∷ group) (d ∷ devices) place = by (x == place) refl (within_at group devices place)
  where
    shifted : (o : Option ℕ) → picked o (map (λ (d : DeviceState). d.content) devices) None ≡ picked (option_map suc o) (d.content ∷ map (λ (d : DeviceState). d.content) devices) None
    shifted None = refl
    shifted (Some k) = refl

    by : (t : Bool) → (x == place) ≡ t → content_within group devices place ≡ picked (first_place (λ p. p == place) group) (map (λ (d : DeviceState). d.content) devices) None
        → cond t (Some d.content) (content_within group devices place) ≡ picked (cond t (Some 0) (option_map suc (first_place (λ p. p == place) group))) (d.content ∷ map (λ (d : DeviceState). d.content) devices) None
    by true e more = refl
    by false e more = more ∙ shifted (first_place (λ p. p == place) group)

none_within : (group : List ℕ) (devices : List DeviceState) (place : ℕ) → NotIn place group → content_within group devices place ≡ None
none_within group devices place h = within_at group devices place ∙ ap (λ o. picked o (map (λ (d : DeviceState). d.content) devices) None) h

-- what the device at a place has to hold: of its own grant
own_content : (grants : List GrantShape) (seats : List Seat) (g place : ℕ) (default c : Content) → ((h : ℕ) → h ≢ g → NotIn place (group_of grants h))
    → content_within (group_of grants g) (slice_index_or seats g no_seat).chain.devices place ≡ Some c → g < length seats → content_for grants seats place default ≡ c
own_content [] seats g place default c others is lt = absurd (let q : None ≡ Some c = is in cc)
own_content (shape ∷ grants) [] g place default c others is lt = absurd (omega arith)
own_content (shape ∷ grants) (seat ∷ seats) zero place default c others is lt = ap (λ o. content_or o (content_for grants seats place default)) is
own_content (shape ∷ grants) (seat ∷ seats) (suc g) place default c others is lt =
    ap (λ o. content_or o (content_for grants seats place default)) (none_within shape.group seat.chain.devices place (others zero (λ e. omega (arith, e))))
    ∙ own_content grants seats g place default c (λ h n. others (suc h) (λ e. n (omega (arith, e)))) is (omega arith)

-- of another, or of none, where a grant's seat changes
other_content : (grants : List GrantShape) (seats : List Seat) (g : ℕ) (seat : Seat) (place : ℕ) (default : Content) → NotIn place (group_of grants g)
    → content_for grants (slice_set seats g seat) place default ≡ content_for grants seats place default
other_content [] seats g seat place default out = refl
other_content (shape ∷ grants) [] g seat place default out = refl
other_content (shape ∷ grants) (first ∷ seats) zero seat place default out =
    ap (λ o. content_or o (content_for grants seats place default)) (none_within shape.group seat.chain.devices place out ∙ sym (none_within shape.group first.chain.devices place out))
other_content (shape ∷ grants) (first ∷ seats) (suc g) seat place default out =
    ap (content_or (content_within shape.group first.chain.devices place)) (other_content grants seats g seat place default out)

-- the contents by their places
content_there : (setting : Setting) (play : Play) (from : ℕ) (boards : List Placed) (i : ℕ) → slice_get (contents_from setting play from boards) i ≡ option_map (λ board. content_for setting.layout.grants play.seats (from + i) (powered_content board)) (slice_get boards i)
content_there setting play from [] i = refl
content_there setting play from (board ∷ boards) zero = (let e : from ≡ from + 0 = omega arith in ap (λ place. Some (content_for setting.layout.grants play.seats place (powered_content board))) e)
content_there setting play from (board ∷ boards) (suc i) =
    content_there setting play (suc from) boards i
    ∙ (let e : suc from + i ≡ from + suc i = omega arith in ap (λ place. option_map (λ board. content_for setting.layout.grants play.seats place (powered_content board)) (slice_get boards i)) e)

content_now : (setting : Setting) (play : Play) (i : ℕ) → slice_get (contents setting play) i ≡ option_map (λ board. content_for setting.layout.grants play.seats i (powered_content board)) (slice_get (boards_of setting) i)
content_now setting play i =
    content_there setting play 0 (boards_of setting) i
    ∙ (let e : 0 + i ≡ i = omega arith in ap (λ place. option_map (λ board. content_for setting.layout.grants play.seats place (powered_content board)) (slice_get (boards_of setting) i)) e)

contents_seats : (setting : Setting) (a b : Play) → a.seats ≡ b.seats → (from : ℕ) (boards : List Placed) → contents_from setting a from boards ≡ contents_from setting b from boards
contents_seats setting a b same from [] = refl
contents_seats setting a b same from (board ∷ boards) = λ i. content_for setting.layout.grants (same i) from (powered_content board) ∷ contents_seats setting a b same (suc from) boards i

-- what is held goes by the seats alone
pub holds_seats : (setting : Setting) (chain : ChainState) (a b : Play) → a.seats ≡ b.seats → Holds setting chain a → Holds setting chain b
holds_seats setting chain a b same holds = holds ∙ contents_seats setting a b same 0 (boards_of setting)

same_content : (grants : List GrantShape) (seats : List Seat) (g : ℕ) (seat : Seat) (place : ℕ) (default : Content) → contents_of seat.chain ≡ contents_of (slice_index_or seats g no_seat).chain
    → content_for grants (slice_set seats g seat) place default ≡ content_for grants seats place default
same_content [] seats g seat place default same = refl
same_content (shape ∷ grants) [] g seat place default same = refl
same_content (shape ∷ grants) (first ∷ seats) zero seat place default same =
    ap (λ o. content_or o (content_for grants seats place default))
    (within_at shape.group seat.chain.devices place ∙ ap (λ cs. picked (first_place (λ p. p == place) shape.group) cs None) same ∙ sym (within_at shape.group first.chain.devices place))
same_content (shape ∷ grants) (first ∷ seats) (suc g) seat place default same =
    ap (content_or (content_within shape.group first.chain.devices place)) (same_content grants seats g seat place default same)

-- a seat whose devices hold the same changes nothing of it
pub holds_same : (setting : Setting) (chain : ChainState) (play : Play) (g : ℕ) (seat : Seat) → contents_of seat.chain ≡ contents_of (seat_at play g).chain → Holds setting chain play → Holds setting chain (with_seat g seat play)
holds_same setting chain play g seat same holds = holds ∙ by 0 (boards_of setting)
  where
    by : (from : ℕ) (boards : List Placed) → contents_from setting play from boards ≡ contents_from setting (with_seat g seat play) from boards
    by from [] = refl
    by from (board ∷ boards) =
        let first = sym (same_content setting.layout.grants play.seats g seat from (powered_content board) same) in
        let rest = by (suc from) boards in
        λ i. first i ∷ rest i

length_boards : (parts : List DeviceType) (pins : List (List Bool)) → length (placed parts pins) ≡ length parts
length_boards [] pins = refl
length_boards (part ∷ parts) [] = ap suc (length_boards parts [])
length_boards (part ∷ parts) (row ∷ pins) = ap suc (length_boards parts pins)

module _ (setting : Setting) (apart : KeepsApart setting.layout) (g : ℕ) where
  abbrev pub group : List ℕ
  group = group_of setting.layout.grants g

  is_group : IsGroup group (length setting.layout.parts)
  is_group = group_of_laws setting.layout group (grants_group setting.layout g apart)

  -- a place of the group is in no other
  alone : (place k : ℕ) → slice_get group k ≡ Some place → (h : ℕ) → h ≢ g → NotIn place (group_of setting.layout.grants h)
  alone place k is h n = not_in place (group_of setting.layout.grants h) (apart.apart g h place (λ e. n (sym e)) (is_in place group k is))

  -- each of its places has a board, and the seat's chain holds something for it
  held : (play : Play) (place k : ℕ) (c : Content) → slice_get group k ≡ Some place → g < length play.seats → slice_get (contents_of (seat_at play g).chain) k ≡ Some c → slice_get (contents setting play) place ≡ Some c
  held play place k c at lt is =
      let board = entry_within (boards_of setting) place (let w = is_group.within k place at in omega (arith, w, length_boards setting.layout.parts setting.pins)) in
      content_now setting play place
      ∙ ap (option_map (λ b. content_for setting.layout.grants play.seats place (powered_content b))) board.1
      ∙ ap Some (own_content setting.layout.grants play.seats g place (powered_content board.0) c (alone place k at)
      (within_at group (seat_at play g).chain.devices place ∙ ap (λ o. picked o (contents_of (seat_at play g).chain) None) (found group is_group.apart k place at) ∙ is) lt)

  module _ (chain : ChainState) (whole : IsWhole setting.layout chain) where
    all_count : length (contents_of chain) ≡ length setting.layout.parts
    all_count = length-map chain.devices (λ d. d.content) ∙ sym (length-map chain.devices (λ d. d.part)) ∙ ap length whole.parts_are

    within_all : (k place : ℕ) → slice_get group k ≡ Some place → place < length (contents_of chain)
    within_all k place at = let w = is_group.within k place at in omega (arith, w, all_count)

    own_count : (seat : Seat) → IsMadeOf (entries_at setting.layout.parts group) (nets_within group setting.layout.nets) seat.chain → length (contents_of seat.chain) ≡ length group
    own_count seat made =
        length-map seat.chain.devices (λ d. d.content) ∙ sym (length-map seat.chain.devices (λ d. d.part)) ∙ ap length made.parts_are ∙ length-entries_at setting.layout.parts group is_group.within

    -- the group's devices hold what its seat's chain holds
    pub group_holds : (play : Play) → g < length play.seats → Holds setting chain play → IsMadeOf (entries_at setting.layout.parts group) (nets_within group setting.layout.nets) (seat_at play g).chain
        → entries_at (contents_of chain) group ≡ contents_of (seat_at play g).chain
    group_holds play lt holds made =
        let size = own_count (seat_at play g) made in
        same_entries (entries_at (contents_of chain) group) (contents_of (seat_at play g).chain) (λ i. elim (cases_lt i (length group)) [
          | inl below ↦
              (let at = entry_within group i below in
              let c = entry_within (contents_of (seat_at play g).chain) i (omega (arith, below, size)) in
              entry_at (contents_of chain) group within_all i at.0 at.1 ∙ ap (λ xs. slice_get xs at.0) holds ∙ held play at.0 i c.0 at.1 lt c.1 ∙ sym c.1)
          | inr past ↦
              entry_past (entries_at (contents_of chain) group) i (omega (arith, past, length-entries_at (contents_of chain) group within_all)) ∙ sym (entry_past (contents_of (seat_at play g).chain) i (omega (arith, past, size)))
        ])

    -- where they hold what a changed seat holds, and all others what they held, all hold what the changed play has
    pub holds_on : (play : Play) (seat : Seat) (new : ChainState) → g < length play.seats → Holds setting chain play → IsMadeOf (entries_at setting.layout.parts group) (nets_within group setting.layout.nets) seat.chain
        → contents_of new ≡ with_contents group (contents_of seat.chain) (contents_of chain) → Holds setting new (with_seat g seat play)
    holds_on play seat new lt holds made others = others ∙ same_entries (with_contents group (contents_of seat.chain) (contents_of chain)) (contents setting (with_seat g seat play)) (λ i.
        content_at group (contents_of seat.chain) (contents_of chain) is_group.apart (own_count seat made) within_all i ∙ by i (first_place (λ p. p == i) group) refl)
      where
        by : (i : ℕ) (o : Option ℕ) → first_place (λ p. p == i) group ≡ o → picked o (contents_of seat.chain) (slice_get (contents_of chain) i) ≡ slice_get (contents setting (with_seat g seat play)) i
        by i None e =
            ap (λ xs. slice_get xs i) holds ∙ content_now setting play i ∙ same (slice_get (boards_of setting) i)
            ∙ sym (content_now setting (with_seat g seat play) i)
          where
            same : (o : Option Placed) → option_map (λ b. content_for setting.layout.grants play.seats i (powered_content b)) o ≡ option_map (λ b. content_for setting.layout.grants (slice_set play.seats g seat) i (powered_content b)) o
            same None = refl
            same (Some b) = ap Some (sym (other_content setting.layout.grants play.seats g seat i (powered_content b) e))
        by i (Some k) e =
            let at = placed_at group i k e in
            let below : k < length group = inside group k i at in
            let c = entry_within (contents_of seat.chain) k (omega (arith, below, own_count seat made)) in
            let own : seat_at (with_seat g seat play) g ≡ seat = get_or-set_same play.seats g seat no_seat lt in
            c.1 ∙ sym (held (with_seat g seat play) i k c.0 at (omega (arith, lt, length-set play.seats g seat)) (ap (λ (s : Seat). slice_get (contents_of s.chain) k) own ∙ c.1))
          where
            inside : (xs : List ℕ) (j x : ℕ) → slice_get xs j ≡ Some x → j < length xs
            inside [] j x h = absurd (let q : None ≡ Some x = h in cc)
            inside (y ∷ xs) zero x h = omega arith
            inside (y ∷ xs) (suc j) x h = let r = inside xs j x h in omega (arith, r)
