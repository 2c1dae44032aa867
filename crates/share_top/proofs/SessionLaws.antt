-- From a setup to the session of a grant: what holds of its seat, its turn and its desk when it begins.
use Rattle.std.proofs.Common.{◌≡◌, ◌<◌, ◌^◌, ℕ, zero, suc, Bool, false, List, [], ◌∷◌, map, length, slice_get, refl, ap, sym, subst, ◌∙◌, arith, Some, None}
use Rattle.std.specs.Option.{option_map}
use Rattle.std.specs.declared.option.Option.{Option}
use Rattle.base_types.specs.Tellings.{Told}
use Rattle.part_model.proofs.Accepted.{part_is_sound}
use Rattle.chain_model.specs.declared.cable.Board.{Board}
use Rattle.chain_model.specs.Boards.{EachHasPins, placed}
use Rattle.chain_model.specs.Chains.{ChainState, DeviceState, Placed, powered_device, reset_device}
use Rattle.chain_token.specs.declared.token.Token.{Token}
use Rattle.chain_token.specs.declared.token.Side.TheVariants.{Free}
use Rattle.grant_table.specs.Layouts.{GrantShape, group_of}
use Rattle.grant_table.specs.Kept.{AllParts}
use Rattle.scan_share.specs.Laws.{EachIsBoard}
use Rattle.scan_share.specs.PrivateChains.{entries_at, nets_within, private_chain}
use Rattle.scan_share.specs.Scans.{IsMadeOf, Starts, contents_of, types_of}
use Rattle.scan_share.specs.Views.{ParkedView, OpenView}
use Rattle.scan_share.proofs.Kept.{Each, IsSoundBoard, entries_each, entries_map, made_private}
use Rattle.scan_share.proofs.MadeOf.{all_sound, powered_whole}
use Rattle.client_session.specs.Seats.{IsFinished, Seat}
use Rattle.client_session.specs.Private.{free_seat, opened}
use Rattle.client_session.specs.Turns.{Turn}
use Rattle.client_session.specs.Laws.{IsByItself}
use Rattle.client_session.specs.Calls.{ServedBy}
use Rattle.client_session.specs.Desks.{desk_of}
use Rattle.client_session.specs.Paces.{IsSeatOver}
use Rattle.client_session.specs.Sessions.{SessionView, Serves, Shows}
use Rattle.client_session.proofs.Drops.{opened_finished}
use Rattle.client_session.proofs.Kept.{free_over, opened_over}
use Rattle.setup_read.specs.declared.setup.Setup.{Setup}
use Rattle.setup_read.specs.Setups.{IsWhole as IsWholeSetup}
use Rattle.share_top.specs.Pipes.{private_seat, private_session, uses_trst, whole_chain}
use Rattle.share_top.specs.Sessions.{IsSound}

-- ---- a setup

placed_parts : (boards : List Board) → map (λ (board : Placed). board.part) (map placed boards) ≡ map (λ (board : Board). board.part) boards
placed_parts [] = refl
placed_parts (board ∷ boards) = ap (λ parts. board.part ∷ parts) (placed_parts boards)

each_board : (boards : List Board) → AllParts (map (λ (board : Board). board.part) boards) → EachHasPins boards → EachIsBoard (map placed boards)
each_board [] parts pins = tt
each_board (board ∷ boards) parts pins = ((parts 0 board.part refl, pins.0), each_board boards (λ place. parts (suc place)) pins.1)

pub setup_sound : (setup : Setup) → IsWholeSetup setup → AllParts setup.layout.parts → IsSound setup
setup_sound setup whole parts =
    let same = placed_parts setup.boards ∙ sym whole.parts in
    let boards = each_board setup.boards (subst AllParts whole.parts parts) whole.pins in
    record { parts = parts; parts_are = same; boards = boards; chain = powered_whole setup.layout (map placed setup.boards) boards (sym same) }

each_sound : (boards : List Placed) → EachIsBoard boards → Each IsSoundBoard boards
each_sound [] each = tt
each_sound (board ∷ boards) each = (record { part = part_is_sound board.part each.0.0; pins = each.0.1 }, each_sound boards each.1)

-- ---- a grant

pub group_is : (grants : List GrantShape) (grant : ℕ) (shape : GrantShape) → slice_get grants grant ≡ Some shape → group_of grants grant ≡ shape.group
group_is [] grant shape found = absurd (let q : None ≡ Some shape = found in cc)
group_is (first ∷ grants) zero shape found = let same : first ≡ shape = cc in ap (λ (s : GrantShape). s.group) same
group_is (first ∷ grants) (suc grant) shape found = group_is grants grant shape found

pub grant_there : (grants : List GrantShape) (grant : ℕ) → grant < length grants → (shape : GrantShape) × (slice_get grants grant ≡ Some shape)
grant_there [] grant less = absurd (omega (arith, less))
grant_there (shape ∷ grants) zero less = (shape, refl)
grant_there (shape ∷ grants) (suc grant) less = grant_there grants grant (omega (arith, less))

-- ---- a free session

pub free_shows : (setup : Setup) (grant : ℕ) (view : SessionView) (trst : Bool) → trst ≡ uses_trst setup → setup.layout.parts ≡ map (λ (board : Board). board.part) setup.boards
    → option_map (λ (shape : GrantShape). shape.protocol) (slice_get setup.layout.grants grant) ≡ Some view.protocol
    → ((boards : List Placed) → map (λ (board : Placed). board.part) boards ≡ setup.layout.parts → Shows view false (free_seat view.protocol trst setup.vector (private_chain boards (group_of setup.layout.grants grant) setup.layout.nets)) [])
    → (shape : GrantShape) → slice_get setup.layout.grants grant ≡ Some shape → Shows view false (private_seat setup shape) []
free_shows setup grant view trst trst_is parts protocol shows shape found =
    let spoken : Some shape.protocol ≡ Some view.protocol = sym (ap (option_map (λ (s : GrantShape). s.protocol)) found) ∙ protocol in
    let spoken_is : view.protocol ≡ shape.protocol = cc in
    subst (λ p. Shows view false (free_seat p (uses_trst setup) setup.vector (private_chain (map placed setup.boards) shape.group setup.layout.nets)) []) spoken_is
    (subst (λ t. Shows view false (free_seat view.protocol t setup.vector (private_chain (map placed setup.boards) shape.group setup.layout.nets)) []) trst_is
    (subst (λ group. Shows view false (free_seat view.protocol trst setup.vector (private_chain (map placed setup.boards) group setup.layout.nets)) []) (group_is setup.layout.grants grant shape found)
    (shows (map placed setup.boards) (placed_parts setup.boards ∙ sym parts))))

-- ---- its seat, once it is opened

module _ (setup : Setup) (grant : ℕ) (shape : GrantShape) (found : slice_get setup.layout.grants grant ≡ Some shape) (sound : IsSound setup) where
  abbrev boards : List Placed
  boards = map placed setup.boards

  group_same : shape.group ≡ group_of setup.layout.grants grant
  group_same = sym (group_is setup.layout.grants grant shape found)

  made : IsMadeOf (entries_at setup.layout.parts shape.group) (nets_within shape.group setup.layout.nets) (private_chain boards shape.group setup.layout.nets)
  made = subst (λ parts. IsMadeOf (entries_at parts shape.group) (nets_within shape.group setup.layout.nets) (private_chain boards shape.group setup.layout.nets)) sound.parts_are
      (made_private boards shape.group setup.layout.nets (each_sound boards sound.boards))

  pub seat_types : types_of (private_seat setup shape).chain ≡ entries_at setup.layout.parts (group_of setup.layout.grants grant)
  seat_types = made.parts_are ∙ ap (entries_at setup.layout.parts) group_same

  over_group : (group : List ℕ) → shape.group ≡ group → IsSeatOver shape.protocol (entries_at setup.layout.parts group) (nets_within group setup.layout.nets) (opened 0 (private_seat setup shape))
  over_group group same = subst (λ g. IsSeatOver shape.protocol (entries_at setup.layout.parts g) (nets_within g setup.layout.nets) (opened 0 (private_seat setup shape))) same
      (opened_over (entries_at setup.layout.parts shape.group) (nets_within shape.group setup.layout.nets) (entries_each _ setup.layout.parts shape.group (all_sound setup.layout.parts sound.parts)) shape.protocol 0 (private_seat setup shape)
      (free_over (entries_at setup.layout.parts shape.group) (nets_within shape.group setup.layout.nets) (entries_each _ setup.layout.parts shape.group (all_sound setup.layout.parts sound.parts)) shape.protocol (uses_trst setup) setup.vector
      (private_chain boards shape.group setup.layout.nets) made refl))

  reset_contents : (devices : List DeviceState) → map (λ (d : DeviceState). d.content) (map reset_device devices) ≡ map (λ (d : DeviceState). d.content) devices
  reset_contents [] = refl
  reset_contents (device ∷ devices) = ap (λ rest. device.content ∷ rest) (reset_contents devices)

  contents_same : entries_at (contents_of (whole_chain setup)) shape.group ≡ contents_of (opened 0 (private_seat setup shape)).chain
  contents_same =
      sym (entries_map (λ (d : DeviceState). d.content) (map powered_device boards) shape.group)
      ∙ ap (map (λ (d : DeviceState). d.content)) (sym (entries_map powered_device boards shape.group))
      ∙ sym (reset_contents (map powered_device (entries_at boards shape.group)))

  -- ---- the turn that begins, at the free desk

  abbrev turn_of : Seat → Turn
  turn_of seat = record { seat = seat; holder = None; waiting = []; joins = 0; cost = 0 }

  abbrev pub first_turn : Turn
  first_turn = turn_of (private_session setup shape)

  abbrev fresh : {C : Type 0} → ParkedView C → Token (ParkedView C) (OpenView C)
  fresh parked = record { side = Free parked; queue = [] }

  serves_first : {C : Type 0} (parked : ParkedView C) (chain : ChainState) → Starts setup.layout (whole_chain setup) chain → Serves setup.layout (group_of setup.layout.grants grant) grant (desk_of setup.layout (fresh parked) chain) first_turn
  unfolding private_session
  serves_first parked chain started = record {
    whole = started.whole;
    over = over_group (group_of setup.layout.grants grant) group_same;
    counted = subst (λ made. made < 2 ^ 64) (sym started.made) (omega arith);
    holder = refl;
    waiting = refl;
    holds = refl;
    contents = ap (λ all. entries_at all (group_of setup.layout.grants grant)) started.contents ∙ ap (entries_at (contents_of (whole_chain setup))) (sym group_same) ∙ contents_same;
    keeps = (refl, started.parked);
  }

  pub opened_shows : (view : SessionView) → Shows view false (opened 0 (private_seat setup shape)) [] → Shows view false (private_session setup shape) []
  unfolding private_session
  opened_shows view shows = shows

  pub finished_first : IsFinished (private_session setup shape)
  unfolding private_session
  finished_first = opened_finished 0 (private_seat setup shape)

  -- what a serving makes of every turn at the desk, it makes of this one
  pub served_first : {C : Type 0} (parked : ParkedView C) (desk : Token (ParkedView C) (OpenView C)) (view : SessionView) (before : Option ChainState) (R : Turn → Type 0)
      → desk.side ≡ Free parked → desk.queue ≡ [] → Shows view false (private_session setup shape) [] → Told before (Starts setup.layout (whole_chain setup))
      → ((turn : Turn) → Shows view false turn.seat [] → IsFinished turn.seat → ServedBy setup.layout grant desk before turn → IsByItself grant turn → R turn) → Told before (λ _. R first_turn)
  served_first parked desk view None R side queue shows started serves = tt
  served_first parked desk view (Some chain) R side queue shows started serves =
      let is : fresh parked ≡ desk = (λ i. record { side = sym side i; queue = sym queue i }) in
      serves first_turn shows finished_first (subst (λ d. Serves setup.layout (group_of setup.layout.grants grant) grant (desk_of setup.layout d chain) first_turn) is (serves_first parked chain started))
      (record { waiting = refl; holder = λ other same. absurd (let q : None ≡ Some other = same in cc) })
