-- Where a seat opens a scan the shared chain captures, and where it closes one the shared chain updates or abandons it: the desk serves on.
use Rattle.std.proofs.Common.{◌≡◌, ◌≤◌, ◌+◌, ℕ, Bool, true, false, not, ◌&&◌, cond, List, [], ◌∷◌, map, length, refl, ap, sym, ◌∙◌, subst, arith, Some, None}
use Rattle.std.specs.declared.option.Option.{Option}
use Rattle.std.proofs.lemmas.Bool.{eq-eqb, eqb-true}
use Rattle.std.proofs.lemmas.List.{length-map}
use Rattle.base_types.specs.Counts.{raised}
use Rattle.tap_states.specs.declared.Tap.{Tap}
use Rattle.tap_states.specs.declared.Tap.TheVariants.{TestLogicReset, RunTestIdle, SelectDr, CaptureDr, ShiftDr, Exit1Dr, PauseDr, Exit2Dr, UpdateDr, SelectIr, CaptureIr, ShiftIr, Exit1Ir, PauseIr, Exit2Ir, UpdateIr}
use Rattle.tap_states.specs.States.{is_capture_dr}
use Rattle.scan_bits.specs.Registers.{joined}
use Rattle.part_model.specs.Parts.{width}
use Rattle.chain_model.specs.Chains.{ChainState, DeviceState}
use Rattle.chain_model.specs.Cycles.{rise, on_rise, updated, update_device, captured_from, dr_stages}
use Rattle.grant_table.specs.Layouts.{LayoutShape, group_of, ir_total}
use Rattle.grant_table.specs.Kept.{AllParts}
use Rattle.chain_token.specs.Waiting.{may_open, without}
use Rattle.scan_share.specs.Scans.{code_list, contents_of, with_contents, with_stages, widths_of, group_chain, captured_group, updated_group, parted, scan_length, same_codes, codes_during, capture_cost, update_cost, IsWhole, IsParked, IsOpenFor, EachFits, Captures, Updates, Abandons}
use Rattle.scan_share.proofs.Facts.{IsGroup}
use Rattle.scan_share.proofs.Loads.{staged_parts, staged_codes, staged_contents}
use Rattle.scan_share.proofs.Updates.{length-parted}
use Rattle.scan_share.proofs.Widths.{parted_joined}
use Rattle.client_session.specs.Seats.{Seat, advanced, opens_next}
use Rattle.client_session.specs.Turns.{Turn, is_holder, frees, freeing_cost, scan_length_of, stepped, captured, advanced_turn}
use Rattle.client_session.specs.Sessions.{DeskView, Serves}
use Rattle.client_session.specs.Going.{Follows}
use Rattle.client_session.proofs.Alike.{capture_stages, capture_contents, update_contents, staged_stages, widths_same}
use Rattle.client_session.proofs.Opening.{opens_is, opens_opens}
use Rattle.client_session.proofs.Untouched.{rise_codes}
use Rattle.client_session.proofs.Shared.{agree, entries_after, follows_on, held_still, over_on}

never : {A : Type 0} → false ≡ true → A
never e = absurd (let q : false ≡ true = e in cc)

-- ---- what a capture and an update of the private chain leave and read

capture_state : (state : Tap) → is_capture_dr state ≡ true → state ≡ CaptureDr
capture_state CaptureDr h = refl
capture_state TestLogicReset h = never h
capture_state RunTestIdle h = never h
capture_state SelectDr h = never h
capture_state ShiftDr h = never h
capture_state Exit1Dr h = never h
capture_state PauseDr h = never h
capture_state Exit2Dr h = never h
capture_state UpdateDr h = never h
capture_state SelectIr h = never h
capture_state CaptureIr h = never h
capture_state ShiftIr h = never h
capture_state Exit1Ir h = never h
capture_state PauseIr h = never h
capture_state Exit2Ir h = never h
capture_state UpdateIr h = never h

rise_captures : (chain : ChainState) (tms tdi : Bool) → is_capture_dr chain.state ≡ true → (rise chain tms tdi).devices ≡ captured_from chain 0 chain.devices
rise_captures chain tms tdi h = ap (λ state. (on_rise state chain tdi).devices) (capture_state chain.state h)

updates_devices : (chain : ChainState) → chain.scan_open ≡ true → (updated chain).devices ≡ map update_device chain.devices
updates_devices chain h = rw h refl

each_long : (devices : List DeviceState) → EachFits true devices → map length (dr_stages devices) ≡ widths_of devices
each_long [] fits = refl
each_long (device ∷ devices) fits = λ i. fits.0.dr_stage i ∷ each_long devices fits.1 i

holder_is : (holder : Option ℕ) (grant : ℕ) → is_holder holder grant ≡ true → holder ≡ Some grant
holder_is None grant h = never h
holder_is (Some other) grant h = ap Some (eqb-true other grant h)

open_to_none : (holder : Option ℕ) (waiting : List ℕ) (grant : ℕ) → may_open holder waiting grant ≡ true → holder ≡ None
open_to_none (Some other) waiting grant h = never h
open_to_none None waiting grant h = refl

no_more : (t : Bool) (scan codes : ℕ) → cond t (scan + 4) (capture_cost codes scan) ≤ capture_cost codes scan
no_more true scan codes = omega arith
no_more false scan codes = omega arith

module _ (layout : LayoutShape) (grant : ℕ) (parts : AllParts layout.parts) (is : IsGroup (group_of layout.grants grant) (length layout.parts)) where
  abbrev group : List ℕ
  group = group_of layout.grants grant

  module _ (base_desk desk : DeskView) (base turn : Turn) (whole : IsWhole layout base_desk.chain) (follows : Follows layout group grant base_desk base desk turn) where
    abbrev seat : Seat
    seat = turn.seat

    abbrev codes : List (List Bool)
    codes = code_list turn.seat.chain

    abbrev serves : Serves layout group grant desk turn
    serves = follows.serves

    -- ---- a scan is opened

    -- a desk at which the grant has its scan
    abbrev desk_held : ChainState → DeskView
    desk_held chain = record { holder = Some grant; waiting = without grant desk.waiting; scan = Some (record { grant = grant; codes = codes }); chain = chain }

    pub opened_turn : opens_next seat ≡ true → may_open turn.holder turn.waiting grant ≡ true → advanced_turn layout grant turn ≡ captured layout grant (advanced seat) turn
    opened_turn opens may = rw (opens, may) refl

    module _ (tms tdi : Bool) (opens : opens_next seat ≡ true) (may : may_open turn.holder turn.waiting grant ≡ true) (rises : (advanced seat).chain ≡ rise seat.chain tms tdi)
        (bits : List Bool) (chain : ChainState) (captures : Captures layout group codes bits desk.chain chain) where
      contents_captured : contents_of (captured_group group layout.nets codes desk.chain) ≡ contents_of (advanced seat).chain
      contents_captured =
          capture_contents (group_chain CaptureDr group layout.nets codes desk.chain) seat.chain (agree layout group grant is CaptureDr desk turn serves)
          ∙ ap (λ ds. map (λ d. d.content) ds) (sym (rise_captures seat.chain tms tdi (opens_is seat opens).state)) ∙ ap contents_of (sym rises)

      pub captured_bits : bits ≡ joined (dr_stages (rise seat.chain tms tdi).devices)
      captured_bits =
          captures.contents.1
          ∙ ap joined (capture_stages (group_chain CaptureDr group layout.nets codes desk.chain) seat.chain (agree layout group grant is CaptureDr desk turn serves)
          ∙ ap dr_stages (sym (rise_captures seat.chain tms tdi (opens_is seat opens).state)))

      same_codes_then : code_list (advanced seat).chain ≡ codes
      same_codes_then = ap code_list rises ∙ rise_codes seat.chain tms tdi

      serves_then : Serves layout group grant (desk_held chain) (captured layout grant (advanced seat) turn)
      serves_then = record {
        whole = captures.whole;
        over = over_on layout group grant is parts seat serves.over;
        counted = omega (arith, captures.made);
        holder = refl;
        waiting = ap (without grant) serves.waiting;
        holds = eq-eqb grant grant refl ∙ sym (opens_opens seat opens);
        contents = entries_after layout group grant is desk turn (advanced seat) serves (over_on layout group grant is parts seat serves.over).made chain (captures.contents.0 ∙ ap (λ own. with_contents group own (contents_of desk.chain)) contents_captured);
        keeps = λ mine. record {
          scan = ap (λ cs. Some (record { grant = grant; codes = cs })) (sym same_codes_then);
          chain_open = subst (λ cs. IsOpenFor layout group cs chain) (sym same_codes_then) captures.holds;
        };
      }

      pub opens_scan : Follows layout group grant base_desk base (desk_held chain) (advanced_turn layout grant turn)
      opens_scan =
          let none : desk.holder ≡ None = serves.holder ∙ open_to_none turn.holder turn.waiting grant may in
          subst (Follows layout group grant base_desk base (desk_held chain)) (sym (opened_turn opens may))
          (follows_on layout group grant is base_desk desk (desk_held chain) base turn (captured layout grant (advanced seat) turn) follows
          (λ holder at. absurd (let q : Some holder ≡ None = sym at ∙ none in cc)) serves_then
          (captures.contents.0 ∙ ap (λ own. with_contents group own (contents_of desk.chain)) contents_captured)
          whole (omega arith)
          (omega (arith, captures.made, no_more (same_codes (code_list desk.chain) (codes_during layout group codes)) (scan_length layout group codes) (ir_total layout))))

    -- ---- a scan is closed

    abbrev desk_free : ChainState → DeskView
    desk_free chain = record { holder = None; waiting = desk.waiting; scan = None; chain = chain }

    abbrev freed_turn : ℕ → Turn
    freed_turn cost = record { seat = advanced seat; holder = None; waiting = turn.waiting; joins = turn.joins; cost = turn.cost + cost }

    pub closed_turn : opens_next seat ≡ false → seat.chain.scan_open ≡ true → (advanced seat).chain.scan_open ≡ false → advanced_turn layout grant turn ≡ freed_turn (freeing_cost seat.acts (scan_length_of layout grant seat))
    closed_turn opens is_open shut =
        let frees_now : frees turn.holder grant (advanced seat) ≡ true = λ i. (serves.holds ∙ is_open) i && not (shut i) in
        let as_is : advanced_turn layout grant turn ≡ stepped layout grant (advanced seat) turn = rw opens refl in
        let step : stepped layout grant (advanced seat) turn ≡ freed_turn (freeing_cost seat.acts (scan_length_of layout grant seat)) = rw frees_now refl in
        as_is ∙ step

    module _ (opens : opens_next seat ≡ false) (is_open : seat.chain.scan_open ≡ true) (shut : (advanced seat).chain.scan_open ≡ false) (cost : ℕ) (cost_is : freeing_cost seat.acts (scan_length_of layout grant seat) ≡ cost)
        (chain : ChainState) (chain_whole : IsWhole layout chain) (parked : IsParked chain) (made : chain.made ≡ raised desk.chain.made cost)
        (contents : contents_of chain ≡ with_contents group (contents_of (advanced seat).chain) (contents_of desk.chain)) where
      serves_free : Serves layout group grant (desk_free chain) (freed_turn cost)
      serves_free = record {
        whole = chain_whole;
        over = over_on layout group grant is parts seat serves.over;
        counted = omega (arith, made);
        holder = refl;
        waiting = serves.waiting;
        holds = sym shut;
        contents = entries_after layout group grant is desk turn (advanced seat) serves (over_on layout group grant is parts seat serves.over).made chain contents;
        keeps = (refl, parked);
      }

      frees_chain : Follows layout group grant base_desk base (desk_free chain) (advanced_turn layout grant turn)
      frees_chain =
          let mine : desk.holder ≡ Some grant = serves.holder ∙ holder_is turn.holder grant (serves.holds ∙ is_open) in
          subst (Follows layout group grant base_desk base (desk_free chain)) (sym (closed_turn opens is_open shut ∙ ap freed_turn cost_is))
          (follows_on layout group grant is base_desk desk (desk_free chain) base turn (freed_turn cost) follows
          (λ holder at. let q : Some holder ≡ Some grant = sym at ∙ mine in cc) serves_free contents whole (omega arith) (omega (arith, made)))

    -- by an update from the register
    pub closes_scan : opens_next seat ≡ false → seat.chain.scan_open ≡ true → (advanced seat).chain.scan_open ≡ false
        → freeing_cost seat.acts (scan_length_of layout grant seat) ≡ update_cost (scan_length_of layout grant seat)
        → contents_of (advanced seat).chain ≡ contents_of (updated seat.chain)
        → (bits : List Bool) (chain : ChainState) → bits ≡ joined (dr_stages seat.chain.devices) → Updates layout group codes bits desk.chain chain
        → Follows layout group grant base_desk base (desk_free chain) (advanced_turn layout grant turn)
    closes_scan opens is_open shut cost_is same bits chain bits_are updates =
        let gc = group_chain UpdateDr group layout.nets codes desk.chain in
        let alike = agree layout group grant is UpdateDr desk turn serves in
        let widths = widths_same gc.devices seat.chain.devices alike.parts alike.codes in
        let fits = subst (λ t. EachFits t seat.chain.devices) is_open serves.over.made.fits in
        let stages = parted (widths_of gc.devices) bits in
        let size : length stages ≡ length gc.devices = length-parted (widths_of gc.devices) bits ∙ length-map gc.devices (λ d. width d.part d.code) in
        let staged : dr_stages (with_stages gc.devices stages) ≡ dr_stages seat.chain.devices =
        staged_stages gc.devices stages size ∙ ap (parted (widths_of gc.devices)) bits_are
        ∙ parted_joined (dr_stages seat.chain.devices) (widths_of gc.devices) (each_long seat.chain.devices fits ∙ sym widths) in
        let own : contents_of (updated_group group layout.nets codes bits desk.chain) ≡ contents_of (updated seat.chain) =
        update_contents (with_stages gc.devices stages) seat.chain.devices (staged_parts gc.devices stages ∙ alike.parts) (staged_codes gc.devices stages ∙ alike.codes) staged (staged_contents gc.devices stages ∙ alike.contents)
        ∙ ap (λ ds. map (λ d. d.content) ds) (sym (updates_devices seat.chain is_open)) in
        frees_chain opens is_open shut (update_cost (scan_length_of layout grant seat)) cost_is chain updates.whole updates.parked updates.made
        (updates.contents ∙ ap (λ o. with_contents group o (contents_of desk.chain)) (own ∙ sym same))

    -- by TRST, where nothing is updated
    pub abandons_scan : opens_next seat ≡ false → seat.chain.scan_open ≡ true → (advanced seat).chain.scan_open ≡ false → freeing_cost seat.acts (scan_length_of layout grant seat) ≡ 1
        → contents_of (advanced seat).chain ≡ contents_of seat.chain → (chain : ChainState) → Abandons layout desk.chain chain
        → Follows layout group grant base_desk base (desk_free chain) (advanced_turn layout grant turn)
    abandons_scan opens is_open shut cost_is same chain abandons =
        frees_chain opens is_open shut 1 cost_is chain abandons.whole abandons.parked abandons.made
        (held_still layout group grant is desk turn (advanced seat) serves same chain abandons.contents)
