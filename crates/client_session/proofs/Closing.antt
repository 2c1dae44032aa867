-- A chain that is closed at the end of a session, or reset by TRST, at the desk.
use Rattle.std.proofs.Common.{◌≡◌, ℕ, Bool, true, false, cond, List, [], ◌∷◌, ◌++◌, map, refl, ap, sym, ◌∙◌, subst, Some, None}
use Rattle.std.specs.declared.option.Option.{Option}
use Rattle.scan_bits.specs.Registers.{joined}
use Rattle.chain_model.specs.Chains.{ChainState, DeviceState, reset, reset_device}
use Rattle.chain_model.specs.Cycles.{updated, update_device, closed, dr_stages}
use Rattle.grant_table.specs.Layouts.{LayoutShape, group_of}
use Rattle.chain_token.specs.declared.token.Token.{Token}
use Rattle.chain_token.specs.Tokens.{waiting}
use Rattle.scan_share.specs.Scans.{contents_of, types_of, Updates, IsWhole}
use Rattle.scan_share.specs.Views.{ParkedView, OpenView}
use Rattle.scan_share.proofs.Groups.{group_of_laws}
use Rattle.virtual_tap.specs.Taps.{VTapState}
use Rattle.virtual_tap.specs.Views.{TapView, StandsFor, HoldsStages, MovesAs, closed_view}
use Rattle.client_session.specs.Seats.{Seat, advanced, opens_next}
use Rattle.client_session.specs.Turns.{Turn, scan_length_of, advanced_turn}
use Rattle.client_session.specs.Sessions.{DeskView}
use Rattle.client_session.specs.Going.{EndsNext, ResetsNext, Follows, Holds, IsShut, Quiet}
use Rattle.client_session.specs.Desks.{AbandonsScan, Attends, Closed, IsSound, StepsTo, desk_of}
use Rattle.client_session.proofs.Untouched.{each_kept, reset_types}
use Rattle.client_session.proofs.Resting.{holds_step}
use Rattle.client_session.proofs.Quietly.{still_step, still_turn}
use Rattle.client_session.proofs.Sharing.{closes_scan, abandons_scan}
use Rattle.client_session.proofs.Attending.{follows_quiet}
use Rattle.client_session.proofs.Entering.{shown_as}

never : {A : Type 0} → false ≡ true → A
never e = absurd (let q : false ≡ true = e in cc)

-- ---- a chain that is updated

no_stages : (ds : List DeviceState) → joined (dr_stages (map update_device ds)) ≡ []
no_stages [] = refl
no_stages (d ∷ ds) = ap (λ q. q ++ []) (no_stages ds)

stands_updated : (view : TapView) (chain : ChainState) → StandsFor view chain → chain.scan_open ≡ true → StandsFor (closed_view view) (updated chain)
stands_updated view chain stands is_open = rw is_open (record {
  state = stands.state;
  tdo = stands.tdo;
  codes = stands.codes ∙ sym (each_kept (λ d. d.code) update_device (λ d. refl) chain.devices);
  ir_stages = stands.ir_stages ∙ sym (each_kept (λ d. d.ir_stage) update_device (λ d. refl) chain.devices);
  scan = refl;
  register = no_stages chain.devices;
})

updated_types : (chain : ChainState) → types_of (updated chain) ≡ types_of chain
updated_types chain = by chain.scan_open
  where
    by : (b : Bool) → types_of (cond b (record chain { scan_open = false; devices = map update_device chain.devices }) chain) ≡ types_of chain
    by true = each_kept (λ d. d.part) update_device (λ d. refl) chain.devices
    by false = refl

reset_contents : (chain : ChainState) → contents_of (reset chain) ≡ contents_of chain
reset_contents chain = each_kept (λ d. d.content) reset_device (λ d. refl) chain.devices

not_updated : (chain : ChainState) → chain.scan_open ≡ false → updated chain ≡ chain
not_updated chain shut = rw shut refl

-- ---- a chain whose scan is gone

abbrev without_stage : DeviceState → DeviceState
without_stage device = record device { dr_stage = [] }

abbrev unstaged : ChainState → ChainState
unstaged chain = record chain { scan_open = false; devices = map without_stage chain.devices }

no_stages_left : (ds : List DeviceState) → joined (dr_stages (map without_stage ds)) ≡ []
no_stages_left [] = refl
no_stages_left (d ∷ ds) = ap (λ q. q ++ []) (no_stages_left ds)

stands_unstaged : (view : TapView) (chain : ChainState) → StandsFor view chain → StandsFor (closed_view view) (unstaged chain)
stands_unstaged view chain stands = record {
  state = stands.state;
  tdo = stands.tdo;
  codes = stands.codes ∙ sym (each_kept (λ d. d.code) without_stage (λ d. refl) chain.devices);
  ir_stages = stands.ir_stages ∙ sym (each_kept (λ d. d.ir_stage) without_stage (λ d. refl) chain.devices);
  scan = refl;
  register = no_stages_left chain.devices;
}

reset_unstaged : (chain : ChainState) → reset (unstaged chain) ≡ reset chain
reset_unstaged chain = ap (λ ds. record (reset chain) { devices = ds }) (by chain.devices)
  where
    by : (ds : List DeviceState) → map reset_device (map without_stage ds) ≡ map reset_device ds
    by [] = refl
    by (d ∷ ds) = ap (λ rest. reset_device d ∷ rest) (by ds)

module _ (layout : LayoutShape) (grant : ℕ) (sound : IsSound layout grant) where
  -- a step that neither opens nor closes a scan, where none is open
  shut_step : (turn : Turn) → opens_next turn.seat ≡ false → Holds grant turn → turn.seat.chain.scan_open ≡ false → (advanced turn.seat).chain.scan_open ≡ false → contents_of (advanced turn.seat).chain ≡ contents_of turn.seat.chain
      → Quiet layout grant turn (record turn { seat = advanced turn.seat })
  shut_step turn opens holds shut then contents = still_step layout grant turn opens holds (then ∙ sym shut) contents (λ is_open. never (sym shut ∙ is_open))

  module _ {C : Type 0} (base_desk : DeskView) (base turn : Turn) (whole : IsWhole layout base_desk.chain) (desk : Token (ParkedView C) (OpenView C)) (old new : VTapState) (parts : new.parts ≡ old.parts) where
    -- what the turn is after an end
    shut_after : EndsNext old grant turn → StandsFor new.view (closed turn.seat.chain) → IsShut new grant (advanced_turn layout grant turn)
    shut_after ends stands =
        let seat_is : (advanced_turn layout grant turn).seat ≡ advanced turn.seat = rw ends.opens refl in
        let chain_is : (advanced_turn layout grant turn).seat.chain ≡ closed turn.seat.chain = ap (λ (s : Seat). s.chain) seat_is ∙ ends.closes in
        record {
          holds = holds_step layout grant turn ends.holds;
          types = ap types_of chain_is ∙ reset_types (updated turn.seat.chain) ∙ updated_types turn.seat.chain ∙ ends.types ∙ sym parts;
          stands = subst (StandsFor new.view) (sym chain_is) stands;
          shut = ap (λ (c : ChainState). c.scan_open) chain_is;
        }

    -- no scan was open
    pub end_shut : (told : Option ChainState) → old.view.scan_open ≡ false → MovesAs old.parts reset old.view new.view
        → Attends layout grant base_desk base (EndsNext old grant) desk told turn → StepsTo layout grant new base_desk base desk told turn
    end_shut None shut moved attends = absurd attends
    end_shut (Some chain) shut moved attends =
        let ends = attends.1 in
        let closed_then : turn.seat.chain.scan_open ≡ false = sym ends.stands.scan ∙ shut in
        let then : (advanced turn.seat).chain.scan_open ≡ false = ap (λ (c : ChainState). c.scan_open) ends.closes in
        let chain_is : closed turn.seat.chain ≡ reset turn.seat.chain = ap reset (not_updated turn.seat.chain closed_then) in
        let contents : contents_of (advanced turn.seat).chain ≡ contents_of turn.seat.chain = ap contents_of (ends.closes ∙ chain_is) ∙ reset_contents turn.seat.chain in
        let quiet = shut_step turn ends.opens ends.holds closed_then then contents in
        let follows = follows_quiet layout grant sound.parts (group_of_laws layout (group_of layout.grants grant) sound.group_is) base_desk (desk_of layout desk chain) base turn (record turn { seat = advanced turn.seat }) quiet attends.0 in (
          subst (Follows layout (group_of layout.grants grant) grant base_desk base (desk_of layout desk chain)) (sym (still_turn layout grant turn ends.opens ends.holds (then ∙ sym closed_then))) follows,
          shut_after ends (subst (StandsFor new.view) (sym chain_is) (moved turn.seat.chain ends.types ends.stands)),
        )

    -- an update closed the scan
    pub end_open : (mid : VTapState) (next : Token (ParkedView C) (OpenView C)) (bits : List Bool) (before after : Option ChainState) → old.view.scan_open ≡ true → old.view.register ≡ Some bits → Closed layout grant (waiting desk) old mid next before after
        → MovesAs mid.parts reset mid.view new.view → Attends layout grant base_desk base (EndsNext old grant) desk before turn → StepsTo layout grant new base_desk base next after turn
    end_open mid next bits None after is_open register closing moved attends = absurd attends
    end_open mid next bits (Some chain) None is_open register closing moved attends = absurd (closing.updated bits register)
    end_open mid next bits (Some chain) (Some chain_new) is_open register closing moved attends =
        let ends = attends.1 in
        let chain_open : turn.seat.chain.scan_open ≡ true = sym ends.stands.scan ∙ is_open in
        let then : (advanced turn.seat).chain.scan_open ≡ false = ap (λ (c : ChainState). c.scan_open) ends.closes in
        let contents : contents_of (advanced turn.seat).chain ≡ contents_of (updated turn.seat.chain) = ap contents_of ends.closes ∙ reset_contents (updated turn.seat.chain) in
        let held : old.view.register ≡ Some (joined (dr_stages turn.seat.chain.devices)) = subst (λ b. HoldsStages b old.view.register turn.seat.chain.devices) chain_open ends.stands.register in
        let bits_are : bits ≡ joined (dr_stages turn.seat.chain.devices) = (let q : Some bits ≡ Some (joined (dr_stages turn.seat.chain.devices)) = sym register ∙ held in cc) in
        let updates = subst (λ cs. Updates layout (group_of layout.grants grant) cs bits chain chain_new) ends.stands.codes (closing.updated bits register) in
        let follows = closes_scan layout grant sound.parts (group_of_laws layout (group_of layout.grants grant) sound.group_is) base_desk (desk_of layout desk chain) base turn whole attends.0 ends.opens chain_open then
        (ends.cost (scan_length_of layout grant turn.seat)) contents bits chain_new bits_are updates in
        let shows = shown_as layout next chain_new None (waiting desk) None closing.free closing.waits_are closing.scan in
        let mid_stands = subst (λ (v : VTapState). StandsFor v.view (updated turn.seat.chain)) (sym closing.tap) (stands_updated old.view turn.seat.chain ends.stands chain_open) in
        let mid_types = updated_types turn.seat.chain ∙ ends.types ∙ ap (λ (v : VTapState). v.parts) (sym closing.tap) in (
          subst (λ d. Follows layout (group_of layout.grants grant) grant base_desk base d (advanced_turn layout grant turn)) shows follows,
          shut_after ends (moved (updated turn.seat.chain) mid_types mid_stands),
        )

    -- ---- TRST

    shut_reset : ResetsNext old grant turn → StandsFor new.view (reset turn.seat.chain) → IsShut new grant (advanced_turn layout grant turn)
    shut_reset resets stands =
        let seat_is : (advanced_turn layout grant turn).seat ≡ advanced turn.seat = rw resets.opens refl in
        let chain_is : (advanced_turn layout grant turn).seat.chain ≡ reset turn.seat.chain = ap (λ (s : Seat). s.chain) seat_is ∙ resets.resets in
        record {
          holds = holds_step layout grant turn resets.holds;
          types = ap types_of chain_is ∙ reset_types turn.seat.chain ∙ resets.types ∙ sym parts;
          stands = subst (StandsFor new.view) (sym chain_is) stands;
          shut = ap (λ (c : ChainState). c.scan_open) chain_is;
        }

    -- no scan was open
    pub reset_shut : (told : Option ChainState) → old.view.scan_open ≡ false → MovesAs old.parts reset old.view new.view
        → Attends layout grant base_desk base (ResetsNext old grant) desk told turn → StepsTo layout grant new base_desk base desk told turn
    reset_shut None shut moved attends = absurd attends
    reset_shut (Some chain) shut moved attends =
        let resets = attends.1 in
        let closed_then : turn.seat.chain.scan_open ≡ false = sym resets.stands.scan ∙ shut in
        let then : (advanced turn.seat).chain.scan_open ≡ false = ap (λ (c : ChainState). c.scan_open) resets.resets in
        let contents : contents_of (advanced turn.seat).chain ≡ contents_of turn.seat.chain = ap contents_of resets.resets ∙ reset_contents turn.seat.chain in
        let quiet = shut_step turn resets.opens resets.holds closed_then then contents in
        let follows = follows_quiet layout grant sound.parts (group_of_laws layout (group_of layout.grants grant) sound.group_is) base_desk (desk_of layout desk chain) base turn (record turn { seat = advanced turn.seat }) quiet attends.0 in (
          subst (Follows layout (group_of layout.grants grant) grant base_desk base (desk_of layout desk chain)) (sym (still_turn layout grant turn resets.opens resets.holds (then ∙ sym closed_then))) follows,
          shut_reset resets (moved turn.seat.chain resets.types resets.stands),
        )

    -- a reset ended the scan
    pub reset_open : (mid : VTapState) (next : Token (ParkedView C) (OpenView C)) (before after : Option ChainState) → old.view.scan_open ≡ true → AbandonsScan layout (waiting desk) old mid next before after
        → MovesAs mid.parts reset mid.view new.view → Attends layout grant base_desk base (ResetsNext old grant) desk before turn → StepsTo layout grant new base_desk base next after turn
    reset_open mid next None after is_open ending moved attends = absurd attends
    reset_open mid next (Some chain) None is_open ending moved attends = absurd ending.abandoned
    reset_open mid next (Some chain) (Some chain_new) is_open ending moved attends =
        let resets = attends.1 in
        let chain_open : turn.seat.chain.scan_open ≡ true = sym resets.stands.scan ∙ is_open in
        let then : (advanced turn.seat).chain.scan_open ≡ false = ap (λ (c : ChainState). c.scan_open) resets.resets in
        let contents : contents_of (advanced turn.seat).chain ≡ contents_of turn.seat.chain = ap contents_of resets.resets ∙ reset_contents turn.seat.chain in
        let follows = abandons_scan layout grant sound.parts (group_of_laws layout (group_of layout.grants grant) sound.group_is) base_desk (desk_of layout desk chain) base turn whole attends.0 resets.opens chain_open then
        (resets.cost (scan_length_of layout grant turn.seat)) contents chain_new ending.abandoned in
        let shows = shown_as layout next chain_new None (waiting desk) None ending.free ending.waits_are ending.scan in
        let mid_stands = subst (λ (v : VTapState). StandsFor v.view (unstaged turn.seat.chain)) (sym ending.tap) (stands_unstaged old.view turn.seat.chain resets.stands) in
        let mid_types = each_kept (λ d. d.part) without_stage (λ d. refl) turn.seat.chain.devices ∙ resets.types ∙ ap (λ (v : VTapState). v.parts) (sym ending.tap) in (
          subst (λ d. Follows layout (group_of layout.grants grant) grant base_desk base d (advanced_turn layout grant turn)) shows follows,
          shut_reset resets (subst (StandsFor new.view) (reset_unstaged turn.seat.chain) (moved (unstaged turn.seat.chain) mid_types mid_stands)),
        )
