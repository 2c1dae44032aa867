-- An edge of TCK at the desk, whatever act asks for it: one that opens and closes no scan, one that closes one, one that opens one, and the
-- wait before it.
use Rattle.std.proofs.Common.{◌≡◌, ℕ, Bool, true, false, not, List, refl, ap, sym, ◌∙◌, subst, Some, None}
use Rattle.std.specs.declared.option.Option.{Option}
use Rattle.tap_states.specs.declared.Tap.{Tap}
use Rattle.tap_states.specs.declared.Tap.TheVariants.{UpdateDr}
use Rattle.tap_states.specs.States.{is_capture_dr, next as next_state}
use Rattle.scan_bits.specs.Registers.{joined}
use Rattle.chain_model.specs.Chains.{ChainState}
use Rattle.chain_model.specs.Cycles.{rise, fall, on_fall, updated, dr_stages}
use Rattle.grant_table.specs.Layouts.{LayoutShape, group_of}
use Rattle.chain_token.specs.declared.token.Token.{Token}
use Rattle.chain_token.specs.declared.token.Asked.TheVariants as asked
use Rattle.chain_token.specs.Tokens.{Answers, holder, holder_of, waiting}
use Rattle.chain_token.specs.Waiting.{may_open, with_waiting, without}
use Rattle.scan_share.specs.Scans.{code_list, contents_of, types_of, Updates, IsWhole}
use Rattle.scan_share.specs.Timing.{may_scan, IsTimed}
use Rattle.scan_share.specs.Views.{ParkedView, OpenView}
use Rattle.scan_share.proofs.Groups.{group_of_laws}
use Rattle.virtual_tap.specs.Taps.{VTapState, ScansAt, at_update, ends_scan}
use Rattle.virtual_tap.specs.Views.{TapView, StandsFor, HoldsStages, MovesAs, at_capture, closed_view, opened_view}
use Rattle.client_session.specs.Seats.{Seat, advanced, opens_next}
use Rattle.client_session.specs.Turns.{Turn, put_in_line, scan_length_of, advanced_turn}
use Rattle.client_session.specs.Sessions.{DeskView}
use Rattle.client_session.specs.Going.{Follows}
use Rattle.client_session.specs.Desks.{Attends, Closed, Opened, IsSound, desk_of, scan_on}
use Rattle.client_session.specs.Edges.{AfterEdge, EdgesTo, MakesEdge}
use Rattle.client_session.proofs.Untouched.{rise_contents, rise_codes, rise_scan, rise_types, fall_contents, fall_codes, fall_types}
use Rattle.client_session.proofs.Cycles.{no_capture}
use Rattle.client_session.proofs.Opening.{both}
use Rattle.client_session.proofs.Resting.{as_is, holds_step, joined as joins}
use Rattle.client_session.proofs.Quietly.{still_step, still_turn}
use Rattle.client_session.proofs.Sharing.{closes_scan}
use Rattle.client_session.proofs.Attending.{captured_turn, follows_captured, follows_line, follows_quiet, line_rests, line_turn, stands_captured}
use Rattle.client_session.proofs.Entering.{shown_as}

never : {A : Type 0} → false ≡ true → A
never e = absurd (let q : false ≡ true = e in cc)

-- a fall that ends one
ending_state : (state : Tap) (is_open : Bool) → ends_scan state is_open ≡ true → state ≡ UpdateDr
ending_state UpdateDr is_open h = refl
ending_state _ is_open h = never h

ending_open : (state : Tap) (is_open : Bool) → ends_scan state is_open ≡ true → is_open ≡ true
ending_open state is_open h = sym (ap (λ s. ends_scan s is_open) (ending_state state is_open h)) ∙ h

module _ (layout : LayoutShape) (grant : ℕ) (sound : IsSound layout grant) where
  abbrev group : List ℕ
  group = group_of layout.grants grant

  -- ---- after an edge that is made

  after : (tck tms tdi : Bool) (old new : VTapState) (turn : Turn) (next : ChainState) → MakesEdge tck tms tdi old grant turn → (advanced_turn layout grant turn).seat ≡ advanced turn.seat → (advanced turn.seat).chain ≡ next
      → types_of next ≡ types_of turn.seat.chain → new.parts ≡ old.parts → StandsFor new.view next → AfterEdge false layout new grant turn (advanced_turn layout grant turn)
  after tck tms tdi old new turn next makes seat moves types parts stands =
      let chain_is : (advanced_turn layout grant turn).seat.chain ≡ next = ap (λ (s : Seat). s.chain) seat ∙ moves in
      record {
        holds = holds_step layout grant turn makes.holds;
        types = ap types_of chain_is ∙ types ∙ makes.types ∙ sym parts;
        stands = subst (StandsFor new.view) (sym chain_is) stands;
        seat = seat;
        rests = λ h. never h;
        line = λ h. never h;
      }

  module _ {C : Type 0} (base_desk : DeskView) (base turn : Turn) (whole : IsWhole layout base_desk.chain) (desk : Token (ParkedView C) (OpenView C)) (old new : VTapState) (parts : new.parts ≡ old.parts) where
    -- an edge that opens and closes no scan
    quiet_edge : (tck tms tdi : Bool) (next : ChainState) (told : Option ChainState) (makes : MakesEdge tck tms tdi old grant turn) → opens_next turn.seat ≡ false → (advanced turn.seat).chain ≡ next
        → next.scan_open ≡ turn.seat.chain.scan_open → contents_of next ≡ contents_of turn.seat.chain → (turn.seat.chain.scan_open ≡ true → code_list next ≡ code_list turn.seat.chain) → types_of next ≡ types_of turn.seat.chain
        → StandsFor new.view next → Attends layout grant base_desk base (MakesEdge tck tms tdi old grant) desk told turn → EdgesTo false layout grant new base_desk base desk told turn
    quiet_edge tck tms tdi next None makes opens moves scan contents codes types stands attends = absurd attends
    quiet_edge tck tms tdi next (Some chain) makes opens moves scan contents codes types stands attends =
        let same = ap (λ (c : ChainState). c.scan_open) moves ∙ scan in
        let quiet = still_step layout grant turn opens makes.holds same (ap contents_of moves ∙ contents) (λ h. ap code_list moves ∙ codes h) in
        let turn_is = still_turn layout grant turn opens makes.holds same in
        let follows = follows_quiet layout grant sound.parts (group_of_laws layout group sound.group_is) base_desk (desk_of layout desk chain) base turn (record turn { seat = advanced turn.seat }) quiet attends.0 in (
          subst (Follows layout group grant base_desk base (desk_of layout desk chain)) (sym turn_is) follows,
          after tck tms tdi old new turn next makes (ap (λ (t : Turn). t.seat) turn_is) moves types parts stands,
        )

    -- a rise that captures nothing
    pub rise_edge : (tck tms tdi : Bool) (told : Option ChainState) → tck ≡ true → ScansAt false old.view → at_capture old.view ≡ false → (is_capture_dr old.view.state ≡ false → MovesAs old.parts (λ chain. rise chain tms tdi) old.view new.view)
        → Attends layout grant base_desk base (MakesEdge tck tms tdi old grant) desk told turn → EdgesTo false layout grant new base_desk base desk told turn
    rise_edge tck tms tdi None up low free moved attends = absurd attends
    rise_edge tck tms tdi (Some chain) up low free moved attends =
        let here = subst (λ level. Attends layout grant base_desk base (MakesEdge level tms tdi old grant) desk (Some chain) turn) up attends in
        let makes = here.1 in
        let elsewhere = no_capture old.view.state old.view.scan_open low free in
        let there : is_capture_dr turn.seat.chain.state ≡ false = ap is_capture_dr (sym makes.stands.state) ∙ elsewhere in
        quiet_edge true tms tdi (rise turn.seat.chain tms tdi) (Some chain) makes (makes.opens ∙ free) makes.moves
        (rise_scan turn.seat.chain tms tdi there) (rise_contents turn.seat.chain tms tdi there) (λ h. rise_codes turn.seat.chain tms tdi) (rise_types turn.seat.chain tms tdi)
        (moved elsewhere turn.seat.chain makes.types makes.stands) here

    -- a fall that ends no scan
    pub fall_edge : (tms tdi : Bool) (told : Option ChainState) → ScansAt true old.view → new.view.scan_open ≡ old.view.scan_open → MovesAs old.parts fall old.view new.view
        → Attends layout grant base_desk base (MakesEdge false tms tdi old grant) desk told turn → EdgesTo false layout grant new base_desk base desk told turn
    fall_edge tms tdi None high scan moved attends = absurd attends
    fall_edge tms tdi (Some chain) high scan moved attends =
        let makes = attends.1 in
        let stands = moved turn.seat.chain makes.types makes.stands in
        let same : (fall turn.seat.chain).scan_open ≡ turn.seat.chain.scan_open = sym stands.scan ∙ scan ∙ makes.stands.scan in
        let timed : IsTimed true turn.seat.chain = λ is_open. sym (ap (may_scan true) makes.stands.state) ∙ sym high ∙ makes.stands.scan ∙ is_open in
        quiet_edge false tms tdi (fall turn.seat.chain) (Some chain) makes makes.opens makes.moves
        same (fall_contents turn.seat.chain same) (λ h. fall_codes true turn.seat.chain timed h same) (fall_types turn.seat.chain) stands attends

    -- the fall that ends a scan, with its update
    pub update_edge : (tms tdi : Bool) (mid : VTapState) (next : Token (ParkedView C) (OpenView C)) (bits : List Bool) (before after_it : Option ChainState)
        → at_update old.view ≡ true → mid.parts ≡ old.parts → mid.view.register ≡ old.view.register → (old.view.scan_open ≡ true → mid.view.codes ≡ old.view.codes) → MovesAs old.parts fall old.view (closed_view mid.view) → old.view.register ≡ Some bits
        → Closed layout grant (waiting desk) mid new next before after_it
        → Attends layout grant base_desk base (MakesEdge false tms tdi old grant) desk before turn → EdgesTo false layout grant new base_desk base next after_it turn
    update_edge tms tdi mid next bits None after_it ends mid_parts register_kept codes_kept moved register closing attends = absurd attends
    update_edge tms tdi mid next bits (Some chain) None ends mid_parts register_kept codes_kept moved register closing attends = absurd (closing.updated bits (register_kept ∙ register))
    update_edge tms tdi mid next bits (Some chain) (Some chain_new) ends mid_parts register_kept codes_kept moved register closing attends =
        let makes = attends.1 in
        let view_open = ending_open old.view.state old.view.scan_open ends in
        let is_open : turn.seat.chain.scan_open ≡ true = sym makes.stands.scan ∙ view_open in
        let state : turn.seat.chain.state ≡ UpdateDr = sym makes.stands.state ∙ ending_state old.view.state old.view.scan_open ends in
        let stands = moved turn.seat.chain makes.types makes.stands in
        let shut : (advanced turn.seat).chain.scan_open ≡ false = ap (λ (c : ChainState). c.scan_open) makes.moves ∙ sym stands.scan in
        let contents : contents_of (advanced turn.seat).chain ≡ contents_of (updated turn.seat.chain) = ap contents_of makes.moves ∙ ap (λ s. contents_of (on_fall s turn.seat.chain)) state in
        let held : old.view.register ≡ Some (joined (dr_stages turn.seat.chain.devices)) = subst (λ b. HoldsStages b old.view.register turn.seat.chain.devices) is_open makes.stands.register in
        let bits_are : bits ≡ joined (dr_stages turn.seat.chain.devices) = (let q : Some bits ≡ Some (joined (dr_stages turn.seat.chain.devices)) = sym register ∙ held in cc) in
        let updates = subst (λ cs. Updates layout group cs bits chain chain_new) (codes_kept view_open ∙ makes.stands.codes) (closing.updated bits (register_kept ∙ register)) in
        let follows = closes_scan layout grant sound.parts (group_of_laws layout group sound.group_is) base_desk (desk_of layout desk chain) base turn whole attends.0 makes.opens is_open shut
        (makes.cost (scan_length_of layout grant turn.seat)) contents bits chain_new bits_are updates in
        let shows = shown_as layout next chain_new None (waiting desk) None closing.free closing.waits_are closing.scan in
        let seat : (advanced_turn layout grant turn).seat ≡ advanced turn.seat = ap (λ (t : Turn). t.seat) (as_is layout grant false (may_open turn.holder turn.waiting grant) turn makes.opens refl) in (
          subst (λ d. Follows layout group grant base_desk base d (advanced_turn layout grant turn)) shows follows,
          after false tms tdi old new turn (fall turn.seat.chain) makes seat makes.moves (fall_types turn.seat.chain) parts
              (subst (λ (v : VTapState). StandsFor v.view (fall turn.seat.chain)) (sym closing.tap) stands),
        )

    -- ---- the rise that leaves Capture-DR

    -- it is made: the shared chain captured
    pub capture_made : (tms tdi : Bool) (mid : VTapState) (parked : ParkedView C) (queue : List ℕ) (next : Token (ParkedView C) (OpenView C)) (before at_rest after_it : Option ChainState)
        → at_capture old.view ≡ true → Answers desk grant (asked.Yours parked queue) → before ≡ at_rest → Opened layout grant queue old mid next at_rest after_it → (is_capture_dr mid.view.state ≡ true → new.view ≡ record mid.view { state = next_state mid.view.state tms })
        → Attends layout grant base_desk base (MakesEdge true tms tdi old grant) desk before turn → EdgesTo false layout grant new base_desk base next after_it turn
    capture_made tms tdi mid parked queue next before None after_it capture answer same opened risen attends = absurd (subst (λ told. Attends layout grant base_desk base (MakesEdge true tms tdi old grant) desk told turn) same attends)
    capture_made tms tdi mid parked queue next before (Some chain) None capture answer same opened risen attends = absurd opened.captured
    capture_made tms tdi mid parked queue next before (Some chain) (Some chain_new) capture answer same opened risen attends =
        let here = subst (λ told. Attends layout grant base_desk base (MakesEdge true tms tdi old grant) desk told turn) same attends in
        let makes = here.1 in
        let laws = group_of_laws layout group sound.group_is in
        let opens = makes.opens ∙ capture in
        let follows = follows_captured layout grant sound.parts laws base_desk (desk_of layout desk chain) base turn whole here.0 opens answer.0 tms tdi makes.moves old.view makes.stands opened.bits chain_new opened.captured in
        let turn_is = captured_turn layout grant sound.parts laws base_desk (desk_of layout desk chain) base turn whole here.0 opens answer.0 tms tdi makes.moves old.view makes.stands opened.bits chain_new opened.captured in
        let stands = stands_captured layout grant sound.parts laws base_desk (desk_of layout desk chain) base turn whole here.0 opens answer.0 tms tdi makes.moves old.view makes.stands opened.bits chain_new opened.captured in
        let shows = shown_as layout next chain_new (Some grant) (without grant (waiting desk)) (Some (record { grant = grant; codes = old.view.codes })) opened.held (opened.waits_are ∙ answer.2) opened.scan in
        let state : is_capture_dr old.view.state ≡ true = (both (is_capture_dr old.view.state) (not old.view.scan_open) capture).0 in
        let view_is : new.view ≡ record (opened_view opened.bits old.view) { state = next_state old.view.state tms } = risen (ap (λ (v : TapView). is_capture_dr v.state) opened.view_is ∙ state) ∙ ap (λ (v : TapView). record v { state = next_state v.state tms }) opened.view_is in (
          subst (λ d. Follows layout group grant base_desk base d (advanced_turn layout grant turn)) shows follows,
          after true tms tdi old new turn (rise turn.seat.chain tms tdi) makes (ap (λ (t : Turn). t.seat) turn_is) makes.moves (rise_types turn.seat.chain tms tdi) parts
              (subst (λ (v : TapView). StandsFor v (rise turn.seat.chain tms tdi)) (sym view_is) stands),
        )

    -- the grant waits before it
    pub capture_waits : (tms tdi : Bool) (next : Token (ParkedView C) (OpenView C)) (before after_it : Option ChainState)
        → at_capture old.view ≡ true → Answers desk grant (asked.Wait next) → before ≡ after_it → new ≡ old
        → Attends layout grant base_desk base (MakesEdge true tms tdi old grant) desk before turn → EdgesTo true layout grant new base_desk base next after_it turn
    capture_waits tms tdi next None after_it capture answer same kept attends = absurd attends
    capture_waits tms tdi next (Some chain) after_it capture answer same kept attends =
        let makes = attends.1 in
        let laws = group_of_laws layout group sound.group_is in
        let opens = makes.opens ∙ capture in
        let line = line_turn layout grant sound.parts laws base_desk (desk_of layout desk chain) base turn whole attends.0 opens answer.0 in
        let rests = line_rests layout grant sound.parts laws base_desk (desk_of layout desk chain) base turn whole attends.0 opens answer.0 in
        let follows = follows_line layout grant sound.parts laws base_desk (desk_of layout desk chain) base turn whole attends.0 opens answer.0 in
        let shows = shown_as layout next chain (holder desk) (with_waiting grant (waiting desk)) (scan_on layout desk.side) (ap holder_of answer.1) answer.2 (ap (scan_on layout) answer.1) in
        let there : AfterEdge true layout new grant turn (put_in_line grant turn) = record {
          holds = makes.holds;
          types = makes.types ∙ ap (λ (t : VTapState). t.parts) (sym kept);
          stands = subst (λ (t : VTapState). StandsFor t.view turn.seat.chain) (sym kept) makes.stands;
          seat = refl;
          rests = λ h. rests;
          line = λ h. joins grant turn.waiting;
        } in
        subst (λ told. EdgesTo true layout grant new base_desk base next told turn) same
        (subst (λ t. Follows layout group grant base_desk base (desk_of layout next chain) t × AfterEdge true layout new grant turn t) (sym line)
        (subst (λ d. Follows layout group grant base_desk base d (put_in_line grant turn)) shows follows, there))
