-- A session amid a `shift:` at the desk: where its scan is closed, where one is opened, and where it waits.
use Rattle.std.proofs.Common.{◌≡◌, ◌<◌, ◌≤◌, ◌+◌, ◌-◌, ℕ, suc, Bool, true, false, not, ◌&&◌, List, [], ◌∷◌, ◌++◌, take, drop, length, refl, ap, sym, ◌∙◌, subst, arith, Some, None}
use Rattle.std.specs.declared.option.Option.{Option}
use Rattle.std.proofs.lemmas.Bool.{eq-eqb}
use Rattle.std.proofs.Math.Seq.{take-suc-set}
use Rattle.base_types.specs.Counts.{raised}
use Rattle.tap_states.specs.States.{is_capture_dr, next as next_state}
use Rattle.scan_bits.specs.Registers.{bit_at, joined}
use Rattle.chain_model.specs.Chains.{ChainState}
use Rattle.chain_model.specs.Cycles.{rise, fall, on_fall, updated, dr_stages}
use Rattle.grant_table.specs.Layouts.{LayoutShape, group_of}
use Rattle.grant_table.specs.Kept.{AllParts}
use Rattle.chain_token.specs.Waiting.{may_open, with_waiting, without}
use Rattle.scan_share.specs.PrivateChains.{entries_at, nets_within}
use Rattle.scan_share.specs.Scans.{code_list, contents_of, types_of, with_contents, update_cost, IsWhole, IsOpenFor, Captures, Updates}
use Rattle.scan_share.proofs.Facts.{IsGroup}
use Rattle.scan_share.proofs.Kept.{entries_each, timed_rise, timed_shut}
use Rattle.scan_share.proofs.MadeOf.{all_sound}
use Rattle.virtual_tap.specs.Taps.{VTapState}
use Rattle.virtual_tap.specs.Views.{TapView, StandsFor, at_capture, closed_view, opened_view}
use Rattle.virtual_tap.proofs.CaptureEdge.{capture_edge}
use Rattle.xvc_frame.specs.Frames.{FrameState, tms_bits, tdi_bits}
use Rattle.client_session.specs.Acts.{Act, shift_acts}
use Rattle.client_session.specs.Acts.Act.{Sample, Rise, Fall}
use Rattle.client_session.specs.Seats.{Seat, advanced, opens_next, rises_next}
use Rattle.client_session.specs.Turns.{Turn, is_holder, freeing_cost, scan_length_of, captured, put_in_line, advanced_turn, advanced_turns}
use Rattle.client_session.specs.Paces.{IsSeatOver}
use Rattle.client_session.specs.Sessions.{DeskView, Serves, KeepsChain}
use Rattle.client_session.specs.Going.{Holds, Quiet, PutsBit, Follows, GoesTo, Leads, SampledAt, ShiftsAt, ClosesAt, WaitsAt}
use Rattle.client_session.proofs.Kept.{turns_over}
use Rattle.client_session.proofs.Answering.{one_act}
use Rattle.client_session.proofs.Opening.{both, not_true, opens_is, opens_opens}
use Rattle.client_session.proofs.Resting.{as_is, waits_still, joined as joins}
use Rattle.client_session.proofs.Quietly.{quiet_act, quiet_more, no_rise_next, advanced_turns-add}
use Rattle.client_session.proofs.Untouched.{fall_contents, fall_codes, fall_types, rise_types}
use Rattle.client_session.proofs.ShiftCycles.{acts_from, drop-set}
use Rattle.client_session.proofs.Sharing.{closes_scan, closed_turn, opens_scan, opened_turn, captured_bits}

never : {A : Type 0} → false ≡ true → A
never e = absurd (let q : false ≡ true = e in cc)

module _ (layout : LayoutShape) (grant : ℕ) (parts : AllParts layout.parts) (is : IsGroup (group_of layout.grants grant) (length layout.parts)) where
  abbrev group : List ℕ
  group = group_of layout.grants grant

  -- ---- quiet steps

  keeps_on : (holder : Option ℕ) (desk : DeskView) (turn next : Turn) → Quiet layout grant turn next → (holder ≡ Some grant → turn.seat.chain.scan_open ≡ true)
      → KeepsChain layout group grant holder desk turn.seat → KeepsChain layout group grant holder desk next.seat
  keeps_on None desk turn next quiet is_open keeps = keeps
  keeps_on (Some holder) desk turn next quiet is_open keeps = λ mine.
      let same = quiet.codes (is_open (ap Some mine)) in
      record {
        scan = (keeps mine).scan ∙ ap (λ cs. Some (record { grant = grant; codes = cs })) (sym same);
        chain_open = subst (λ cs. IsOpenFor layout group cs desk.chain) (sym same) (keeps mine).chain_open;
      }

  held_open : (desk : DeskView) (turn : Turn) → Serves layout group grant desk turn → desk.holder ≡ Some grant → turn.seat.chain.scan_open ≡ true
  held_open desk turn serves mine = sym serves.holds ∙ ap (λ h. is_holder h grant) (sym serves.holder ∙ mine) ∙ eq-eqb grant grant refl

  pub follows_quiet : (base_desk desk : DeskView) (base turn next : Turn) → Quiet layout grant turn next → Follows layout group grant base_desk base desk turn → Follows layout group grant base_desk base desk next
  follows_quiet base_desk desk base turn next quiet follows =
      let serves = follows.serves in
      let over = turns_over (entries_at layout.parts group) (nets_within group layout.nets) (entries_each _ layout.parts group (all_sound layout.parts parts)) quiet.steps layout grant turn.seat.protocol turn serves.over in
      let over_next = subst (λ t. IsSeatOver turn.seat.protocol (entries_at layout.parts group) (nets_within group layout.nets) t.seat) (sym quiet.made) over in
      record {
        serves = record {
          whole = serves.whole;
          over = subst (λ p. IsSeatOver p (entries_at layout.parts group) (nets_within group layout.nets) next.seat) (sym over_next.protocol_is) over_next;
          counted = serves.counted;
          holder = serves.holder ∙ sym quiet.holder;
          waiting = serves.waiting ∙ sym quiet.waiting;
          holds = ap (λ h. is_holder h grant) quiet.holder ∙ serves.holds ∙ sym quiet.scan;
          contents = serves.contents ∙ sym quiet.contents;
          keeps = keeps_on desk.holder desk turn next quiet (held_open desk turn serves) serves.keeps;
        };
        others = follows.others ∙ ap (λ own. with_contents group own (contents_of base_desk.chain)) (sym quiet.contents);
        held = follows.held;
        untouched = follows.untouched;
        due = omega (arith, follows.due, quiet.cost);
        made = subst (λ cost. desk.chain.made ≤ raised base_desk.chain.made (cost - base.cost)) (sym quiet.cost) follows.made;
      }

  -- ---- a rise that opens a scan, whatever act makes it

  module _ (base_desk desk : DeskView) (base turn : Turn) (whole : IsWhole layout base_desk.chain) (follows : Follows layout group grant base_desk base desk turn) (opens : opens_next turn.seat ≡ true) where
    in_line : (holder : Option ℕ) → KeepsChain layout group grant holder desk turn.seat → KeepsChain layout group grant holder (record desk { waiting = with_waiting grant desk.waiting }) turn.seat
    in_line None keeps = keeps
    in_line (Some holder) keeps = λ mine. record { scan = (keeps mine).scan; chain_open = (keeps mine).chain_open }

    -- the grant waits before it
    module _ (closed : may_open desk.holder desk.waiting grant ≡ false) where
      not_yet : may_open turn.holder turn.waiting grant ≡ false
      not_yet = (λ i. may_open (sym follows.serves.holder i) (sym follows.serves.waiting i) grant) ∙ closed

      pub line_turn : advanced_turn layout grant turn ≡ put_in_line grant turn
      line_turn = as_is layout grant true false turn opens not_yet

      pub line_rests : advanced_turn layout grant (put_in_line grant turn) ≡ put_in_line grant turn
      line_rests = waits_still layout grant turn opens not_yet

      pub follows_line : Follows layout group grant base_desk base (record desk { waiting = with_waiting grant desk.waiting }) (put_in_line grant turn)
      follows_line = record {
        serves = record {
          whole = follows.serves.whole;
          over = follows.serves.over;
          counted = follows.serves.counted;
          holder = follows.serves.holder;
          waiting = ap (with_waiting grant) follows.serves.waiting;
          holds = follows.serves.holds;
          contents = follows.serves.contents;
          keeps = in_line desk.holder follows.serves.keeps;
        };
        others = follows.others;
        held = follows.held;
        untouched = follows.untouched;
        due = follows.due;
        made = follows.made;
      }

    -- the chain is the grant's
    module _ (open_to : may_open desk.holder desk.waiting grant ≡ true) (tms tdi : Bool) (rises : (advanced turn.seat).chain ≡ rise turn.seat.chain tms tdi) (view : TapView) (stands : StandsFor view turn.seat.chain)
        (bits : List Bool) (chain : ChainState) (captures : Captures layout group view.codes bits desk.chain chain) where
      may_now : may_open turn.holder turn.waiting grant ≡ true
      may_now = (λ i. may_open (sym follows.serves.holder i) (sym follows.serves.waiting i) grant) ∙ open_to

      captures_now : Captures layout group (code_list turn.seat.chain) bits desk.chain chain
      captures_now = subst (λ cs. Captures layout group cs bits desk.chain chain) stands.codes captures

      pub captured_turn : advanced_turn layout grant turn ≡ captured layout grant (advanced turn.seat) turn
      captured_turn = opened_turn layout grant parts is base_desk desk base turn whole follows opens may_now

      pub follows_captured : Follows layout group grant base_desk base (record { holder = Some grant; waiting = without grant desk.waiting; scan = Some (record { grant = grant; codes = view.codes }); chain = chain }) (advanced_turn layout grant turn)
      follows_captured =
          subst (λ cs. Follows layout group grant base_desk base (record { holder = Some grant; waiting = without grant desk.waiting; scan = Some (record { grant = grant; codes = cs }); chain = chain }) (advanced_turn layout grant turn)) (sym stands.codes)
          (opens_scan layout grant parts is base_desk desk base turn whole follows tms tdi opens may_now rises bits chain captures_now)

      pub stands_captured : StandsFor (record (opened_view bits view) { state = next_state view.state tms }) (rise turn.seat.chain tms tdi)
      stands_captured =
          subst (λ b. StandsFor (record (opened_view b view) { state = next_state view.state tms }) (rise turn.seat.chain tms tdi))
          (sym (captured_bits layout grant parts is base_desk desk base turn whole follows tms tdi opens may_now rises bits chain captures_now))
          (capture_edge view turn.seat.chain tms tdi stands (opens_is turn.seat opens).state)

  -- ---- the fall that ends a scan

  module _ (base_desk desk : DeskView) (base start : Turn) (whole : IsWhole layout base_desk.chain) (follows : Follows layout group grant base_desk base desk start) where
    module _ (frame : FrameState) (tap : VTapState) (at : ℕ) (leads : Leads layout grant (ClosesAt frame tap at grant) start) where
      abbrev here : Turn
      here = leads.next

      abbrev left : List Act
      left = shift_acts (drop at (tms_bits frame)) (drop at (tdi_bits frame))

      -- the turn after the fall
      abbrev shut_turn : Turn
      shut_turn = record { seat = record here.seat { acts = left; chain = fall here.seat.chain }; holder = None; waiting = here.waiting; joins = here.joins; cost = here.cost + update_cost (scan_length_of layout grant here.seat) }

      falls : advanced here.seat ≡ record here.seat { acts = left; chain = fall here.seat.chain }
      falls = one_act Fall left here.seat leads.there.going leads.there.acts

      no_opening : opens_next here.seat ≡ false
      no_opening = no_rise_next here.seat (ap (λ acts. rises_next acts here.seat) leads.there.acts)

      shut : (advanced here.seat).chain.scan_open ≡ false
      shut = ap (λ (s : Seat). s.chain.scan_open) falls ∙ sym leads.there.closes.stands.scan

      cost_is : freeing_cost here.seat.acts (scan_length_of layout grant here.seat) ≡ update_cost (scan_length_of layout grant here.seat)
      cost_is = ap (λ acts. freeing_cost acts (scan_length_of layout grant here.seat)) leads.there.acts

      follows_here : Follows layout group grant base_desk base desk here
      follows_here = follows_quiet base_desk desk base start here leads.quiet follows

      turn_is : advanced_turn layout grant here ≡ shut_turn
      turn_is =
          closed_turn layout grant parts is base_desk desk base here whole follows_here no_opening leads.there.closes.chain_open shut
          ∙ (λ i. record { seat = falls i; holder = None; waiting = here.waiting; joins = here.joins; cost = here.cost + cost_is i })

      updated_contents : contents_of (advanced here.seat).chain ≡ contents_of (updated here.seat.chain)
      updated_contents = ap (λ (s : Seat). contents_of s.chain) falls ∙ ap (λ state. contents_of (on_fall state here.seat.chain)) leads.there.closes.state

      pub update_on : (bits : List Bool) (chain : ChainState) → tap.view.register ≡ Some bits → Updates layout group tap.view.codes bits desk.chain chain
          → GoesTo layout grant (λ turn. Follows layout group grant base_desk base (record { holder = None; waiting = desk.waiting; scan = None; chain = chain }) turn
          × ShiftsAt frame (record tap { view = closed_view tap.view }) at grant turn) start
      update_on bits chain register updates =
          let bits_are : bits ≡ joined (dr_stages here.seat.chain.devices) = (let q : Some bits ≡ Some (joined (dr_stages here.seat.chain.devices)) = sym register ∙ leads.there.closes.register in cc) in
          record {
            next = shut_turn;
            steps = leads.quiet.steps + 1;
            made = sym turn_is ∙ ap (advanced_turn layout grant) leads.quiet.made ∙ sym (advanced_turns-add layout grant leads.quiet.steps 1 start);
            kept = ap (λ (s : Seat). record s { chain = fall here.seat.chain; acts = left }) leads.kept;
            there = (
              subst (Follows layout group grant base_desk base (record { holder = None; waiting = desk.waiting; scan = None; chain = chain })) turn_is
                  (closes_scan layout grant parts is base_desk desk base here whole follows_here no_opening leads.there.closes.chain_open shut cost_is updated_contents bits chain bits_are
                  (subst (λ cs. Updates layout group cs bits desk.chain chain) leads.there.closes.codes updates)),
              record {
                going = leads.there.going;
                holds = leads.there.closes.stands.scan;
                types = fall_types here.seat.chain ∙ leads.there.types;
                acts = refl;
                sampled = leads.there.sampled;
                stands = leads.there.closes.stands;
              },
            );
          }

    -- ---- the rise that leaves Capture-DR, with TDO sampled for its cycle

    module _ (frame : FrameState) (tap : VTapState) (at : ℕ) (here : Turn) (follows_here : Follows layout group grant base_desk base desk here) (amid : SampledAt frame tap at grant here)
        (capture : at_capture tap.view ≡ true) where
      abbrev rise_tms : Bool
      rise_tms = bit_at (tms_bits frame) at

      abbrev rise_tdi : Bool
      rise_tdi = bit_at (tdi_bits frame) at

      abbrev behind : List Act
      behind = shift_acts (drop (suc at) (tms_bits frame)) (drop (suc at) (tdi_bits frame))

      here_state : is_capture_dr here.seat.chain.state ≡ true
      here_state = ap is_capture_dr (sym amid.stands.state) ∙ (both (is_capture_dr tap.view.state) (not tap.view.scan_open) capture).0

      here_shut : here.seat.chain.scan_open ≡ false
      here_shut = sym amid.stands.scan ∙ not_true tap.view.scan_open (both (is_capture_dr tap.view.state) (not tap.view.scan_open) capture).1

      here_opens : opens_next here.seat ≡ true
      here_opens = λ i. amid.going i && (here_state i && (not (here_shut i) && rises_next (amid.acts i) here.seat))

      -- the chain is the grant's: its scan is opened, and the cycle goes on to its fall
      module _ (open_to : may_open desk.holder desk.waiting grant ≡ true) (bits : List Bool) (chain : ChainState) (captures : Captures layout group tap.view.codes bits desk.chain chain)
          (frame_new : FrameState) (tap_new : VTapState) (in_tdi : at < length (tdi_bits frame)) (parts_kept : tap_new.parts ≡ tap.parts) (put : PutsBit at tap.view.tdo frame frame_new) (scan_new : tap_new.view.scan_open ≡ true)
          (moved : (c : ChainState) → types_of c ≡ tap.parts → StandsFor (record (opened_view bits tap.view) { state = next_state tap.view.state rise_tms }) c → StandsFor tap_new.view (fall c)) where
        abbrev desk_held : DeskView
        desk_held = record { holder = Some grant; waiting = without grant desk.waiting; scan = Some (record { grant = grant; codes = tap.view.codes }); chain = chain }

        abbrev risen_turn : Turn
        risen_turn = captured layout grant (record here.seat { acts = Fall ∷ behind; chain = rise here.seat.chain rise_tms rise_tdi }) here

        abbrev fallen_turn : Turn
        fallen_turn = record risen_turn { seat = record risen_turn.seat { acts = behind; chain = fall (rise here.seat.chain rise_tms rise_tdi) } }

        rises : advanced here.seat ≡ risen_turn.seat
        rises = one_act (Rise rise_tms rise_tdi) (Fall ∷ behind) here.seat amid.going amid.acts

        rises_chain : (advanced here.seat).chain ≡ rise here.seat.chain rise_tms rise_tdi
        rises_chain = ap (λ (s : Seat). s.chain) rises

        captured_is : advanced_turn layout grant here ≡ risen_turn
        captured_is =
            captured_turn base_desk desk base here whole follows_here here_opens open_to rise_tms rise_tdi rises_chain tap.view amid.stands bits chain captures
            ∙ ap (λ s. captured layout grant s here) rises

        follows_risen : Follows layout group grant base_desk base desk_held risen_turn
        follows_risen =
            subst (Follows layout group grant base_desk base desk_held) captured_is
            (follows_captured base_desk desk base here whole follows_here here_opens open_to rise_tms rise_tdi rises_chain tap.view amid.stands bits chain captures)

        stands_then : StandsFor tap_new.view (fall (rise here.seat.chain rise_tms rise_tdi))
        stands_then = moved (rise here.seat.chain rise_tms rise_tdi) (rise_types here.seat.chain rise_tms rise_tdi ∙ amid.types)
            (stands_captured base_desk desk base here whole follows_here here_opens open_to rise_tms rise_tdi rises_chain tap.view amid.stands bits chain captures)

        open_risen : (rise here.seat.chain rise_tms rise_tdi).scan_open ≡ true
        open_risen = sym (ap (λ (s : Seat). s.chain.scan_open) rises) ∙ opens_opens here.seat here_opens

        same : (fall (rise here.seat.chain rise_tms rise_tdi)).scan_open ≡ (rise here.seat.chain rise_tms rise_tdi).scan_open
        same = sym stands_then.scan ∙ scan_new ∙ sym open_risen

        holds_risen : Holds grant risen_turn
        holds_risen = eq-eqb grant grant refl ∙ sym open_risen

        to_fall : Quiet layout grant risen_turn fallen_turn
        to_fall = quiet_act layout grant Fall behind risen_turn amid.going refl (no_rise_next risen_turn.seat refl) holds_risen same
            (fall_contents (rise here.seat.chain rise_tms rise_tdi) same)
            (λ h. fall_codes true (rise here.seat.chain rise_tms rise_tdi) (timed_rise here.seat.chain rise_tms rise_tdi (timed_shut false here.seat.chain here_shut)) h same)

        pub capture_from : GoesTo layout grant (λ turn. Follows layout group grant base_desk base desk_held turn × ShiftsAt frame_new tap_new (suc at) grant turn) here
        capture_from = record {
          next = fallen_turn;
          steps = 1 + to_fall.steps;
          made = to_fall.made ∙ ap (advanced_turns to_fall.steps layout grant) (sym captured_is) ∙ sym (advanced_turns-add layout grant 1 to_fall.steps here);
          kept = refl;
          there = (
            follows_quiet base_desk desk_held base risen_turn fallen_turn to_fall follows_risen,
            record {
              going = amid.going;
              holds = holds_risen ∙ sym same;
              types = fall_types (rise here.seat.chain rise_tms rise_tdi) ∙ rise_types here.seat.chain rise_tms rise_tdi ∙ amid.types ∙ sym parts_kept;
              acts = (λ i. shift_acts (drop (suc at) (sym put.tms i)) ((sym (drop-set (tdi_bits frame) at tap.view.tdo) ∙ ap (drop (suc at)) (sym put.tdi)) i));
              sampled = amid.sampled ∙ sym (take-suc-set (tdi_bits frame) at tap.view.tdo in_tdi) ∙ ap (take (suc at)) (sym put.tdi);
              stands = stands_then;
            },
          );
        }

    -- ---- the edge that leaves Capture-DR

    module _ (frame : FrameState) (tap : VTapState) (at : ℕ) (leads : Leads layout grant (ShiftsAt frame tap at grant) start)
        (capture : at_capture tap.view ≡ true) (in_tms : at < length (tms_bits frame)) (in_tdi : at < length (tdi_bits frame)) where
      abbrev before : Turn
      before = leads.next

      abbrev tms : Bool
      tms = bit_at (tms_bits frame) at

      abbrev tdi : Bool
      tdi = bit_at (tdi_bits frame) at

      abbrev rest : List Act
      rest = shift_acts (drop (suc at) (tms_bits frame)) (drop (suc at) (tdi_bits frame))

      abbrev sampled_turn : Turn
      sampled_turn = record before { seat = record before.seat { acts = Rise tms tdi ∷ Fall ∷ rest; sampled = before.seat.sampled ++ before.seat.chain.tdo ∷ [] } }

      acts_are : before.seat.acts ≡ Sample ∷ Rise tms tdi ∷ Fall ∷ rest
      acts_are = leads.there.acts ∙ acts_from (tms_bits frame) (tdi_bits frame) at in_tms in_tdi

      to_sample : Quiet layout grant start sampled_turn
      to_sample = quiet_more layout grant start before sampled_turn leads.quiet
          (quiet_act layout grant Sample (Rise tms tdi ∷ Fall ∷ rest) before leads.there.going acts_are (no_rise_next before.seat (ap (λ acts. rises_next acts before.seat) acts_are)) leads.there.holds refl refl (λ h. refl))

      sampled_are : before.seat.sampled ++ before.seat.chain.tdo ∷ [] ≡ take at (tdi_bits frame) ++ tap.view.tdo ∷ []
      sampled_are = λ i. leads.there.sampled i ++ sym leads.there.stands.tdo i ∷ []

      amid_there : SampledAt frame tap at grant sampled_turn
      amid_there = record { going = leads.there.going; holds = leads.there.holds; types = leads.there.types; acts = refl; sampled = sampled_are; stands = leads.there.stands }

      follows_sample : Follows layout group grant base_desk base desk sampled_turn
      follows_sample = follows_quiet base_desk desk base start sampled_turn to_sample follows

      opens : opens_next sampled_turn.seat ≡ true
      opens = here_opens frame tap at sampled_turn follows_sample amid_there capture

      -- where the grant waits
      pub wait_on : may_open desk.holder desk.waiting grant ≡ false
          → GoesTo layout grant (λ turn. Follows layout group grant base_desk base (record desk { waiting = with_waiting grant desk.waiting }) turn × WaitsAt layout frame tap at grant turn) start
      wait_on closed =
          record {
            next = put_in_line grant sampled_turn;
            steps = to_sample.steps + 1;
            made = sym (line_turn base_desk desk base sampled_turn whole follows_sample opens closed) ∙ ap (advanced_turn layout grant) to_sample.made ∙ sym (advanced_turns-add layout grant to_sample.steps 1 start);
            kept = ap (λ (s : Seat). record s { acts = Rise tms tdi ∷ Fall ∷ rest; sampled = before.seat.sampled ++ before.seat.chain.tdo ∷ [] }) leads.kept;
            there = (
              follows_line base_desk desk base sampled_turn whole follows_sample opens closed,
              record {
                amid = record { going = leads.there.going; holds = leads.there.holds; types = leads.there.types; acts = refl; sampled = sampled_are; stands = leads.there.stands };
                rests = line_rests base_desk desk base sampled_turn whole follows_sample opens closed;
                waits = joins grant before.waiting;
              },
            );
          }

      -- where the chain is the grant's
      pub capture_on : (may_open desk.holder desk.waiting grant ≡ true) → (bits : List Bool) (chain : ChainState) → Captures layout group tap.view.codes bits desk.chain chain
          → (frame_new : FrameState) (tap_new : VTapState) → tap_new.parts ≡ tap.parts → PutsBit at tap.view.tdo frame frame_new → tap_new.view.scan_open ≡ true
          → ((c : ChainState) → types_of c ≡ tap.parts → StandsFor (record (opened_view bits tap.view) { state = next_state tap.view.state tms }) c → StandsFor tap_new.view (fall c))
          → GoesTo layout grant (λ turn. Follows layout group grant base_desk base (record { holder = Some grant; waiting = without grant desk.waiting; scan = Some (record { grant = grant; codes = tap.view.codes }); chain = chain }) turn
          × ShiftsAt frame_new tap_new (suc at) grant turn) start
      capture_on open_to bits chain captures frame_new tap_new parts_kept put scan_new moved =
          let on = capture_from frame tap at sampled_turn follows_sample amid_there capture open_to bits chain captures frame_new tap_new in_tdi parts_kept put scan_new moved in
          record {
            next = on.next;
            steps = to_sample.steps + on.steps;
            made = on.made ∙ ap (advanced_turns on.steps layout grant) to_sample.made ∙ sym (advanced_turns-add layout grant to_sample.steps on.steps start);
            kept = on.kept ∙ ap (λ (s : Seat). record s { acts = on.next.seat.acts; sampled = on.next.seat.sampled; chain = on.next.seat.chain }) leads.kept;
            there = on.there;
          }
