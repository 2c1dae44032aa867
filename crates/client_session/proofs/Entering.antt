-- The legs of the way through a `shift:`, over a desk whose cable may tell its chain.
use Rattle.std.proofs.Common.{◌≡◌, ◌<◌, ◌+◌, ℕ, suc, Bool, true, false, List, length, refl, ap, sym, ◌∙◌, subst, arith, Some, None, is_some}
use Rattle.std.specs.declared.option.Option.{Option}
use Rattle.std.proofs.lemmas.Bool.{eq-eqb}
use Rattle.tap_states.specs.States.{next}
use Rattle.scan_bits.specs.Registers.{bit_at}
use Rattle.chain_model.specs.Chains.{ChainState}
use Rattle.chain_model.specs.Cycles.{fall}
use Rattle.grant_table.specs.Layouts.{LayoutShape, group_of}
use Rattle.chain_token.specs.declared.token.Side.{Side}
use Rattle.chain_token.specs.declared.token.Side.TheVariants.{Free, Held}
use Rattle.chain_token.specs.declared.token.Token.{Token}
use Rattle.chain_token.specs.declared.token.Asked.TheVariants as asked
use Rattle.chain_token.specs.Tokens.{Answers, holder, holder_of, waiting}
use Rattle.chain_token.specs.Waiting.{with_waiting, without}
use Rattle.scan_share.specs.Scans.{IsWhole, types_of}
use Rattle.scan_share.specs.Views.{ParkedView, OpenView}
use Rattle.scan_share.proofs.Groups.{group_of_laws}
use Rattle.xvc_frame.specs.Frames.{FrameState, tms_bits, tdi_bits}
use Rattle.virtual_tap.specs.Taps.{VTapState}
use Rattle.virtual_tap.specs.Views.{TapView, StandsFor, at_capture, opened_view}
use Rattle.client_session.specs.Turns.{Turn, is_holder}
use Rattle.client_session.specs.Sessions.{DeskView, OpenScan}
use Rattle.client_session.specs.Stores.{HoldsShift}
use Rattle.client_session.specs.Going.{ClosesAt, Follows, GoesTo, Leads, PutsBit, SampledAt, ShiftsAt, WaitsAt}
use Rattle.client_session.specs.Desks.{Attends, Closed, Entered, HoldsScan, IsDesk, IsSound, SideFits, Opened, desk_of, scan_on}
use Rattle.client_session.proofs.Quietly.{goes_more}
use Rattle.client_session.proofs.Attending.{follows_quiet, update_on, wait_on, capture_on, capture_from}

pub entered : {C : Type 0} (layout : LayoutShape) (grant at : ℕ) (waits : List ℕ) (frame frame_new : FrameState) (old mid new : VTapState) (tdo tms : Bool) (desk : Token (ParkedView C) (OpenView C)) (before after : Option ChainState)
    → Opened layout grant waits old mid desk before after → tdo ≡ mid.view.tdo → PutsBit at tdo frame frame_new → new.view.scan_open ≡ true
    → tms ≡ bit_at (tms_bits frame) at → ((chain : ChainState) → types_of chain ≡ mid.parts → StandsFor (record mid.view { state = next mid.view.state tms }) chain → StandsFor new.view (fall chain))
    → Entered layout grant at waits frame frame_new old new desk before after
entered layout grant at waits frame frame_new old mid new tdo tms desk before after o tdo_is put scan tms_is moved = record {
  bits = o.bits;
  captured = o.captured;
  put = subst (λ bit. PutsBit at bit frame frame_new) (tdo_is ∙ ap (λ (v : TapView). v.tdo) o.view_is) put;
  moved = λ chain types stands. moved chain (types ∙ sym o.parts_are) (subst (λ (v : TapView). StandsFor (record v { state = next v.state tms }) chain) (sym o.view_is) (subst (λ (b : Bool). StandsFor (record (opened_view o.bits old.view) { state = next old.view.state b }) chain) (sym tms_is) stands));
  scan_open = scan;
  held = o.held;
  scan = o.scan;
  waits_are = o.waits_are;
}

-- a desk that is shown so
pub shown_as : {C : Type 0} (layout : LayoutShape) (desk : Token (ParkedView C) (OpenView C)) (chain : ChainState) (held : Option ℕ) (waits : List ℕ) (scan : Option OpenScan) → holder desk ≡ held → waiting desk ≡ waits → scan_on layout desk.side ≡ scan
    → record { holder = held; waiting = waits; scan = scan; chain = chain } ≡ desk_of layout desk chain
shown_as layout desk chain held waits scan h w s = λ i. record { holder = sym h i; waiting = sym w i; scan = sym s i; chain = chain }

module _ (layout : LayoutShape) (grant : ℕ) (sound : IsSound layout grant) (base_desk : DeskView) (base turn : Turn) (whole : IsWhole layout base_desk.chain) {C : Type 0} (desk : Token (ParkedView C) (OpenView C)) where
  -- all cycles are made by quiet steps
  pub made_leg : (P Q : Turn → Type 0) (told : Option ChainState) → (P turn → Leads layout grant Q turn) → Attends layout grant base_desk base P desk told turn → GoesTo layout grant (Attends layout grant base_desk base Q desk told) turn
  made_leg P Q None went attends = absurd attends
  made_leg P Q (Some chain) went attends =
      let leads = went attends.1 in
      record {
        next = leads.next;
        steps = leads.quiet.steps;
        made = leads.quiet.made;
        kept = leads.kept;
        there = (follows_quiet layout grant sound.parts (group_of_laws layout (group_of layout.grants grant) sound.group_is) base_desk (desk_of layout desk chain) base turn leads.next leads.quiet attends.0, leads.there);
      }

  -- an update closes the scan
  pub update_leg : (P : Turn → Type 0) (frame : FrameState) (old new : VTapState) (at : ℕ) (bits : List Bool) (desk_new : Token (ParkedView C) (OpenView C)) (before after : Option ChainState)
      → (P turn → Leads layout grant (ClosesAt frame old at grant) turn) → old.view.register ≡ Some bits → Closed layout grant (waiting desk) old new desk_new before after
      → Attends layout grant base_desk base P desk before turn → GoesTo layout grant (Attends layout grant base_desk base (ShiftsAt frame new at grant) desk_new after) turn
  update_leg P frame old new at bits desk_new None after went register closed attends = absurd attends
  update_leg P frame old new at bits desk_new (Some chain) None went register closed attends = absurd (closed.updated bits register)
  update_leg P frame old new at bits desk_new (Some chain) (Some chain_new) went register closed attends =
      let on = update_on layout grant sound.parts (group_of_laws layout (group_of layout.grants grant) sound.group_is) base_desk (desk_of layout desk chain) base turn whole attends.0 frame old at (went attends.1) bits chain_new register (closed.updated bits register) in
      let shows = shown_as layout desk_new chain_new None (waiting desk) None closed.free closed.waits_are closed.scan in
      record {
        next = on.next;
        steps = on.steps;
        made = on.made;
        kept = on.kept;
        there = (
          subst (λ d. Follows layout (group_of layout.grants grant) grant base_desk base d on.next) shows on.there.0,
          subst (λ tap. ShiftsAt frame tap at grant on.next) (sym closed.tap) on.there.1,
        );
      }

  -- the grant waits
  pub wait_leg : (P : Turn → Type 0) (frame : FrameState) (tap : VTapState) (at cycles : ℕ) (desk_new : Token (ParkedView C) (OpenView C)) (before after : Option ChainState)
      → (P turn → Leads layout grant (ShiftsAt frame tap at grant) turn) → at_capture tap.view ≡ true → HoldsShift frame cycles → at < cycles → Answers desk grant (asked.Wait desk_new) → before ≡ after
      → Attends layout grant base_desk base P desk before turn → GoesTo layout grant (Attends layout grant base_desk base (WaitsAt layout frame tap at grant) desk_new after) turn
  wait_leg P frame tap at cycles desk_new None after went capture held lt answer same attends = absurd attends
  wait_leg P frame tap at cycles desk_new (Some chain) after went capture held lt answer same attends =
      let on = wait_on layout grant sound.parts (group_of_laws layout (group_of layout.grants grant) sound.group_is) base_desk (desk_of layout desk chain) base turn whole attends.0 frame tap at (went attends.1) capture (omega (arith, held.tms)) (omega (arith, held.tdi)) answer.0 in
      let shows = shown_as layout desk_new chain (holder desk) (with_waiting grant (waiting desk)) (scan_on layout desk.side) (ap holder_of answer.1) answer.2 (ap (scan_on layout) answer.1) in
      subst (λ told. GoesTo layout grant (Attends layout grant base_desk base (WaitsAt layout frame tap at grant) desk_new told) turn) same
      (record {
        next = on.next;
        steps = on.steps;
        made = on.made;
        kept = on.kept;
        there = (subst (λ d. Follows layout (group_of layout.grants grant) grant base_desk base d on.next) shows on.there.0, on.there.1);
      })

  -- a capture opens the scan
  pub capture_leg : (P : Turn → Type 0) (frame frame_new : FrameState) (old new : VTapState) (at cycles : ℕ) (parked : ParkedView C) (queue : List ℕ) (desk_new : Token (ParkedView C) (OpenView C)) (before at_rest after : Option ChainState)
      → (P turn → Leads layout grant (ShiftsAt frame old at grant) turn) → at_capture old.view ≡ true → HoldsShift frame cycles → at < cycles → Answers desk grant (asked.Yours parked queue) → before ≡ at_rest → new.parts ≡ old.parts
      → Entered layout grant at queue frame frame_new old new desk_new at_rest after
      → Attends layout grant base_desk base P desk before turn → GoesTo layout grant (Attends layout grant base_desk base (ShiftsAt frame_new new (at + 1) grant) desk_new after) turn
  capture_leg P frame frame_new old new at cycles parked queue desk_new before None after went capture held lt answer same parts went_in attends = absurd (subst (λ told. Attends layout grant base_desk base P desk told turn) same attends)
  capture_leg P frame frame_new old new at cycles parked queue desk_new before (Some chain) None went capture held lt answer same parts went_in attends = absurd went_in.captured
  capture_leg P frame frame_new old new at cycles parked queue desk_new before (Some chain) (Some chain_new) went capture held lt answer same parts went_in attends =
      let here = subst (λ told. Attends layout grant base_desk base P desk told turn) same attends in
      let in_tms : at < length (tms_bits frame) = omega (arith, held.tms) in
      let in_tdi : at < length (tdi_bits frame) = omega (arith, held.tdi) in
      let on = capture_on layout grant sound.parts (group_of_laws layout (group_of layout.grants grant) sound.group_is) base_desk (desk_of layout desk chain) base turn whole here.0 frame old at (went here.1) capture in_tms in_tdi
      answer.0 went_in.bits chain_new went_in.captured frame_new new parts went_in.put went_in.scan_open went_in.moved in
      let shows = shown_as layout desk_new chain_new (Some grant) (without grant (waiting desk)) (Some (record { grant = grant; codes = old.view.codes })) went_in.held (went_in.waits_are ∙ answer.2) went_in.scan in
      let one : suc at ≡ at + 1 = omega arith in
      record {
        next = on.next;
        steps = on.steps;
        made = on.made;
        kept = on.kept;
        there = (
          subst (λ d. Follows layout (group_of layout.grants grant) grant base_desk base d on.next) shows on.there.0,
          subst (λ k. ShiftsAt frame_new new k grant on.next) one on.there.1,
        );
      }

pub some_bits : (register : Option (List Bool)) → is_some register ≡ true → (bits : List Bool) × (register ≡ Some bits)
some_bits None h = absurd (let q : false ≡ true = h in cc)
some_bits (Some bits) h = (bits, refl)

-- the desk of a grant whose virtual TAP went on
pub desk_on : {C : Type 0} (layout : LayoutShape) (grant : ℕ) (old new : TapView) (desk next : Token (ParkedView C) (OpenView C)) → IsDesk layout grant old desk → new.scan_open ≡ old.scan_open → (old.scan_open ≡ true → new.codes ≡ old.codes)
    → next.side ≡ desk.side → IsDesk layout grant new next
desk_on {C} layout grant old new desk next is scan codes side = record {
  holds = ap (λ s. is_holder (holder_of s) grant) side ∙ is.holds ∙ sym scan;
  fits = subst (SideFits layout grant new.codes) (sym side) (by desk.side is.holds is.fits);
}
  where
    by : (s : Side (ParkedView C) (OpenView C)) → is_holder (holder_of s) grant ≡ old.scan_open → SideFits layout grant old.codes s → SideFits layout grant new.codes s
    by (Free parked) holds fits = tt
    by (Held held holder) holds fits = λ mine. subst (λ cs. HoldsScan layout grant cs held) (sym (codes (sym holds ∙ eq-eqb holder grant mine))) (fits mine)

-- legs in a row
pub more_legs : {C : Type 0} (layout : LayoutShape) (grant : ℕ) (base_desk : DeskView) (base turn : Turn) (Q R : Turn → Type 0) (desk next : Token (ParkedView C) (OpenView C)) (now after : Option ChainState)
    → GoesTo layout grant (Attends layout grant base_desk base Q desk now) turn
    → ((here : Turn) → Attends layout grant base_desk base Q desk now here → GoesTo layout grant (Attends layout grant base_desk base R next after) here)
    → GoesTo layout grant (Attends layout grant base_desk base R next after) turn
more_legs layout grant base_desk base turn Q R desk next now after first more = goes_more layout grant (Attends layout grant base_desk base Q desk now) (Attends layout grant base_desk base R next after) turn first more

-- a capture where the session had waited
module _ (layout : LayoutShape) (grant : ℕ) (sound : IsSound layout grant) (base_desk : DeskView) (base turn : Turn) (whole : IsWhole layout base_desk.chain) {C : Type 0} (desk : Token (ParkedView C) (OpenView C)) where
  pub resumed_leg : (frame frame_new : FrameState) (old new : VTapState) (at cycles : ℕ) (parked : ParkedView C) (queue : List ℕ) (desk_new : Token (ParkedView C) (OpenView C)) (before at_rest after : Option ChainState)
      → at_capture old.view ≡ true → HoldsShift frame cycles → at < cycles → Answers desk grant (asked.Yours parked queue) → before ≡ at_rest → new.parts ≡ old.parts
      → Entered layout grant at queue frame frame_new old new desk_new at_rest after
      → Attends layout grant base_desk base (SampledAt frame old at grant) desk before turn → GoesTo layout grant (Attends layout grant base_desk base (ShiftsAt frame_new new (at + 1) grant) desk_new after) turn
  resumed_leg frame frame_new old new at cycles parked queue desk_new before None after capture held lt answer same parts went_in attends = absurd (subst (λ told. Attends layout grant base_desk base (SampledAt frame old at grant) desk told turn) same attends)
  resumed_leg frame frame_new old new at cycles parked queue desk_new before (Some chain) None capture held lt answer same parts went_in attends = absurd went_in.captured
  resumed_leg frame frame_new old new at cycles parked queue desk_new before (Some chain) (Some chain_new) capture held lt answer same parts went_in attends =
      let here = subst (λ told. Attends layout grant base_desk base (SampledAt frame old at grant) desk told turn) same attends in
      let in_tdi : at < length (tdi_bits frame) = omega (arith, held.tdi) in
      let on = capture_from layout grant sound.parts (group_of_laws layout (group_of layout.grants grant) sound.group_is) base_desk (desk_of layout desk chain) base turn whole here.0 frame old at turn here.0 here.1 capture
      answer.0 went_in.bits chain_new went_in.captured frame_new new in_tdi parts went_in.put went_in.scan_open went_in.moved in
      let shows = shown_as layout desk_new chain_new (Some grant) (without grant (waiting desk)) (Some (record { grant = grant; codes = old.view.codes })) went_in.held (went_in.waits_are ∙ answer.2) went_in.scan in
      let one : suc at ≡ at + 1 = omega arith in
      record {
        next = on.next;
        steps = on.steps;
        made = on.made;
        kept = on.kept;
        there = (
          subst (λ d. Follows layout (group_of layout.grants grant) grant base_desk base d on.next) shows on.there.0,
          subst (λ k. ShiftsAt frame_new new k grant on.next) one on.there.1,
        );
      }
