-- A session begins in a play.
use Rattle.std.proofs.Common.{◌≡◌, ◌≢◌, ◌<◌, ◌&&◌, ℕ, Bool, true, false, cond, List, [], length, refl, ap, sym, ◌∙◌, subst, arith, inl, inr, ◌⊎◌, Some, None}
use Rattle.std.specs.declared.option.Option.{Option}
use Rattle.std.specs.List.{slice_set}
use Rattle.std.proofs.lemmas.Bool.{eq-eqb}
use Rattle.std.proofs.lemmas.Bool.Decides.{eqb_tells}
use Rattle.std.proofs.lemmas.List.{get_or-set_same, get_or-set_other, length-set}
use Rattle.part_model.specs.Parts.{DeviceType}
use Rattle.part_model.proofs.Accepted.{IsSoundPart}
use Rattle.chain_model.specs.Chains.{ChainState}
use Rattle.chain_token.specs.Waiting.{may_open}
use Rattle.grant_table.specs.Kept.{AllParts}
use Rattle.grant_table.specs.Layouts.{LayoutShape, group_of}
use Rattle.scan_share.specs.PrivateChains.{entries_at, nets_within}
use Rattle.scan_share.specs.Scans.{IsOpenFor, code_list, types_of}
use Rattle.scan_share.proofs.Kept.{AllSound, entries_each}
use Rattle.scan_share.proofs.MadeOf.{all_sound}
use Rattle.scan_share.proofs.WholeUpdate.{reset_contents}
use Rattle.client_session.specs.declared.Stand.{Stand}
use Rattle.client_session.specs.Seats.{Seat, IsFinished, opens_next}
use Rattle.client_session.specs.Private.{opened}
use Rattle.client_session.specs.Turns.{Turn, gone_on, is_holder}
use Rattle.client_session.specs.Paces.{IsSeatOver}
use Rattle.client_session.specs.Sessions.{SessionView, Shows, is_taken}
use Rattle.client_session.proofs.Drops.{opened_finished}
use Rattle.client_session.proofs.Kept.{opened_over}
use Rattle.client_session.proofs.Resting.{as_is, gone_on_rests, idle_step}
use Rattle.plays.specs.Plays.{Setting, Play, after_change, after_turn, all_steps_left, go, handed_on, is_waiting, next_in_line, no_seat, seat_at, turn_at, with_seat}
use Rattle.plays.specs.Schedule.{going_on_from, went_on}
use Rattle.plays.specs.Stands.{ChainStands, HubView, SeatView}
use Rattle.plays.proofs.Lists.{false_true, not_eq}
use Rattle.plays.proofs.Turning.{go_turn, times_turns}
use Rattle.session_table.specs.declared.seats.Seats.{Seats}
use Rattle.session_table.specs.declared.table.Slot.{Slot}
use Rattle.session_table.specs.Shown.{hub_of, is_out}
use Rattle.session_table.specs.AtDesk.{Begins, EntryFits, SeatsFit, ShowsOpened, entry}
use Rattle.session_table.specs.Tables.{FollowsOpening, IsCalm, IsFew, IsUnderWay, SeatShown, StandsOn, TableStands, TableView, no_view, stand_at, view_at, with_given}
use Rattle.session_table.proofs.Contents.{holds_same}
use Rattle.session_table.proofs.Handing.{none_going, none_times}
use Rattle.session_table.proofs.Opening.{begins_view, begun_view}
use Rattle.session_table.proofs.Telling.{inside_of, length_of, session_is, view_in, view_of}

module _ (setting : Setting) (play : Play) (grant conn : ℕ) (there : grant < length play.seats) where
  abbrev pub next : Play
  next = with_seat grant (opened conn (seat_at play grant)) play

  pub own_opened : seat_at next grant ≡ opened conn (seat_at play grant)
  own_opened = get_or-set_same play.seats grant (opened conn (seat_at play grant)) no_seat there

  pub other_opened : (other : ℕ) → other ≢ grant → seat_at next other ≡ seat_at play other
  other_opened other n = get_or-set_other play.seats grant other (opened conn (seat_at play grant)) no_seat n

  module _ (held : is_holder play.holder grant ≡ false) where
    abbrev first : Turn
    first = record (turn_at play grant) { seat = opened conn (seat_at play grant) }

    rests_first : gone_on setting.layout grant first ≡ first
    rests_first = gone_on_rests setting.layout grant first (as_is setting.layout grant false (may_open play.holder play.waiting grant) first refl refl ∙ idle_step setting.layout grant first held (opened_finished conn (seat_at play grant)))

    rests_next : gone_on setting.layout grant (turn_at next grant) ≡ turn_at next grant
    rests_next = subst (λ s. gone_on setting.layout grant (record first { seat = s }) ≡ record first { seat = s }) (sym own_opened) rests_first

    goes_none : go setting grant next ≡ next
    goes_none =
        let inside : grant < length next.seats = (let l = there in omega (arith, l, length-set play.seats grant (opened conn (seat_at play grant)))) in
        go_turn setting grant next inside ∙ ap (after_turn grant next) rests_next ∙ sym (times_turns setting grant 0 next inside)

    module _ (none : next_in_line play.holder play.waiting ≡ None) where
      pub opened_play : after_change setting play (Some (record { grant = grant; seat = opened conn (seat_at play grant) })) ≡ next
      opened_play = ap (handed_on setting) goes_none ∙ none_times setting (all_steps_left next.seats) next none

      pub opened_went : went_on setting play (Some (record { grant = grant; seat = opened conn (seat_at play grant) })) ≡ []
      opened_went = ap (going_on_from setting) goes_none ∙ none_going setting (all_steps_left next.seats) next none

and_first : (a b : Bool) → (a && b) ≡ true → a ≡ true
and_first true b h = refl
and_first false b h = h

free_going : (g w d : Bool) → is_taken (cond g (cond w (cond d Stand.Leaving Stand.Waits) Stand.Going) Stand.Free) ≡ false → g ≡ false
free_going true true true h = absurd (let q : true ≡ false = h in cc)
free_going true true false h = absurd (let q : true ≡ false = h in cc)
free_going true false d h = absurd (let q : true ≡ false = h in cc)
free_going false w d h = refl

module _ (setting : Setting) (table : HubView) (given : ℕ → List ℕ) (chain : ChainState) (play : Play) (grant conn : ℕ) (view : SeatView) (flags : List Bool) (own_parts : List DeviceType)
    (stands : TableStands setting table given chain play) (lt : grant < length table.seats) (count : length table.seats ≡ length table.layout.grants) (free : stand_at table grant ≡ Stand.Free)
    (parts : AllParts table.layout.parts) (parts_are : entries_at table.layout.parts (group_of table.layout.grants grant) ≡ own_parts) (closed : (view_at table grant).session.tap.scan_open ≡ false)
    (shown : (seat : Seat) (given : List ℕ) → types_of seat.chain ≡ own_parts → Shows (view_at table grant).session false seat given → Shows view.session false (opened conn seat) []) (conn_is : view.conn ≡ conn) where
  abbrev opens : HubView
  opens = record table { seats = slice_set table.seats grant view; ready = flags }

  inside : grant < length setting.layout.grants
  inside = let e = ap (λ (l : LayoutShape). length l.grants) stands.layout in omega (arith, lt, count, e)

  there : grant < length play.seats
  there = let l = inside in omega (arith, l, stands.between.under_way.seats)

  abbrev then : Play
  then = with_seat grant (opened conn (seat_at play grant)) play

  own : seat_at then grant ≡ opened conn (seat_at play grant)
  own = own_opened setting play grant conn there

  other_seat : (other : ℕ) → other ≢ grant → seat_at then other ≡ seat_at play other
  other_seat = other_opened setting play grant conn there

  before : SeatShown (view_at table grant) (is_waiting play grant) (seat_at play grant) (given grant)
  before = stands.seats grant inside

  not_going : (seat_at play grant).going ≡ false
  not_going = free_going (seat_at play grant).going (is_waiting play grant) (seat_at play grant).gone (ap is_taken (sym before.shows.stand ∙ free))

  not_waiting : is_waiting play grant ≡ false
  not_waiting = by (is_waiting play grant) (λ w. sym not_going ∙ and_first (seat_at play grant).going _ (stands.between.calm.waits grant w))
    where
      by : (b : Bool) → (b ≡ true → false ≡ true) → b ≡ false
      by true h = false_true (h refl)
      by false h = refl

  not_held : is_holder play.holder grant ≡ false
  not_held = stands.between.under_way.scans grant ∙ sym before.shows.tap.scan ∙ closed

  OverAt : ℕ → Seat → Type 0
  OverAt g s = IsSeatOver s.protocol (entries_at setting.layout.parts (group_of setting.layout.grants g)) (nets_within (group_of setting.layout.grants g) setting.layout.nets) s

  sound : AllSound (entries_at setting.layout.parts (group_of setting.layout.grants grant))
  sound = entries_each IsSoundPart setting.layout.parts (group_of setting.layout.grants grant) (all_sound setting.layout.parts (subst (λ (l : LayoutShape). AllParts l.parts) stands.layout parts))

  -- each seat, where it holds of the one that begins and of all others
  at_each : (P : ℕ → Seat → Type 0) → P grant (opened conn (seat_at play grant)) → (other : ℕ) → P other (seat_at play other) → P other (seat_at then other)
  at_each P here other there = elim (eqb_tells other grant) [
    | inl e ↦ subst (λ g. P g (seat_at then g)) (sym e.1) (subst (P grant) (sym own) here)
    | inr n ↦ subst (P other) (sym (other_seat other n.1)) there
  ]

  under_way_opened : IsUnderWay setting then
  under_way_opened = record {
    seats = length-set play.seats grant (opened conn (seat_at play grant)) ∙ stands.between.under_way.seats;
    over = λ other. at_each (λ g s. IsSeatOver s.protocol (entries_at setting.layout.parts (group_of setting.layout.grants g)) (nets_within (group_of setting.layout.grants g) setting.layout.nets) s)
        (opened_over (entries_at setting.layout.parts (group_of setting.layout.grants grant)) (nets_within (group_of setting.layout.grants grant) setting.layout.nets) sound (seat_at play grant).protocol conn (seat_at play grant) (stands.between.under_way.over grant))
        other (stands.between.under_way.over other);
    few = λ other. at_each (λ g s. IsFew s) (record { acts = omega arith; bytes = omega arith }) other (stands.between.under_way.few other);
    scans = λ other. at_each (λ g s. is_holder play.holder g ≡ s.chain.scan_open) not_held other (stands.between.under_way.scans other);
  }

  calm_opened : IsCalm then
  calm_opened = record {
    waits = λ other w. at_each (λ g s. is_waiting play g ≡ true → opens_next s ≡ true) (λ h. false_true (sym not_waiting ∙ h)) other (stands.between.calm.waits other) w;
    rests = λ other. at_each (λ g s. IsFinished s ⊎ (is_waiting play g ≡ true)) (inl (opened_finished conn (seat_at play grant))) other (stands.between.calm.rests other);
  }

  scan_opened : (h : Option ℕ) → play.holder ≡ h → ChainStands setting play h chain → ChainStands setting then h chain
  scan_opened None e scan = scan
  scan_opened (Some h) e scan = elim (eqb_tells h grant) [
    | inl k ↦ false_true (sym not_held ∙ ap (λ o. is_holder o grant) e ∙ eq-eqb h grant k.1)
    | inr n ↦ subst (λ (s : Seat). IsOpenFor setting.layout (group_of setting.layout.grants h) (code_list s.chain) chain) (sym (other_seat h n.1)) scan
  ]

  own_shown : SeatShown view false (opened conn (seat_at play grant)) []
  own_shown = record {
    shows = shown (seat_at play grant) (given grant)
        ((stands.between.under_way.over grant).made.parts_are ∙ ap (λ (l : LayoutShape). entries_at l.parts (group_of l.grants grant)) (sym stands.layout) ∙ parts_are)
        (subst (λ w. Shows (view_at table grant).session w (seat_at play grant) (given grant)) not_waiting before.shows);
    conn = λ going. conn_is;
  }

  seats_opened : (other : ℕ) → other < length setting.layout.grants → SeatShown (view_at opens other) (is_waiting play other) (seat_at then other) (with_given grant [] given other)
  seats_opened other below = elim (eqb_tells other grant) [
    | inl e ↦ subst (λ g. SeatShown (view_at opens g) (is_waiting play g) (seat_at then g) (with_given grant [] given g)) (sym e.1)
        (subst (λ v. SeatShown v (is_waiting play grant) (seat_at then grant) (with_given grant [] given grant)) (sym (get_or-set_same table.seats grant view no_view lt))
        (subst (λ (b : Bool). SeatShown view (is_waiting play grant) (seat_at then grant) (cond b [] (given grant))) (sym (eq-eqb grant grant refl))
        (subst (λ s. SeatShown view (is_waiting play grant) s []) (sym own)
        (subst (λ w. SeatShown view w (opened conn (seat_at play grant)) []) (sym not_waiting) own_shown))))
    | inr n ↦
        subst (λ v. SeatShown v (is_waiting play other) (seat_at then other) (with_given grant [] given other)) (sym (get_or-set_other table.seats grant other view no_view n.1))
        (subst (λ (b : Bool). SeatShown (view_at table other) (is_waiting play other) (seat_at then other) (cond b [] (given other))) (sym (not_eq other grant n.1))
        (subst (λ s. SeatShown (view_at table other) (is_waiting play other) s (given other)) (sym (other_seat other n.1)) (stands.seats other below)))
  ]

  stands_opened : TableStands setting opens (with_given grant [] given) chain then
  stands_opened = record {
    layout = stands.layout;
    vector = stands.vector;
    trst = stands.trst;
    fit = stands.fit;
    holder = stands.holder;
    waiting = stands.waiting;
    joins = stands.joins;
    seats = seats_opened;
    holds = holds_same setting chain play grant (opened conn (seat_at play grant)) (reset_contents (seat_at play grant).chain.devices) stands.holds;
    whole = stands.whole;
    made = stands.made;
    scan = scan_opened play.holder refl stands.scan;
    between = record { under_way = under_way_opened; calm = calm_opened; none = stands.between.none };
  }

  pub follows_opening : FollowsOpening setting table opens given (Some chain) play grant conn
  follows_opening = record {
    free = not_going;
    stands = subst (λ p. StandsOn setting opens (with_given grant [] given) (Some chain) p) (sym (opened_play setting play grant conn there not_held stands.between.none)) stands_opened;
    none = ap (λ (p : Play). p.ends) (opened_play setting play grant conn there not_held stands.between.none);
    rests = opened_went setting play grant conn there not_held stands.between.none;
  }

-- ---- in the table

module _ {C : Type 0} (now : TableView C) (old new : Seats) (slot : Slot C) (there later : is_out slot ≡ false) (view_is : view_in old slot there ≡ now) (fits : SeatsFit old) (grant conn : ℕ) (begins : Begins grant conn old new)
    (shows : ShowsOpened grant conn old new) (lt : grant < length now.hub.seats) (free : stand_at now.hub grant ≡ Stand.Free) where
  at : EntryFits old.layout old.uses_trst grant (entry old grant)
  at = fits.each grant (inside_of now old slot there view_is grant lt)

  pub opens_play : (setting : Setting) (given : ℕ → List ℕ) (chain : Option ChainState) (play : Play) → StandsOn setting now.hub given chain play → FollowsOpening setting now.hub (hub_of new slot) given chain play grant conn
  opens_play setting given None play stands = absurd stands
  opens_play setting given (Some chain) play stands =
      subst (λ (t : TableView C). FollowsOpening setting now.hub t.hub given (Some chain) play grant conn) (sym (begins_view now old new slot there later view_is grant conn begins lt))
      (follows_opening setting now.hub given chain play grant conn (view_at (hub_of new slot) grant) (slice_set now.hub.ready grant true) (entry old grant).session.parts stands lt
      (subst (λ (t : TableView C). length t.hub.seats ≡ length t.hub.layout.grants) view_is (length_of old slot ∙ fits.count)) free
      (subst (λ (t : TableView C). AllParts t.hub.layout.parts) view_is fits.parts)
      (subst (λ (t : TableView C). entries_at t.hub.layout.parts (group_of t.hub.layout.grants grant) ≡ (entry old grant).session.parts) view_is
      (ap (λ g. entries_at old.layout.parts (group_of old.layout.grants g)) (sym at.grant_is) ∙ at.layout_is))
      (ap (λ (v : SessionView). v.tap.scan_open) (sym (session_is now old slot there view_is grant)) ∙ begins.closed)
      (λ seat before types s. subst (λ (v : SessionView). Shows v false (opened conn seat) []) (sym (ap (λ (v : SeatView). v.session) (view_of new slot grant)))
      (shows seat before types (subst (λ (v : SessionView). Shows v false seat before) (sym (session_is now old slot there view_is grant)) s)))
      (ap (λ (v : SeatView). v.conn) (begun_view now old new slot there later view_is grant conn begins lt)))
